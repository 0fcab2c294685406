-- The readers fit the relations: what is found stands there, and what stands there is found.
use Rattle.std.proofs.Common.{◌≡◌, ℕ, zero, suc, ◌+◌, ◌^◌, ◌<◌, ◌≤◌, Bool, true, false, cond, eqb, ltb, List, [], ◌∷◌, ◌++◌, length, take, drop, Err, refl, sym, ap, ◌∙◌, subst, append_assoc, arith, inl, inr, ◌⊎◌}
use Rattle.std.proofs.lemmas.Bool.{ltb-false, le-ltb, eqb-true}
use Rattle.std.proofs.lemmas.List.{take_at, drop_at, take-append-drop, length-append, length-take}
use Rattle.xdf_model.specs.declared.types.Stamp.{Stamp}
use Rattle.xdf_model.specs.declared.types.Stamp.TheVariants.{None, Bits}
use Rattle.xdf_model.specs.Reading.{◌>>=◌}
use Rattle.xdf_model.specs.Sample.{Value, number, text, FitsStamp}
use Rattle.xdf_model_laws.proofs.Bytes.{IsBytes, IsBytes-rest, IsBytes-tail}
use Rattle.xdf_model_laws.proofs.Readers.{bind_ok, guard_ok}
use Rattle.feed_model.specs.declared.Order.{Order}
use Rattle.feed_model.specs.Feed.{ordered_bytes, tag_text, is_text_width, IsFeedValue, text_size}
use Rattle.feed_model.specs.FeedReading.{FeedFault, short, bad_tag, bad_width, too_long, Taken, ordered_number, ordered_at, bytes_at, tag_at, sized_text_at, text_at, bits_at, value_at}
use Rattle.feed_laws.proofs.Ordered.{ordered_bytes-ordered_number, ordered_number-again, ordered_number-lt, length-ordered_bytes}
use Rattle.feed_laws.proofs.Steps.{taken, same_value, same_rest, refused_not, allowed}

pub record IsReader {A : Type 0} (R : A → List ℕ → Type 0) (read : List ℕ → Taken A) : Type 0 where
  pub sound : (b : List ℕ) (a : A) (rest : List ℕ) → IsBytes b → read b ≡ taken a rest → (x : List ℕ) × R a x × (b ≡ x ++ rest)
  pub complete : (a : A) (x rest : List ℕ) → R a x → read (x ++ rest) ≡ taken a rest

-- ---- numbers and bytes

abbrev pub IsOrdered : Order → ℕ → ℕ → List ℕ → Type 0
IsOrdered order k n b = (n < 256 ^ k) × (b ≡ ordered_bytes order k n)

pub reads_ordered : (order : Order) (k : ℕ) → IsReader (IsOrdered order k) (ordered_at order k)
unfolding ordered_at
reads_ordered order k = record {
  sound = λ b a rest h e.
      let g = guard_ok (ltb (length b) k) short (ordered_number order k b, drop k b) (a, rest) e in
      let long : k ≤ length b = ltb-false _ _ g.0 in
      let value : ordered_number order k b ≡ a = ap (λ (p : ℕ × List ℕ). p.0) g.1 in
      let rest-is : drop k b ≡ rest = ap (λ (p : ℕ × List ℕ). p.1) g.1 in (
        take k b,
        (rw (← value) (ordered_number-lt order k b h), sym (ordered_bytes-ordered_number order k b h long) ∙ ap (ordered_bytes order k) value),
        rw (← rest-is) (sym (take-append-drop k b)),
      );
  complete = λ a x rest r.
      let len : length x ≡ k = ap length r.1 ∙ length-ordered_bytes order k a in
      let long : ltb (length (x ++ rest)) k ≡ false = le-ltb _ _ (omega (arith, length-append x rest)) in
      let value : ordered_number order k (x ++ rest) ≡ a = ap (λ (t : List ℕ). ordered_number order k (t ++ rest)) r.1 ∙ ordered_number-again order k a rest r.0 in
      rw (long, value, drop_at x rest k len) refl;
}

abbrev pub OfLength : ℕ → List ℕ → List ℕ → Type 0
OfLength n t b = (length t ≡ n) × (b ≡ t)

pub reads_bytes : (n : ℕ) → IsReader (OfLength n) (bytes_at n)
unfolding bytes_at
reads_bytes n = record {
  sound = λ b a rest h e.
      let g = guard_ok (ltb (length b) n) short (take n b, drop n b) (a, rest) e in
      let long : n ≤ length b = ltb-false _ _ g.0 in
      let a-is : take n b ≡ a = ap (λ (p : List ℕ × List ℕ). p.0) g.1 in
      let rest-is : drop n b ≡ rest = ap (λ (p : List ℕ × List ℕ). p.1) g.1 in
      (take n b, (rw (← a-is) (omega (arith, length-take n b)), a-is), rw (← rest-is) (sym (take-append-drop n b)));
  complete = λ a x rest r.
      let len : length x ≡ n = ap length r.1 ∙ r.0 in
      let long : ltb (length (x ++ rest)) n ≡ false = le-ltb _ _ (omega (arith, length-append x rest)) in
      rw (long, take_at x rest n len, drop_at x rest n len, r.1) refl;
}

-- ---- tags and stamps

abbrev pub IsTag : Order → Stamp → List ℕ → Type 0
IsTag order s b = FitsStamp s × (b ≡ tag_text order s)

tag_cases : (order : Order) (is_one is_two : Bool) (b : List ℕ) (f : FeedFault) (s : Stamp) (rest : List ℕ) → cond is_one (taken None b) (cond is_two (ordered_at order 8 b >>= λ n. taken (Bits n.0) n.1) (Err f)) ≡ taken s rest
    → ((is_one ≡ true) × (None ≡ s) × (b ≡ rest)) ⊎ ((is_two ≡ true) × (n : ℕ) × (ordered_at order 8 b ≡ taken n rest) × (Bits n ≡ s))
tag_cases order true is_two b f s rest e = inl (refl, same_value e, same_rest e)
tag_cases order false true b f s rest e =
    let g = bind_ok (ordered_at order 8 b) (λ n. taken (Bits n.0) n.1) (s, rest) e in
    inr (refl, g.0.0, g.1 ∙ ap (λ (t : List ℕ). taken g.0.0 t) (same_rest g.2), same_value g.2)
tag_cases order false false b f s rest e = absurd cc

tag_sound : (order : Order) (b : List ℕ) (s : Stamp) (rest : List ℕ) → IsBytes b → tag_at order b ≡ taken s rest → (x : List ℕ) × IsTag order s x × (b ≡ x ++ rest)
unfolding tag_at
tag_sound order [] s rest h e = absurd cc
tag_sound order (w ∷ b) s rest h e =
    elim (tag_cases order (eqb w 1) (eqb w 2) b (bad_tag (length b + 1) w) s rest e) [
      | inl k ↦ (1 ∷ [], subst (λ (t : Stamp). IsTag order t (1 ∷ [])) k.1 (tt, refl), ap (λ (c : ℕ). c ∷ b) (eqb-true w 1 k.0) ∙ ap (λ (t : List ℕ). 1 ∷ t) k.2)
      | inr k ↦
          let one = (reads_ordered order 8).sound b k.1 rest (IsBytes-tail w b h) k.2 in
          let body : one.0 ≡ ordered_bytes order 8 k.1 = one.1.1 in
          (2 ∷ one.0, subst (λ (t : Stamp). IsTag order t (2 ∷ one.0)) k.3 (one.1.0, ap (λ (t : List ℕ). 2 ∷ t) body), ap (λ (c : ℕ). c ∷ b) (eqb-true w 2 k.0) ∙ ap (λ (t : List ℕ). 2 ∷ t) one.2)
    ]

tag_complete : (order : Order) (s : Stamp) (x rest : List ℕ) → IsTag order s x → tag_at order (x ++ rest) ≡ taken s rest
unfolding tag_at
tag_complete order None x rest r = rw r.1 refl
tag_complete order (Bits n) x rest r = rw (r.1, (reads_ordered order 8).complete n (ordered_bytes order 8 n) rest (r.0, refl)) refl

pub reads_tag : (order : Order) → IsReader (IsTag order) (tag_at order)
reads_tag order = record { sound = tag_sound order; complete = tag_complete order }

-- ---- values

-- b is the value v as the feed sends it, and its text takes no more than the room
abbrev pub InRoom : Order → ℕ → ℕ → Value → List ℕ → Type 0
InRoom order size room v b = IsFeedValue order size v b × (text_size v ≤ room)

sized_sound : (room left n : ℕ) (b : List ℕ) (v : Value) (rest : List ℕ) → IsBytes b → sized_text_at room left n b ≡ taken v rest → (t : List ℕ) × (text t ≡ v) × (length t ≡ n) × (n ≤ room) × (b ≡ t ++ rest)
unfolding sized_text_at
sized_sound room left n b v rest h e =
    let g = refused_not (ltb room n) (too_long left) (bytes_at n b >>= λ t. taken (text t.0) t.1) (v, rest) e in
    let k = bind_ok (bytes_at n b) (λ t. taken (text t.0) t.1) (v, rest) g.1 in
    let body = (reads_bytes n).sound b k.0.0 k.0.1 h k.1 in
    let parts : b ≡ k.0.0 ++ rest = body.2 ∙ ap (λ (y : List ℕ). y ++ k.0.1) body.1.1 ∙ ap (λ (y : List ℕ). k.0.0 ++ y) (same_rest k.2) in
    (k.0.0, same_value k.2, body.1.0, ltb-false _ _ g.0, parts)

text_sound : (order : Order) (room : ℕ) (b : List ℕ) (v : Value) (rest : List ℕ) → IsBytes b → text_at order room b ≡ taken v rest → (x : List ℕ) × InRoom order 0 room v x × (b ≡ x ++ rest)
unfolding text_at
text_sound order room [] v rest h e = absurd cc
text_sound order room (w ∷ b) v rest h e =
    let good = allowed (is_text_width w) (bad_width (length b + 1) w) (ordered_at order w b >>= λ n. sized_text_at room (length b + 1) n.0 n.1) (v, rest) e in
    let g = bind_ok (ordered_at order w b) (λ n. sized_text_at room (length b + 1) n.0 n.1) (v, rest) good.1 in
    let in-b = IsBytes-tail w b h in
    let num = (reads_ordered order w).sound b g.0.0 g.0.1 in-b g.1 in
    let body = sized_sound room (length b + 1) g.0.0 g.0.1 v rest (IsBytes-rest num.0 g.0.1 b in-b num.2) g.2 in
    let t = body.0 in
    let below : length t < 256 ^ w = rw body.2 num.1.0 in
    let head : num.0 ≡ ordered_bytes order w (length t) = num.1.1 ∙ ap (ordered_bytes order w) (sym body.2) in
    let spelled : w ∷ (num.0 ++ t) ≡ w ∷ (ordered_bytes order w (length t) ++ t) = ap (λ (y : List ℕ). w ∷ (y ++ t)) head in
    let fits : length t ≤ room = omega (arith, body.2, body.3) in
    let v-text : InRoom order 0 room (text t) (w ∷ (num.0 ++ t)) = ((refl, w, good.0, below, spelled), fits) in
    let parts : w ∷ b ≡ w ∷ (num.0 ++ t) ++ rest = ap (λ (y : List ℕ). w ∷ y) (num.2 ∙ ap (λ (y : List ℕ). num.0 ++ y) body.4 ∙ sym (append_assoc num.0 t rest)) in
    (w ∷ (num.0 ++ t), subst (λ (y : Value). InRoom order 0 room y (w ∷ (num.0 ++ t))) body.1 v-text, parts)

bits_sound : (order : Order) (size room : ℕ) (b : List ℕ) (v : Value) (rest : List ℕ) → IsBytes b → bits_at order (suc size) b ≡ taken v rest → (x : List ℕ) × InRoom order (suc size) room v x × (b ≡ x ++ rest)
unfolding bits_at
bits_sound order size room b v rest h e =
    let g = bind_ok (ordered_at order (suc size) b) (λ n. taken (number n.0) n.1) (v, rest) e in
    let one = (reads_ordered order (suc size)).sound b g.0.0 g.0.1 h g.1 in
    let v-text : InRoom order (suc size) room (number g.0.0) one.0 = ((omega arith, one.1.0, one.1.1), omega arith) in
    (one.0, subst (λ (y : Value). InRoom order (suc size) room y one.0) (same_value g.2) v-text, one.2 ∙ ap (λ (t : List ℕ). one.0 ++ t) (same_rest g.2))

value_sound : (order : Order) (size room : ℕ) (b : List ℕ) (v : Value) (rest : List ℕ) → IsBytes b → value_at order size room b ≡ taken v rest → (x : List ℕ) × InRoom order size room v x × (b ≡ x ++ rest)
value_sound order zero room b v rest h e = text_sound order room b v rest h e
value_sound order (suc size) room b v rest h e = bits_sound order size room b v rest h e

value_complete : (order : Order) (size room : ℕ) (v : Value) (x rest : List ℕ) → InRoom order size room v x → value_at order size room (x ++ rest) ≡ taken v rest
unfolding text_at bits_at sized_text_at
value_complete order zero room (number n) x rest r = absurd (omega (arith, r.0.0))
value_complete order zero room (text t) x rest r =
    let w = r.0.1 in
    let good : is_text_width w ≡ true = r.0.2 in
    let head = ordered_bytes order w (length t) in
    let parts : x ++ rest ≡ w ∷ (head ++ (t ++ rest)) = ap (λ (y : List ℕ). y ++ rest) r.0.4 ∙ ap (λ (y : List ℕ). w ∷ y) (append_assoc head t rest) in
    let num = (reads_ordered order w).complete (length t) head (t ++ rest) (r.0.3, refl) in
    let roomy : ltb room (length t) ≡ false = le-ltb _ _ r.1 in
    let body = (reads_bytes (length t)).complete t t rest (refl, refl) in
    rw (parts, good, num, roomy, body) refl
value_complete order (suc size) room (number n) x rest r = rw ((reads_ordered order (suc size)).complete n x rest (r.0.1, r.0.2)) refl
value_complete order (suc size) room (text t) x rest r = absurd (omega (arith, r.0.0))

pub reads_value : (order : Order) (size room : ℕ) → IsReader (InRoom order size room) (value_at order size room)
reads_value order size room = record { sound = value_sound order size room; complete = value_complete order size room }
