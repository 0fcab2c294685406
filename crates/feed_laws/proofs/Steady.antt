-- The reader of samples is steady.
use Rattle.std.proofs.Common.{◌≡◌, ℕ, zero, suc, ◌+◌, ◌-◌, ◌<◌, ◌≤◌, Bool, true, false, cond, eqb, ltb, List, [], ◌∷◌, ◌++◌, length, Ok, Err, refl, sym, ap, ◌∙◌, subst, append_assoc, arith}
use Rattle.std.proofs.lemmas.List.{length-append}
use Rattle.xdf_model.specs.declared.types.Shape.{Shape}
use Rattle.xdf_model.specs.declared.types.Stamp.{Stamp}
use Rattle.xdf_model.specs.declared.types.Stamp.TheVariants.{None, Bits}
use Rattle.xdf_model.specs.Reading.{◌>>=◌}
use Rattle.xdf_model.specs.Sample.{Value, number, text, Sample, size_of}
use Rattle.feed_model.specs.declared.Order.{Order}
use Rattle.feed_model.specs.Feed.{is_text_width, text_size, text_limit}
use Rattle.feed_model.specs.FeedReading.{FeedFault, short, bad_tag, bad_width, too_long, Taken, ordered_at, bytes_at, tag_at, sized_text_at, text_at, bits_at, value_at, values_at, feed_sample_at}
use Rattle.feed_laws.specs.Followed.{farther, followed, StandsWithin}
use Rattle.feed_laws.proofs.Steps.{taken, failed}
use Rattle.feed_laws.proofs.More.{IsSteady, within_more, steady_none, steady_then, steady_ordered, steady_front}

-- ---- behind a byte

-- the same for what is told of the bytes behind a byte, which the fault may be at
record IsSteadyBehind {A : Type 0} (read : List ℕ → Taken A) : Type 0 where
  more : (b more : List ℕ) → (read b ≡ failed short → ⊥) → read (b ++ more) ≡ followed more (read b)
  rest : (b : List ℕ) (a : A) (rest : List ℕ) → read b ≡ taken a rest → (x : List ℕ) × (b ≡ x ++ rest)
  fault : (b : List ℕ) (f : FeedFault) → read b ≡ failed f → StandsWithin (suc (length b)) f

behind_steady : {A : Type 0} (read : List ℕ → Taken A) → IsSteady read → IsSteadyBehind read
behind_steady read s = record {
  more = s.more;
  rest = s.rest;
  fault = λ b f e. within_more (length b) (suc (length b)) f (omega arith) (s.fault b f e);
}

behind_if : {A : Type 0} (c : Bool) (p q : List ℕ → Taken A) → IsSteadyBehind p → IsSteadyBehind q → IsSteadyBehind (λ b. cond c (p b) (q b))
behind_if true p q s t = record { more = s.more; rest = s.rest; fault = s.fault }
behind_if false p q s t = record { more = t.more; rest = t.rest; fault = t.fault }

-- a fault at the byte itself
behind_fault : {A : Type 0} (at : ℕ → FeedFault) → ((left more : ℕ) → farther more (at left) ≡ at (left + more)) → ((left n : ℕ) → 0 < left → left ≤ n → StandsWithin n (at left)) → IsSteadyBehind {A = A} (λ b. failed (at (length b + 1)))
behind_fault at moves within = record {
  more = λ b more h.
      let place : length (b ++ more) + 1 ≡ length b + 1 + length more = omega (arith, length-append b more) in
      ap (λ (l : ℕ). failed (at l)) place ∙ ap failed (sym (moves (length b + 1) (length more)));
  rest = λ b a rest e. absurd cc;
  fault = λ b f e. let g : at (length b + 1) ≡ f = cc in subst (StandsWithin (suc (length b))) g (within (length b + 1) (suc (length b)) (omega arith) (omega arith));
}

-- ---- tags

behind_tag : (order : Order) (w : ℕ) → IsSteadyBehind (λ b. cond (eqb w 1) (taken None b) (cond (eqb w 2) (ordered_at order 8 b >>= λ n. taken (Bits n.0) n.1) (failed (bad_tag (length b + 1) w))))
behind_tag order w =
    let stamp = steady_then (ordered_at order 8) (λ (n : ℕ) (b : List ℕ). taken (Bits n) b) (steady_ordered order 8) (λ n. steady_none (Bits n)) in
    let wrong : IsSteadyBehind {A = Stamp} (λ b. failed (bad_tag (length b + 1) w)) = behind_fault (λ l. bad_tag l w) (λ left more. refl) (λ left n low high. (low, high)) in
    let other = behind_if (eqb w 2) (λ b. ordered_at order 8 b >>= λ n. taken (Bits n.0) n.1) (λ b. failed (bad_tag (length b + 1) w)) (behind_steady (λ b. ordered_at order 8 b >>= λ n. taken (Bits n.0) n.1) stamp) wrong in
    behind_if (eqb w 1) (λ b. taken None b) (λ b. cond (eqb w 2) (ordered_at order 8 b >>= λ n. taken (Bits n.0) n.1) (failed (bad_tag (length b + 1) w))) (behind_steady (λ b. taken None b) (steady_none None)) other

tag_more : (order : Order) (b more : List ℕ) → (tag_at order b ≡ failed short → ⊥) → tag_at order (b ++ more) ≡ followed more (tag_at order b)
unfolding tag_at
tag_more order [] more h = absurd (h refl)
tag_more order (w ∷ b) more h = (behind_tag order w).more b more h

tag_rest : (order : Order) (b : List ℕ) (s : Stamp) (rest : List ℕ) → tag_at order b ≡ taken s rest → (x : List ℕ) × (b ≡ x ++ rest)
unfolding tag_at
tag_rest order [] s rest e = absurd cc
tag_rest order (w ∷ b) s rest e = let k = (behind_tag order w).rest b s rest e in (w ∷ k.0, ap (λ (t : List ℕ). w ∷ t) k.1)

-- a tag takes at least one byte
pub tag_takes : (order : Order) (b : List ℕ) (s : Stamp) (rest : List ℕ) → tag_at order b ≡ taken s rest → length rest < length b
unfolding tag_at
tag_takes order [] s rest e = absurd cc
tag_takes order (w ∷ b) s rest e = let k = (behind_tag order w).rest b s rest e in omega (arith, ap length k.1, length-append k.0 rest)

tag_fault : (order : Order) (b : List ℕ) (f : FeedFault) → tag_at order b ≡ failed f → StandsWithin (length b) f
unfolding tag_at
tag_fault order [] f e = let g : short ≡ f = cc in subst (StandsWithin 0) g tt
tag_fault order (w ∷ b) f e = (behind_tag order w).fault b f e

pub steady_tag : (order : Order) → IsSteady (tag_at order)
steady_tag order = record { more = tag_more order; rest = tag_rest order; fault = tag_fault order }

-- ---- texts

steady_text_of : (n : ℕ) → IsSteady (λ b. bytes_at n b >>= λ t. taken (text t.0) t.1)
steady_text_of n = steady_then (bytes_at n) (λ (t : List ℕ) (b : List ℕ). taken (text t) b) (steady_front n) (λ t. steady_none (text t))

abbrev sized_by : Bool → ℕ → ℕ → List ℕ → Taken Value
sized_by c left n b = cond c (failed (too_long left)) (bytes_at n b >>= λ t. taken (text t.0) t.1)

sized_more : (c : Bool) (left left' n : ℕ) (b more : List ℕ) → left' ≡ left + length more → (sized_by c left n b ≡ failed short → ⊥) → sized_by c left' n (b ++ more) ≡ followed more (sized_by c left n b)
sized_more true left left' n b more e h = ap (λ (l : ℕ). failed (too_long l)) e
sized_more false left left' n b more e h = (steady_text_of n).more b more h

sized_rest : (c : Bool) (left n : ℕ) (b : List ℕ) (v : Value) (rest : List ℕ) → sized_by c left n b ≡ taken v rest → (x : List ℕ) × (b ≡ x ++ rest)
sized_rest true left n b v rest e = absurd cc
sized_rest false left n b v rest e = (steady_text_of n).rest b v rest e

sized_fault : (c : Bool) (left n m : ℕ) (b : List ℕ) (f : FeedFault) → 0 < left → left ≤ m → length b ≤ m → sized_by c left n b ≡ failed f → StandsWithin m f
sized_fault true left n m b f low high le e = let g : too_long left ≡ f = cc in subst (StandsWithin m) g (low, high)
sized_fault false left n m b f low high le e = within_more (length b) m f le ((steady_text_of n).fault b f e)

-- a text behind its length, of which `left` bytes are left from the width byte on
abbrev lengthy : ℕ → ℕ → Taken ℕ → Taken Value
lengthy room left r = r >>= λ n. sized_text_at room left n.0 n.1

lengthy_more : (room left left' : ℕ) (longer : Taken ℕ) (more : List ℕ) (r : Taken ℕ) → left' ≡ left + length more → ((r ≡ failed short → ⊥) → longer ≡ followed more r) → (lengthy room left r ≡ failed short → ⊥) → lengthy room left' longer ≡ followed more (lengthy room left r)
unfolding sized_text_at
lengthy_more room left left' longer more (Ok n) place e h =
    let same = e (λ wrong. absurd cc) in
    rw same (sized_more (ltb room n.0) left left' n.0 n.1 more place h)
lengthy_more room left left' longer more (Err f) place e h =
    let same = e (λ wrong. h (let k : f ≡ short = cc in ap failed k)) in
    rw same refl

lengthy_rest : (room left : ℕ) (b : List ℕ) (r : Taken ℕ) → ((n : ℕ) (rest : List ℕ) → r ≡ taken n rest → (x : List ℕ) × (b ≡ x ++ rest)) → (v : Value) (rest : List ℕ) → lengthy room left r ≡ taken v rest → (x : List ℕ) × (b ≡ x ++ rest)
unfolding sized_text_at
lengthy_rest room left b (Ok n) whole v rest e =
    let first = whole n.0 n.1 refl in
    let second = sized_rest (ltb room n.0) left n.0 n.1 v rest e in
    (first.0 ++ second.0, first.1 ∙ ap (λ (t : List ℕ). first.0 ++ t) second.1 ∙ sym (append_assoc first.0 second.0 rest))
lengthy_rest room left b (Err f) whole v rest e = absurd cc

lengthy_fault : (room left m : ℕ) (b : List ℕ) (r : Taken ℕ) → 0 < left → left ≤ m → length b ≤ m → ((n : ℕ) (rest : List ℕ) → r ≡ taken n rest → (x : List ℕ) × (b ≡ x ++ rest)) → ((f : FeedFault) → r ≡ failed f → StandsWithin (length b) f)
    → (f : FeedFault) → lengthy room left r ≡ failed f → StandsWithin m f
unfolding sized_text_at
lengthy_fault room left m b (Ok n) low high le whole fault f e =
    let first = whole n.0 n.1 refl in
    let shorter : length n.1 ≤ m = omega (arith, ap length first.1, length-append first.0 n.1) in
    sized_fault (ltb room n.0) left n.0 m n.1 f low high shorter e
lengthy_fault room left m b (Err g) low high le whole fault f e = within_more (length b) m f le (fault f (let k : g ≡ f = cc in ap failed k))

behind_width : (order : Order) (room w : ℕ) → IsSteadyBehind (λ b. cond (is_text_width w) (lengthy room (length b + 1) (ordered_at order w b)) (failed (bad_width (length b + 1) w)))
behind_width order room w =
    let num = steady_ordered order w in
    let good : IsSteadyBehind (λ b. lengthy room (length b + 1) (ordered_at order w b)) = record {
      more = λ b more h. lengthy_more room (length b + 1) (length (b ++ more) + 1) (ordered_at order w (b ++ more)) more (ordered_at order w b) (omega (arith, length-append b more)) (num.more b more) h;
      rest = λ b v rest e. lengthy_rest room (length b + 1) b (ordered_at order w b) (num.rest b) v rest e;
      fault = λ b f e. lengthy_fault room (length b + 1) (suc (length b)) b (ordered_at order w b) (omega arith) (omega arith) (omega arith) (num.rest b) (num.fault b) f e;
    } in
    let wrong : IsSteadyBehind {A = Value} (λ b. failed (bad_width (length b + 1) w)) = behind_fault (λ l. bad_width l w) (λ left more. refl) (λ left n low high. (low, high)) in
    behind_if (is_text_width w) (λ b. lengthy room (length b + 1) (ordered_at order w b)) (λ b. failed (bad_width (length b + 1) w)) good wrong

text_more : (order : Order) (room : ℕ) (b more : List ℕ) → (text_at order room b ≡ failed short → ⊥) → text_at order room (b ++ more) ≡ followed more (text_at order room b)
unfolding text_at
text_more order room [] more h = absurd (h refl)
text_more order room (w ∷ b) more h = (behind_width order room w).more b more h

text_rest : (order : Order) (room : ℕ) (b : List ℕ) (v : Value) (rest : List ℕ) → text_at order room b ≡ taken v rest → (x : List ℕ) × (b ≡ x ++ rest)
unfolding text_at
text_rest order room [] v rest e = absurd cc
text_rest order room (w ∷ b) v rest e = let k = (behind_width order room w).rest b v rest e in (w ∷ k.0, ap (λ (t : List ℕ). w ∷ t) k.1)

text_fault : (order : Order) (room : ℕ) (b : List ℕ) (f : FeedFault) → text_at order room b ≡ failed f → StandsWithin (length b) f
unfolding text_at
text_fault order room [] f e = let g : short ≡ f = cc in subst (StandsWithin 0) g tt
text_fault order room (w ∷ b) f e = (behind_width order room w).fault b f e

-- ---- values and samples

steady_bits : (order : Order) (size : ℕ) → IsSteady (bits_at order size)
unfolding bits_at
steady_bits order size =
    let s = steady_then (ordered_at order size) (λ (n : ℕ) (b : List ℕ). taken (number n) b) (steady_ordered order size) (λ n. steady_none (number n)) in
    record { more = s.more; rest = s.rest; fault = s.fault }

pub steady_value : (order : Order) (size room : ℕ) → IsSteady (value_at order size room)
steady_value order zero room = record { more = text_more order room; rest = text_rest order room; fault = text_fault order room }
steady_value order (suc k) room = let s = steady_bits order (suc k) in record { more = s.more; rest = s.rest; fault = s.fault }

pub steady_values : (order : Order) (size n room : ℕ) → IsSteady (values_at order size n room)
unfolding values_at
steady_values order size zero room = let s = steady_none {A = List Value} [] in record { more = s.more; rest = s.rest; fault = s.fault }
steady_values order size (suc n) room =
    let next = λ (v : Value) (b : List ℕ). values_at order size n (room - text_size v) b >>= λ xs. taken (v ∷ xs.0) xs.1 in
    let each = λ (v : Value). steady_then (values_at order size n (room - text_size v)) (λ (vs : List Value) (b : List ℕ). taken (v ∷ vs) b) (steady_values order size n (room - text_size v)) (λ vs. steady_none (v ∷ vs)) in
    let s = steady_then (value_at order size room) next (steady_value order size room) each in
    record { more = s.more; rest = s.rest; fault = s.fault }

abbrev sample_of : Stamp → List Value → Sample
sample_of stamp values = record { stamp = stamp; values = values }

pub steady_sample : (shape : Shape) (order : Order) → IsSteady (feed_sample_at shape order)
unfolding feed_sample_at
steady_sample shape order =
    let values = steady_values order (size_of shape.format) shape.count text_limit in
    let next = λ (stamp : Stamp) (b : List ℕ). values_at order (size_of shape.format) shape.count text_limit b >>= λ xs. taken (sample_of stamp xs.0) xs.1 in
    let each = λ (stamp : Stamp). steady_then (values_at order (size_of shape.format) shape.count text_limit) (λ (vs : List Value) (b : List ℕ). taken (sample_of stamp vs) b) values (λ vs. steady_none (sample_of stamp vs)) in
    let s = steady_then (tag_at order) next (steady_tag order) each in
    record { more = s.more; rest = s.rest; fault = s.fault }
