-- A fault says what stands there, and is final.
use Rattle.std.proofs.Common.{◌≡◌, ℕ, zero, suc, ◌+◌, ◌-◌, ◌<◌, ◌≤◌, Bool, true, false, cond, eqb, ltb, List, [], ◌∷◌, ◌++◌, length, drop, Ok, Err, refl, sym, ap, ◌∙◌, subst, append_assoc, arith, inl, inr, ◌⊎◌}
use Rattle.std.specs.Prelude.{sum_by}
use Rattle.std.proofs.lemmas.Bool.{cases_lt, lt-ltb, le-ltb, eqb-false}
use Rattle.std.proofs.lemmas.List.Sums.{sum_by-cons}
use Rattle.xdf_model.specs.declared.types.Shape.{Shape}
use Rattle.xdf_model.specs.declared.types.Stamp.{Stamp}
use Rattle.xdf_model.specs.declared.types.Stamp.TheVariants.{None, Bits}
use Rattle.xdf_model.specs.Reading.{◌>>=◌}
use Rattle.xdf_model.specs.Sample.{Value, number, text, Sample, size_of}
use Rattle.xdf_model_laws.proofs.Bytes.{IsBytes, IsBytes-rest}
use Rattle.feed_model.specs.declared.Order.{Order}
use Rattle.feed_model.specs.Feed.{tag_text, is_text_width, text_size, text_limit, IsFeedSample}
use Rattle.feed_model.specs.FeedReading.{FeedFault, short, bad_tag, bad_width, too_long, Taken, ordered_number, ordered_at, bytes_at, tag_at, sized_text_at, text_at, bits_at, value_at, values_at, feed_sample_at}
use Rattle.feed_laws.specs.Followed.{farther}
use Rattle.feed_laws.specs.Faulty.{IsWrongValue, GoesWrong, IsFaulty}
use Rattle.feed_laws.proofs.Steps.{taken, failed}
use Rattle.feed_laws.proofs.Whole.{reads_tag, reads_value}
use Rattle.feed_laws.proofs.Samples.{reads_sample}
use Rattle.feed_laws.proofs.Cut.{more_fault}

-- ---- final

pub final : (shape : Shape) (order : Order) (b more : List ℕ) (f : FeedFault) (s : Sample) (x rest : List ℕ) → feed_sample_at shape order b ≡ failed f → (f ≡ short → ⊥) → b ++ more ≡ x ++ rest → IsFeedSample shape order s x → ⊥
final shape order b more f s x rest e not_short same is =
    let one : failed (farther (length more) f) ≡ taken s rest = sym (more_fault shape order b more f not_short e) ∙ ap (feed_sample_at shape order) same ∙ (reads_sample shape order).complete s x rest is in
    cc

-- ---- what stands there

-- a step that failed, or the next one
failed_at : {A B : Type 0} (r : Taken A) (next : A × List ℕ → Taken B) (f : FeedFault) → (r >>= next) ≡ failed f → (r ≡ failed f) ⊎ ((x : A × List ℕ) × (r ≡ Ok x) × (next x ≡ failed f))
failed_at (Ok x) next f e = inr (x, refl, e)
failed_at (Err g) next f e = inl (let k : g ≡ f = cc in ap failed k)

-- so many bytes that aren't there, or what they are
ordered_fault : (order : Order) (k : ℕ) (b : List ℕ) (f : FeedFault) → ordered_at order k b ≡ failed f → f ≡ short
unfolding ordered_at
ordered_fault order k b f e = elim (cases_lt (length b) k) [
  | inl few ↦ let t : ltb (length b) k ≡ true = lt-ltb _ _ few in let same : failed {A = ℕ} short ≡ failed f = rw t at e in cc
  | inr enough ↦ let t : ltb (length b) k ≡ false = le-ltb _ _ enough in absurd (let same : taken (ordered_number order k b) (drop k b) ≡ failed f = rw t at e in cc)
]

ordered_there : (order : Order) (k : ℕ) (b : List ℕ) (x : ℕ × List ℕ) → ordered_at order k b ≡ Ok x → (k ≤ length b) × (ordered_number order k b ≡ x.0)
unfolding ordered_at
ordered_there order k b x e = elim (cases_lt (length b) k) [
  | inl few ↦ let t : ltb (length b) k ≡ true = lt-ltb _ _ few in absurd (let same : failed short ≡ taken x.0 x.1 = rw t at e in cc)
  | inr enough ↦
      let t : ltb (length b) k ≡ false = le-ltb _ _ enough in
      let same : taken (ordered_number order k b) (drop k b) ≡ Ok x = rw t at e in
      let pair : (ordered_number order k b, drop k b) ≡ x = cc in
      (enough, ap (λ (p : ℕ × List ℕ). p.0) pair)
]

bytes_fault : (n : ℕ) (b : List ℕ) (f : FeedFault) → (bytes_at n b >>= λ t. taken (text t.0) t.1) ≡ failed f → f ≡ short
unfolding bytes_at
bytes_fault n b f e = elim (cases_lt (length b) n) [
  | inl few ↦ let t : ltb (length b) n ≡ true = lt-ltb _ _ few in let same : failed {A = Value} short ≡ failed f = rw t at e in cc
  | inr enough ↦ let t : ltb (length b) n ≡ false = le-ltb _ _ enough in absurd (let same = rw t at e in cc)
]

sized_fault : (room left n : ℕ) (b : List ℕ) (f : FeedFault) → (f ≡ short → ⊥) → sized_text_at room left n b ≡ failed f → (too_long left ≡ f) × (room < n)
unfolding sized_text_at
sized_fault room left n b f not_short e = elim (cases_lt room n) [
  | inl above ↦ let t : ltb room n ≡ true = lt-ltb _ _ above in let same : failed {A = Value} (too_long left) ≡ failed f = rw t at e in (cc, above)
  | inr fits ↦ let t : ltb room n ≡ false = le-ltb _ _ fits in absurd (not_short (bytes_fault n b f (rw t at e)))
]

width_cases : (good : Bool) (r : Taken Value) (g f : FeedFault) → cond good r (failed g) ≡ failed f → ((good ≡ true) × (r ≡ failed f)) ⊎ ((good ≡ false) × (g ≡ f))
width_cases true r g f e = inl (refl, e)
width_cases false r g f e = inr (refl, cc)

text_fault : (order : Order) (room : ℕ) (b : List ℕ) (f : FeedFault) → (f ≡ short → ⊥) → text_at order room b ≡ failed f → IsWrongValue order 0 room b f
unfolding text_at
text_fault order room [] f not_short e = absurd (not_short cc)
text_fault order room (w ∷ b) f not_short e =
    let left : length b + 1 ≡ length (w ∷ b) = omega arith in
    elim (width_cases (is_text_width w) (ordered_at order w b >>= λ n. sized_text_at room (length b + 1) n.0 n.1) (bad_width (length b + 1) w) f e) [
      | inl good ↦
          elim (failed_at (ordered_at order w b) (λ n. sized_text_at room (length b + 1) n.0 n.1) f good.1) [
            | inl g ↦ absurd (not_short (ordered_fault order w b f g))
            | inr g ↦
                let there = ordered_there order w b g.0 g.1 in
                let long = sized_fault room (length b + 1) g.0.0 g.0.1 f not_short g.2 in
                let above : room < ordered_number order w b = omega (arith, there.1, long.1) in
                let wrong : IsWrongValue order 0 room (w ∷ b) (too_long (length b + 1)) = (refl, left, w, b, refl, good.0, there.0, above) in
                subst (λ (g : FeedFault). IsWrongValue order 0 room (w ∷ b) g) long.0 wrong
          ]
      | inr bad ↦
          let wrong : IsWrongValue order 0 room (w ∷ b) (bad_width (length b + 1) w) = (refl, left, b, refl, λ good. let no_width : false ≡ true = sym bad.0 ∙ good in cc) in
          subst (λ (g : FeedFault). IsWrongValue order 0 room (w ∷ b) g) bad.1 wrong
    ]

bits_fault : (order : Order) (size : ℕ) (b : List ℕ) (f : FeedFault) → bits_at order size b ≡ failed f → f ≡ short
unfolding bits_at
bits_fault order size b f e = elim (failed_at (ordered_at order size b) (λ n. taken (number n.0) n.1) f e) [
  | inl g ↦ ordered_fault order size b f g
  | inr g ↦ absurd (let same = g.2 in cc)
]

value_fault : (order : Order) (size room : ℕ) (b : List ℕ) (f : FeedFault) → (f ≡ short → ⊥) → value_at order size room b ≡ failed f → IsWrongValue order size room b f
value_fault order zero room b f not_short e = text_fault order room b f not_short e
value_fault order (suc k) room b f not_short e = absurd (not_short (bits_fault order (suc k) b f e))

values_fault : (order : Order) (size n room : ℕ) (b : List ℕ) (f : FeedFault) → IsBytes b → (f ≡ short → ⊥) → values_at order size n room b ≡ failed f → GoesWrong order size n room b f
unfolding values_at
values_fault order size zero room b f h not_short e = absurd cc
values_fault order size (suc n) room b f h not_short e =
    elim (failed_at (value_at order size room b) (λ x. values_at order size n (room - text_size x.0) x.1 >>= λ xs. taken (x.0 ∷ xs.0) xs.1) f e) [
      | inl g ↦ let all : room ≡ room - 0 = omega arith in record { before = []; front = []; tail = b; fewer = omega arith; texts = omega arith; each = refl; whole = refl; wrong = subst (λ (m : ℕ). IsWrongValue order size m b f) all (value_fault order size room b f not_short g) }
      | inr g ↦
          let v = g.0.0 in
          let one = (reads_value order size room).sound b v g.0.1 h g.1 in
          elim (failed_at (values_at order size n (room - text_size v) g.0.1) (λ xs. taken (v ∷ xs.0) xs.1) f g.2) [
            | inl k ↦
                let more = values_fault order size n (room - text_size v) g.0.1 f (IsBytes-rest one.0 g.0.1 b h one.2) not_short k in
                let sum = sum_by-cons text_size v more.before in
                let fits = one.1.1 in
                let texts = more.texts in
                let left : room - text_size v - sum_by text_size more.before ≡ room - sum_by text_size (v ∷ more.before) = omega (arith, sum) in
                let fewer = more.fewer in
                record {
                  before = v ∷ more.before;
                  front = one.0 ++ more.front;
                  tail = more.tail;
                  fewer = omega arith;
                  texts = omega (arith, sum);
                  each = (one.0, more.front, one.1.0, more.each, refl);
                  whole = one.2 ∙ ap (λ (t : List ℕ). one.0 ++ t) more.whole ∙ sym (append_assoc one.0 more.front more.tail);
                  wrong = subst (λ (m : ℕ). IsWrongValue order size m more.tail f) left more.wrong;
                }
            | inr k ↦ absurd (let same = k.2 in cc)
          ]
    ]

tag_split : (b : List ℕ) (is_one is_two : Bool) (r : Taken Stamp) (g f : FeedFault) → cond is_one (taken None b) (cond is_two r (failed g)) ≡ failed f → (r ≡ failed f) ⊎ ((is_one ≡ false) × (is_two ≡ false) × (g ≡ f))
tag_split b true is_two r g f e = absurd cc
tag_split b false true r g f e = inl e
tag_split b false false r g f e = inr (refl, refl, cc)

tag_wrong : (shape : Shape) (order : Order) (b : List ℕ) (f : FeedFault) → (f ≡ short → ⊥) → tag_at order b ≡ failed f → IsFaulty shape order b f
unfolding tag_at
tag_wrong shape order [] f not_short e = absurd (not_short cc)
tag_wrong shape order (w ∷ b) f not_short e =
    elim (tag_split b (eqb w 1) (eqb w 2) (ordered_at order 8 b >>= λ n. taken (Bits n.0) n.1) (bad_tag (length b + 1) w) f e) [
      | inl g ↦ elim (failed_at (ordered_at order 8 b) (λ n. taken (Bits n.0) n.1) f g) [
        | inl k ↦ absurd (not_short (ordered_fault order 8 b f k))
        | inr k ↦ absurd (let same = k.2 in cc)
      ]
      | inr g ↦
          let wrong : IsFaulty shape order (w ∷ b) (bad_tag (length b + 1) w) = (omega arith, b, refl, eqb-false w 1 g.0, eqb-false w 2 g.1) in
          subst (λ (g : FeedFault). IsFaulty shape order (w ∷ b) g) g.2 wrong
    ]

behind_tag : (shape : Shape) (order : Order) (b : List ℕ) (f : FeedFault) (stamp : Stamp) (rest : List ℕ) → b ≡ tag_text order stamp ++ rest → GoesWrong order (size_of shape.format) shape.count text_limit rest f → IsFaulty shape order b f
behind_tag shape order b short stamp rest e g = g.wrong
behind_tag shape order b (bad_tag left byte) stamp rest e g = absurd g.wrong
behind_tag shape order b (bad_width left byte) stamp rest e g = (stamp, rest, e, g)
behind_tag shape order b (too_long left) stamp rest e g = (stamp, rest, e, g)

pub is_faulty : (shape : Shape) (order : Order) (b : List ℕ) (f : FeedFault) → IsBytes b → feed_sample_at shape order b ≡ failed f → (f ≡ short → ⊥) → IsFaulty shape order b f
unfolding feed_sample_at
is_faulty shape order b f h e not_short =
    elim (failed_at (tag_at order b) (λ stamp. values_at order (size_of shape.format) shape.count text_limit stamp.1 >>= λ values. taken (record { stamp = stamp.0; values = values.0 }) values.1) f e) [
      | inl g ↦ tag_wrong shape order b f not_short g
      | inr g ↦
          let tag = (reads_tag order).sound b g.0.0 g.0.1 h g.1 in
          elim (failed_at (values_at order (size_of shape.format) shape.count text_limit g.0.1) (λ values. taken (record { stamp = g.0.0; values = values.0 }) values.1) f g.2) [
            | inl k ↦
                let wrong = values_fault order (size_of shape.format) shape.count text_limit g.0.1 f (IsBytes-rest tag.0 g.0.1 b h tag.2) not_short k in
                behind_tag shape order b f g.0.0 g.0.1 (tag.2 ∙ ap (λ (t : List ℕ). t ++ g.0.1) tag.1.1) wrong
            | inr k ↦ absurd (let same = k.2 in cc)
          ]
    ]
