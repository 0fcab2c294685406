-- Patterns and digits in documents.
use Rattle.std.proofs.Common.{◌≡◌, ℕ, zero, suc, ◌+◌, ◌-◌, ◌*◌, ◌^◌, ◌<◌, ◌≤◌, true, false, List, [], ◌∷◌, ◌++◌, length, take, drop, get_or, Some, None, refl, sym, ap, ◌∙◌, arith, inl, inr, lit≤, ⊎_elim, drop-cons, drop-drop, length-drop, length-append, add-one, nat_eq}
use Rattle.std.specs.List.{starts_with}
use Rattle.std.specs.Char.{is_ascii_digit, digit_value}
use Rattle.std.specs.Str.Parse.{digits_value, AllDigits}
use Rattle.std.proofs.lemmas.Bool.{cases_Bool, cases_lt}
use Rattle.std.proofs.lemmas.Bool.Decides.{nat_tests, Decides-eqb}
use Rattle.std.proofs.lemmas.Int.Digits.{digits_value-lt, digits_value_push}
use Rattle.std.proofs.Math.ListN.{drop_of_length-le}
use Rattle.std.proofs.Math.Nat.{pow-le-pow_right}
use Rattle.std.proofs.Math.Seq.{take-append_seam}
use Rattle.std.proofs.lemmas.List.{take_more, length-take-le}
use Rattle.std.proofs.lemmas.Slice.Eq.{starts_is}
use Rattle.memchr.specs.Find.{FindsNeedle, OccursAt}
use Rattle.memchr.proofs.lemmas.MatchLemmas.{OccursAt-split, OccursAt-from_part}
use Rattle.xdf_model.specs.Shape.{behind_first}

starts_here : (p xs : List ℕ) → 0 < length xs → starts_with nat_eq xs p ≡ true → behind_first p xs ≡ Some (drop (length p) xs)
starts_here p [] lt e = absurd (omega arith)
starts_here p (x ∷ b) lt e = rw e refl

starts_later : (p xs : List ℕ) (x : ℕ) (b : List ℕ) → xs ≡ x ∷ b → starts_with nat_eq xs p ≡ false → behind_first p xs ≡ behind_first p b
starts_later p xs x b parts e =
    let f : starts_with nat_eq (x ∷ b) p ≡ false = rw parts at e in
    rw (parts, f) refl

-- the first occurrence of a pattern, by its place
module _ (p doc : List ℕ) where
  occurs : (i : ℕ) → starts_with nat_eq (drop i doc) p ≡ true → i < length doc → OccursAt doc p i
  occurs i e lt =
      let parts = (starts_is Decides-eqb (drop i doc) p _ refl).0 e in
      let fits : i + length p ≤ length doc = omega (arith, ap length parts, length-append p (drop (length p) (drop i doc)), length-drop i doc) in
      OccursAt-from_part doc p i fits (ap (take (length p)) parts ∙ take-append_seam p (drop (length p) (drop i doc)))

  stands : (i : ℕ) → OccursAt doc p i → starts_with nat_eq (drop i doc) p ≡ true
  stands i h = (starts_is Decides-eqb (drop i doc) p _ refl).1 _ (OccursAt-split doc p i h)

  not_at : (i : ℕ) → i < length doc → ¬ OccursAt doc p i → behind_first p (drop i doc) ≡ behind_first p (drop (i + 1) doc)
  not_at i lt no_occurs =
      let e : starts_with nat_eq (drop i doc) p ≡ false = ⊎_elim (λ t. absurd (no_occurs (occurs i t lt))) (λ f. f) (cases_Bool (starts_with nat_eq (drop i doc) p)) in
      rw add-one (starts_later p (drop i doc) (get_or doc i 0) (drop (suc i) doc) (drop-cons doc i 0 lt) e)

  none_from : (n i : ℕ) → i + n ≡ length doc → ((k : ℕ) → i ≤ k → ¬ OccursAt doc p k) → behind_first p (drop i doc) ≡ None
  none_from zero i len no_place = rw (drop_of_length-le doc {i = i} (omega arith)) refl
  none_from (suc n) i len no_place = not_at i (omega arith) (no_place i (omega arith)) ∙ none_from n (i + 1) (omega arith) (λ k le. no_place k (omega arith))

  some_from : (n i k : ℕ) → i + n ≡ k → k < length doc → ((m : ℕ) → i ≤ m → m < k → ¬ OccursAt doc p m) → OccursAt doc p k → behind_first p (drop i doc) ≡ Some (drop (k + length p) doc)
  some_from zero i k is lt before h =
      let same : i ≡ k = omega arith in
      let more : 0 < length (drop k doc) = omega (arith, length-drop k doc) in
      ap (λ (m : ℕ). behind_first p (drop m doc)) same ∙ starts_here p (drop k doc) more (stands k h) ∙ ap (λ (t : List ℕ). Some t) (drop-drop (length p) k doc)
  some_from (suc n) i k is lt before h = not_at i (omega arith) (before i (omega arith) (omega arith)) ∙ some_from n (i + 1) k (omega arith) lt (λ m low high. before m (omega arith) high) h

-- the empty pattern occurs at the front
front_occurs : (doc : List ℕ) → OccursAt doc [] 0
front_occurs doc = record { fits = omega arith; reads = λ j lt. absurd (omega arith) }

-- a search finds a pattern before the end, or else the document is empty
found_before : (p doc : List ℕ) (k : ℕ) → 0 < length doc → FindsNeedle doc p 0 (Some k) → k < length doc
found_before [] doc k lt h = elim (cases_lt 0 k) [
  | inl later ↦ absurd (h.0.before 0 (omega arith) later (front_occurs doc))
  | inr first ↦ omega arith
]
found_before (x ∷ p) doc k lt h = omega (arith, h.1.fits)

pub found_nowhere : (p doc : List ℕ) → FindsNeedle doc p 0 None → None ≡ behind_first p doc
found_nowhere p doc h = sym (none_from p doc (length doc) 0 (omega arith) (λ k le occ. h k le (omega (arith, occ.fits)) occ))

pub found_at : (p doc : List ℕ) (k : ℕ) → 0 < length doc → FindsNeedle doc p 0 (Some k) → Some (drop (k + length p) doc) ≡ behind_first p doc
found_at p doc k lt h = sym (some_from p doc k 0 k (omega arith) (found_before p doc k lt h) h.0.before h.1)

pub digits_push : (ds : List ℕ) (c : ℕ) → AllDigits 10 ds → digit_value c < 10 → AllDigits 10 (ds ++ c ∷ [])
digits_push [] c all d = (d, tt)
digits_push (x ∷ ds) c all d = (all.0, digits_push ds c all.1 d)

pub is_digit_value : (c : ℕ) → is_ascii_digit c ≡ true → digit_value c < 10
is_digit_value c e = grind (arith, nat_tests)

pub digits_more : (text : List ℕ) (i : ℕ) → i < length text → is_ascii_digit (get_or text i 0) ≡ true → AllDigits 10 (take i text) → AllDigits 10 (take (i + 1) text)
digits_more text i lt e all = rw (take_more text i 0 lt) (digits_push (take i text) (get_or text i 0) all (is_digit_value (get_or text i 0) e))

pub digits_take : (i : ℕ) (ds : List ℕ) → AllDigits 10 ds → AllDigits 10 (take i ds)
digits_take zero ds all = tt
digits_take (suc i) [] all = tt
digits_take (suc i) (x ∷ ds) all = (all.0, digits_take i ds all.1)

digit_at : (ds : List ℕ) (i : ℕ) → AllDigits 10 ds → i < length ds → digit_value (get_or ds i 0) < 10
digit_at [] i all lt = absurd (omega arith)
digit_at (x ∷ ds) zero all lt = all.0
digit_at (x ∷ ds) (suc i) all lt = digit_at ds i all.1 (omega arith)

digit_is : (c : ℕ) → digit_value c < 10 → (48 ≤ c) × (c ≤ 57) × (digit_value c ≡ c - 48)
digit_is c lt = (grind (arith, nat_tests), grind (arith, nat_tests), grind (arith, nat_tests))

small_power : (i : ℕ) → i < 20 → 10 ^ i ≤ 10_000_000_000_000_000_000
small_power i lt = let within : i ≤ 19 = omega arith in let m : 10 ^ i ≤ 10 ^ 19 = pow-le-pow_right (lit≤ tt) within in m

-- one more digit
pub record Adds (ds : List ℕ) (i n : ℕ) : Type 0 where
  pub low : 48 ≤ get_or ds i 0
  pub high : get_or ds i 0 ≤ 57
  pub small : n < 10_000_000_000_000_000_000
  pub more : n * 10 + (get_or ds i 0 - 48) ≡ digits_value 10 (take (i + 1) ds)

pub adds : (ds : List ℕ) (i n : ℕ) → AllDigits 10 ds → length ds ≤ 20 → i < length ds → n ≡ digits_value 10 (take i ds) → Adds ds i n
adds ds i n all few lt so_far =
    let c = get_or ds i 0 in
    let d = digit_is c (digit_at ds i all lt) in
    let bound = digits_value-lt 10 (take i ds) (digits_take i ds all) in
    let len : length (take i ds) ≡ i = length-take-le i ds (omega arith) in
    let bound' : digits_value 10 (take i ds) < 10 ^ i = rw len at bound in
    let power = small_power i (omega arith) in
    let push : digits_value 10 (take (i + 1) ds) ≡ digits_value 10 (take i ds) * 10 + digit_value c = ap (digits_value 10) (take_more ds i 0 lt) ∙ digits_value_push 10 (take i ds) c in
    record { low = d.0; high = d.1; small = omega arith; more = omega arith }
