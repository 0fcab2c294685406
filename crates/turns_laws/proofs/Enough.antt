-- Turns behind the last position have no batch.
use Rattle.std.proofs.Common.{◌≡◌, ℕ, zero, suc, ◌+◌, ◌-◌, ◌*◌, ◌≤◌, ◌⊎◌, inl, inr, List, [], ◌∷◌, ◌++◌, length, take, drop, refl, sym, ap, ◌∙◌, arith}
use Rattle.std.specs.List.{AllByRecursion}
use Rattle.std.proofs.lemmas.List.{append-nil}
use Rattle.std.proofs.Math.Nat.{mul-le-mul_left, mul-le-mul_right}
use Rattle.xdf_model.specs.Sample.{Sample}
use Rattle.recording_model.specs.Batch.{Entry, Batch, entries_from}
use Rattle.turns_model.specs.Turns.{kept_in, batch_of, turn, first_turns, longest, turn_batches}
use Rattle.turns_laws.specs.Slabs.{slab}
use Rattle.turns_laws.proofs.Kept.{kept_is}

drop_none : (n : ℕ) (xs : List Sample) → length xs ≤ n → drop n xs ≡ []
drop_none zero [] le = refl
drop_none zero (x ∷ xs) le = absurd (omega arith)
drop_none (suc n) [] le = refl
drop_none (suc n) (x ∷ xs) le = drop_none n xs (omega arith)

take_nil : (n : ℕ) (xs : List Sample) → xs ≡ [] → take n xs ≡ []
take_nil zero xs e = refl
take_nil (suc n) xs e = ap (take (suc n)) e

drop_nil : (n : ℕ) (es : List Entry) → es ≡ [] → drop n es ≡ []
drop_nil zero es e = e
drop_nil (suc n) es e = ap (drop (suc n)) e

-- nothing is kept of a slab that no position is in
none_kept : (ring batch t : ℕ) (xs : List Sample) → 1 ≤ batch → length xs ≤ t * batch → kept_in ring batch t xs ≡ []
none_kept ring batch t xs some short =
    let empty : slab batch t xs ≡ [] = ap (entries_from (t * batch)) (take_nil batch (drop (t * batch) xs) (drop_none (t * batch) xs short)) in
    kept_is ring batch t xs some ∙ drop_nil (length (slab batch t xs) - ring) (slab batch t xs) empty

none_turn : (ring batch t place : ℕ) (lists : List (List Sample)) → 1 ≤ batch → AllByRecursion (λ (xs : List Sample). length xs ≤ t * batch) lists → turn ring batch t place lists ≡ []
none_turn ring batch t place [] some short = refl
none_turn ring batch t place (xs ∷ lists) some short =
    ap (λ (es : List Entry). batch_of place es ++ turn ring batch t (place + 1) lists) (none_kept ring batch t xs some short.0)
    ∙ none_turn ring batch t (place + 1) lists some short.1

more_room : (batch m n : ℕ) (lists : List (List Sample)) → m ≤ n → AllByRecursion (λ (xs : List Sample). length xs ≤ m * batch) lists → AllByRecursion (λ (xs : List Sample). length xs ≤ n * batch) lists
more_room batch m n [] le short = tt
more_room batch m n (xs ∷ lists) le short =
    let one = short.0 in
    let up = mul-le-mul_right batch le in
    (omega (arith, one, up), more_room batch m n lists le short.1)

-- so the turns from there on add nothing
further : (ring batch n k : ℕ) (lists : List (List Sample)) → 1 ≤ batch → AllByRecursion (λ (xs : List Sample). length xs ≤ n * batch) lists → first_turns ring batch lists (n + k) ≡ first_turns ring batch lists n
further ring batch n zero lists some short = let same : n + 0 ≡ n = omega arith in ap (first_turns ring batch lists) same
further ring batch n (suc k) lists some short =
    let step : n + suc k ≡ suc (n + k) = omega arith in
    let none = none_turn ring batch (n + k) 0 lists some (more_room batch n (n + k) lists (omega arith) short) in
    ap (first_turns ring batch lists) step
    ∙ ap (λ (bs : List Batch). first_turns ring batch lists (n + k) ++ bs) none
    ∙ append-nil (first_turns ring batch lists (n + k))
    ∙ further ring batch n k lists some short

all_short : (batch n : ℕ) (lists : List (List Sample)) → 1 ≤ batch → longest lists ≤ n → AllByRecursion (λ (xs : List Sample). length xs ≤ n * batch) lists
all_short batch n [] some le = tt
all_short batch n (xs ∷ lists) some le =
    let up : n * 1 ≤ n * batch = mul-le-mul_left n some in
    (omega (arith, le, up), all_short batch n lists some (omega (arith, le)))

le_or : (m n : ℕ) → (m ≤ n) ⊎ (n ≤ m)
le_or zero n = inl (omega arith)
le_or (suc m) zero = inr (omega arith)
le_or (suc m) (suc n) = elim (le_or m n) [ inl e ↦ inl (omega arith) | inr e ↦ inr (omega arith) ]

pub enough : (ring batch n : ℕ) (lists : List (List Sample)) → 1 ≤ batch → AllByRecursion (λ (xs : List Sample). length xs ≤ n * batch) lists → first_turns ring batch lists n ≡ turn_batches ring batch lists
enough ring batch n lists some short =
    let L = longest lists in
    elim (le_or n L) [
      | inl e ↦ let sum : n + (L - n) ≡ L = omega arith in sym (further ring batch n (L - n) lists some short) ∙ ap (first_turns ring batch lists) sum
      | inr e ↦ let sum : L + (n - L) ≡ n = omega arith in sym (ap (first_turns ring batch lists) sum) ∙ further ring batch L (n - L) lists some (all_short batch L lists some (omega arith))
    ]
