-- Of a ring that is empty again, and that dropped nothing at the last position, the last position was taken.
use Rattle.std.proofs.Common.{◌≡◌, ℕ, zero, suc, ◌+◌, ◌<◌, ◌==◌, ◌||◌, Bool, true, false, not, List, [], ◌∷◌, ◌++◌, length, map, filter, refl, sym, ap, ◌∙◌, subst, inl, inr, arith}
use Rattle.std.specs.List.{AllByRecursion}
use Rattle.std.proofs.lemmas.Bool.{eq-eqb, ne_eqb, cases_eq}
use Rattle.std.proofs.lemmas.List.Elements.{filter-append}
use Rattle.std.proofs.lemmas.List.Folds.{list_any-append}
use Rattle.xdf_model.specs.Sample.{Sample}
use Rattle.ring_model.specs.declared.entry.Entry.{Entry as RingEntry}
use Rattle.ring_model.specs.Ring.{RingState, IsReached}
use Rattle.thread_ring.specs.Ends.{AreFew}
use Rattle.recording_model.specs.Batch.{IsRising}
use Rattle.loss_model.specs.Loss.{behind_last, positions_below}
use Rattle.loss_laws.proofs.Rings.{among, places_of, IsKept, kept_reached, front_last}
use Rattle.run_model.specs.Rings.{ring_entry}

none_among : (q n : ℕ) (es : List (RingEntry Sample)) → n ≡ q + 1 → AllByRecursion (λ e. e.position + 1 < n) es → among q (places_of es) ≡ false
none_among q n [] is all = refl
none_among q n (e ∷ es) is all =
    let low = all.0 in
    ap (λ (b : Bool). b || among q (places_of es)) (ne_eqb q e.position (λ h. omega (arith, low, h))) ∙ none_among q n es is all.1

or_true : (b : Bool) → (b || (true || false)) ≡ true
or_true true = refl
or_true false = refl

-- a position below n that isn't among some is among the rest
in_rest : (q : ℕ) (ns : List ℕ) → among q ns ≡ false → among q (filter (λ p. not (among p ns)) (positions_below (suc q))) ≡ true
in_rest q ns out =
    let f : ℕ → Bool = λ p. not (among p ns) in
    let own : filter f (q ∷ []) ≡ q ∷ [] = let test : f q ≡ true = ap not out in rw test refl in
    ap (among q) (filter-append f (positions_below q) (q ∷ []) ∙ ap (λ (l : List ℕ). filter f (positions_below q) ++ l) own)
    ∙ list_any-append (λ (m : ℕ). q == m) (filter f (positions_below q)) (q ∷ [])
    ∙ ap (λ (b : Bool). among q (filter f (positions_below q)) || (b || false)) (eq-eqb q q refl)
    ∙ or_true (among q (filter f (positions_below q)))

-- so the last position is among those that were taken
last_taken : (q : ℕ) (taken dropped : List ℕ) → dropped ≡ filter (λ p. not (among p taken)) (positions_below (suc q)) → among q dropped ≡ false → among q taken ≡ true
last_taken q taken dropped is none =
    elim (among q taken) as (λ b. among q taken ≡ b → b ≡ true) [
      | true ↦ λ e. refl
      | false ↦ λ e. let there : among q dropped ≡ true = ap (among q) is ∙ in_rest q taken e in absurd cc
    ] refl

-- rising positions of which q is one, and none is above it, end with q
ends_with : (q : ℕ) (es : List (RingEntry Sample)) → IsRising (places_of es) → AllByRecursion (λ n. n < suc q) (places_of es) → among q (places_of es) ≡ true → behind_last (map ring_entry es) ≡ suc q
ends_with q [] rises all has = absurd cc
ends_with q (e ∷ []) rises all has = elim (cases_eq q e.position) [
  | inl same ↦ omega (arith, same)
  | inr other ↦ let no : among q (e.position ∷ []) ≡ false = ap (λ (b : Bool). b || false) (ne_eqb q e.position other) in absurd cc
]
ends_with q (e ∷ f ∷ es) rises all has = elim (cases_eq q e.position) [
  | inl same ↦ let up = rises.0 in let top = all.1.0 in absurd (omega (arith, same, up, top))
  | inr other ↦
      let more : among q (places_of (f ∷ es)) ≡ true = sym (ap (λ (b : Bool). b || among q (places_of (f ∷ es))) (ne_eqb q e.position other)) ∙ has in
      ends_with q (f ∷ es) rises.1 all.1 more
]

none_of : (es : List (RingEntry Sample)) → length es ≡ 0 → es ≡ []
none_of [] e = refl
none_of (x ∷ es) e = absurd (omega (arith, e))

by_front : (n : ℕ) (s : RingState Sample) (k : IsKept s) (capacity : ℕ) → k.front ≡ n → length s.puts ≡ n → AreFew capacity s.puts s.dropped → behind_last (map ring_entry s.taken) ≡ n
by_front zero s k capacity front puts few =
    let none : s.taken ≡ [] = none_of s.taken (let c = k.count in omega (arith, c, front)) in
    ap (λ (l : List (RingEntry Sample)). behind_last (map ring_entry l)) none
by_front (suc q) s k capacity front puts few =
    let T = places_of s.taken in
    let rest : places_of s.dropped ≡ filter (λ p. not (among p T)) (positions_below (suc q)) = k.rest ∙ ap (λ (n : ℕ). filter (λ p. not (among p T)) (positions_below n)) front in
    let out = none_among q (length s.puts) s.dropped (omega (arith, puts)) few.before in
    let below : AllByRecursion (λ n. n < suc q) T = subst (λ (n : ℕ). AllByRecursion (λ m. m < n) T) front k.below in
    ends_with q s.taken k.rises below (last_taken q T (places_of s.dropped) rest out)

pub behind_all : (capacity : ℕ) (s : RingState Sample) → IsReached capacity s → s.queue ≡ [] → AreFew capacity s.puts s.dropped → behind_last (map ring_entry s.taken) ≡ length s.puts
behind_all capacity s reached empty few =
    let k = kept_reached capacity s reached in
    by_front (length s.puts) s k capacity (front_last s k empty) refl few
