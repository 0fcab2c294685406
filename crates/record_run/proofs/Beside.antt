-- The feeds of a turn, one beside the other.
use Rattle.std.proofs.Common.{◌≡◌, ℕ, zero, suc, ◌+◌, ◌<◌, ◌≤◌, List, [], ◌∷◌, ◌++◌, length, map, slice_get, Some, refl, ap, ◌∙◌, arith}
use Rattle.std.specs.Prelude.{◌==◌, true, false}
use Rattle.std.proofs.lemmas.List.{append-nil}
use Rattle.xdf_model.specs.Sample.{Sample}
use Rattle.recording_model.specs.Batch.{Entry, Batch}
use Rattle.turns_model.specs.Turns.{kept_in, batch_of, turn, first_turns}
use Rattle.loss_model.specs.Loss.{entries_at}
use Rattle.run_model.specs.Rings.{ring_entry}
use Rattle.run_model.proofs.Batches.{entries_append}
use Rattle.record_run.specs.Kept.{kept_up_to}
use Rattle.record_run.specs.Inlets.{InletView, waiting_batches}
use Rattle.record_run.proofs.Slabs.{HasGrown, kept_before}

-- each list is one of these and something more
pub record AreGrown (batch t : ℕ) (olds news : List (List Sample)) : Type 0 where
  pub count : length news ≡ length olds
  pub each : (p : ℕ) (old new : List Sample) → slice_get olds p ≡ Some old → slice_get news p ≡ Some new → (more : List Sample) × (new ≡ old ++ more) × HasGrown batch t old more

tail_grown : (batch t : ℕ) (old new : List Sample) (olds news : List (List Sample)) → AreGrown batch t (old ∷ olds) (new ∷ news) → AreGrown batch t olds news
tail_grown batch t old new olds news k = record {
  count = omega (arith, k.count);
  each = λ p a b e h. k.each (suc p) a b e h;
}

-- a turn before stays
turn_same : (ring batch t n place : ℕ) (olds news : List (List Sample)) → 1 ≤ batch → n < t → AreGrown batch t olds news → turn ring batch n place news ≡ turn ring batch n place olds
turn_same ring batch t n place [] [] some low k = refl
turn_same ring batch t n place [] (new ∷ news) some low k = absurd (omega (arith, k.count))
turn_same ring batch t n place (old ∷ olds) [] some low k = absurd (omega (arith, k.count))
turn_same ring batch t n place (old ∷ olds) (new ∷ news) some low k =
    let one = k.each 0 old new refl refl in
    let kept : kept_in ring batch n new ≡ kept_in ring batch n old = ap (kept_in ring batch n) one.1 ∙ kept_before ring batch t n old one.0 some low one.2 in
    ap (λ (es : List Entry). batch_of place es ++ turn ring batch n (place + 1) news) kept
    ∙ ap (λ (bs : List Batch). batch_of place (kept_in ring batch n old) ++ bs) (turn_same ring batch t n (place + 1) olds news some low (tail_grown batch t old new olds news k))

pub turns_same : (ring batch t n : ℕ) (olds news : List (List Sample)) → 1 ≤ batch → n ≤ t → AreGrown batch t olds news → first_turns ring batch news n ≡ first_turns ring batch olds n
turns_same ring batch t zero olds news some le k = refl
turns_same ring batch t (suc n) olds news some le k =
    ap (λ (bs : List Batch). bs ++ turn ring batch n 0 news) (turns_same ring batch t n olds news some (omega (arith, le)) k)
    ∙ ap (λ (bs : List Batch). first_turns ring batch olds n ++ bs) (turn_same ring batch t n 0 olds news some (omega (arith, le)) k)

-- what waits in the rings is this turn
pub waiting_is_turn : {S : Type 0} (ring batch t place : ℕ) (xs : List (InletView S)) (lists : List (List Sample)) → length lists ≡ length xs
    → ((p : ℕ) (x : InletView S) (l : List Sample) → slice_get xs p ≡ Some x → slice_get lists p ≡ Some l → map ring_entry x.ring.queue ≡ kept_in ring batch t l)
    → waiting_batches place xs ≡ turn ring batch t place lists
waiting_is_turn ring batch t place [] [] count each = refl
waiting_is_turn ring batch t place [] (l ∷ lists) count each = absurd (omega (arith, count))
waiting_is_turn ring batch t place (x ∷ xs) [] count each = absurd (omega (arith, count))
waiting_is_turn ring batch t place (x ∷ xs) (l ∷ lists) count each =
    ap (λ (es : List Entry). batch_of place es ++ waiting_batches (place + 1) xs) (each 0 x l refl refl)
    ∙ ap (λ (bs : List Batch). batch_of place (kept_in ring batch t l) ++ bs) (waiting_is_turn ring batch t (place + 1) xs lists (omega (arith, count)) (λ p a b e h. each (suc p) a b e h))

-- ---- the entries of a place

pub entries_own : (place : ℕ) (es : List Entry) → entries_at place (batch_of place es) ≡ es
entries_own place [] = refl
entries_own place (e ∷ es) = let same : (place == place) ≡ true = grind arith in rw same (append-nil (e ∷ es))

entries_else : (place n : ℕ) (es : List Entry) → place < n → entries_at place (batch_of n es) ≡ []
entries_else place n [] low = refl
entries_else place n (e ∷ es) low = let apart : (n == place) ≡ false = grind (arith, low) in rw apart refl

entries_later : (ring batch t place n : ℕ) (lists : List (List Sample)) → place < n → entries_at place (turn ring batch t n lists) ≡ []
entries_later ring batch t place n [] low = refl
entries_later ring batch t place n (l ∷ lists) low =
    entries_append place (batch_of n (kept_in ring batch t l)) (turn ring batch t (n + 1) lists)
    ∙ ap (λ (es : List Entry). es ++ entries_at place (turn ring batch t (n + 1) lists)) (entries_else place n (kept_in ring batch t l) low)
    ∙ entries_later ring batch t place (n + 1) lists (omega (arith, low))

entries_before : (place n : ℕ) (es : List Entry) → n < place → entries_at place (batch_of n es) ≡ []
entries_before place n [] low = refl
entries_before place n (e ∷ es) low = let apart : (n == place) ≡ false = grind (arith, low) in rw apart refl

entries_turn : (ring batch t p n : ℕ) (lists : List (List Sample)) (l : List Sample) → slice_get lists p ≡ Some l → entries_at (n + p) (turn ring batch t n lists) ≡ kept_in ring batch t l
entries_turn ring batch t p n [] l e = absurd cc
entries_turn ring batch t zero n (m ∷ lists) l e =
    let same : m ≡ l = cc e in
    let at : n + 0 ≡ n = omega arith in
    ap (λ (q : ℕ). entries_at q (turn ring batch t n (m ∷ lists))) at
    ∙ entries_append n (batch_of n (kept_in ring batch t m)) (turn ring batch t (n + 1) lists)
    ∙ ap (λ (es : List Entry). es ++ entries_at n (turn ring batch t (n + 1) lists)) (entries_own n (kept_in ring batch t m))
    ∙ ap (λ (es : List Entry). kept_in ring batch t m ++ es) (entries_later ring batch t n (n + 1) lists (omega arith))
    ∙ append-nil (kept_in ring batch t m) ∙ ap (kept_in ring batch t) same
entries_turn ring batch t (suc p) n (m ∷ lists) l e =
    let at : n + suc p ≡ (n + 1) + p = omega arith in
    entries_append (n + suc p) (batch_of n (kept_in ring batch t m)) (turn ring batch t (n + 1) lists)
    ∙ ap (λ (es : List Entry). es ++ entries_at (n + suc p) (turn ring batch t (n + 1) lists)) (entries_before (n + suc p) n (kept_in ring batch t m) (omega arith))
    ∙ ap (λ (q : ℕ). entries_at q (turn ring batch t (n + 1) lists)) at ∙ entries_turn ring batch t p (n + 1) lists l e

pub entries_turns : (ring batch p n : ℕ) (lists : List (List Sample)) (l : List Sample) → slice_get lists p ≡ Some l → entries_at p (first_turns ring batch lists n) ≡ kept_up_to ring batch l n
entries_turns ring batch p zero lists l e = refl
entries_turns ring batch p (suc n) lists l e =
    entries_append p (first_turns ring batch lists n) (turn ring batch n 0 lists)
    ∙ ap (λ (es : List Entry). es ++ entries_at p (turn ring batch n 0 lists)) (entries_turns ring batch p n lists l e)
    ∙ ap (λ (es : List Entry). kept_up_to ring batch l n ++ es) (at_zero p ∙ entries_turn ring batch n p 0 lists l e)
  where
    at_zero : (q : ℕ) → entries_at q (turn ring batch n 0 lists) ≡ entries_at (0 + q) (turn ring batch n 0 lists)
    at_zero q = ap (λ (m : ℕ). entries_at m (turn ring batch n 0 lists)) (omega arith)
