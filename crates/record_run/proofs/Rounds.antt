-- One inlet after the other.
use Rattle.std.proofs.Common.{◌≡◌, ℕ, zero, suc, ◌+◌, List, [], ◌∷◌, ◌++◌, map, take, slice_get, Some, refl, sym, ap, ◌∙◌, arith, append_assoc}
use Rattle.std.proofs.lemmas.List.{append-nil}
use Rattle.recording_model.specs.Batch.{Entry, Batch}
use Rattle.turns_model.specs.Turns.{batch_of}
use Rattle.run_model.specs.Rings.{ring_entry}
use Rattle.record_run.specs.Inlets.{InletView, waiting_batches}

nothing_more : (place n : ℕ) (es : List Entry) → n ≡ place → batch_of place es ++ [] ≡ batch_of n es
nothing_more place n es e = append-nil (batch_of place es) ∙ ap (λ (p : ℕ). batch_of p es) (sym e)

take_suc : {S : Type 0} (place i : ℕ) (y : InletView S) (xs : List (InletView S)) → waiting_batches place (take (suc i) (y ∷ xs)) ≡ batch_of place (map ring_entry y.ring.queue) ++ waiting_batches (place + 1) (take i xs)
take_suc place i y xs = refl

-- the batches of one more inlet
pub waiting_more : {S : Type 0} (place i : ℕ) (xs : List (InletView S)) (x : InletView S) → slice_get xs i ≡ Some x
    → waiting_batches place (take (suc i) xs) ≡ waiting_batches place (take i xs) ++ batch_of (place + i) (map ring_entry x.ring.queue)
waiting_more place i [] x e = absurd cc
waiting_more {S = S} place zero (y ∷ xs) x e =
    let same : y ≡ x = cc e in
    nothing_more place (place + 0) (map ring_entry y.ring.queue) (omega arith) ∙ ap (λ (z : InletView S). batch_of (place + 0) (map ring_entry z.ring.queue)) same
waiting_more place (suc i) (y ∷ xs) x e =
    let shift : (place + 1) + i ≡ place + suc i = omega arith in
    let own = batch_of place (map ring_entry y.ring.queue) in
    ap (λ (bs : List Batch). own ++ bs) (waiting_more (place + 1) i xs x e ∙ ap (λ (p : ℕ). waiting_batches (place + 1) (take i xs) ++ batch_of p (map ring_entry x.ring.queue)) shift)
    ∙ sym (append_assoc own (waiting_batches (place + 1) (take i xs)) (batch_of (place + suc i) (map ring_entry x.ring.queue)))
