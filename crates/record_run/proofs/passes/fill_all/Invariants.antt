use Rattle.std.proofs.Common.{◌≡◌, ℕ, ◌<◌, ◌≤◌, [], length, slice_get, Some}
use Rattle.record_run.specs.Inlets.{InletView, IsFilled}
use Rattle.record_run.proofs.passes.fill_all.Given as goal

abbrev pub invariant-loop-place : goal.invariant-loop-place
invariant-loop-place g l = record {
  count : length l.inlets ≡ length l.fn.inlets;
  done : ((p : ℕ) (x : InletView g.row.S.Denot) → slice_get l.fn.inlets p ≡ Some x → x.ring.queue ≡ [])
      → (p : ℕ) (x y : InletView g.row.S.Denot) → p < l.place → slice_get l.fn.inlets p ≡ Some x → slice_get l.inlets p ≡ Some y
      → IsFilled g.S.Source.left g.S.Source.faults g.S.Source.mark l.batch x y;
  rest : (p : ℕ) → l.place ≤ p → slice_get l.inlets p ≡ slice_get l.fn.inlets p;
}
