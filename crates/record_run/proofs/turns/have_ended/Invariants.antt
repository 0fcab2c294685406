use Rattle.std.proofs.Common.{◌≡◌, ℕ, ◌<◌, slice_get, Some}
use Rattle.inlet_model.specs.declared.end.FeedEnd.{FeedEnd}
use Rattle.record_run.specs.Inlets.{InletView}
use Rattle.record_run.proofs.turns.have_ended.Given as goal

abbrev pub invariant-loop-inlet : goal.invariant-loop-inlet
invariant-loop-inlet g l = record {
  all : (p : ℕ) (x : InletView g.row.S.Denot) → p < l.inlet-index → slice_get l.inlets p ≡ Some x → (e : FeedEnd) × (x.end ≡ Some e);
}
