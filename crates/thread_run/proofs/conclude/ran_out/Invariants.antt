use Rattle.std.proofs.Common.{◌≡◌, ℕ, ◌<◌, slice_get, Some}
use Rattle.inlet_model.specs.declared.end.FeedEnd.{FeedEnd}
use Rattle.thread_run.specs.declared.work.InletDone.TheVariants.{Ended}
use Rattle.thread_run.specs.declared.settle.Joined.{Joined}
use Rattle.thread_run.proofs.conclude.ran_out.Given as goal

abbrev pub invariant-loop-one : goal.invariant-loop-one
invariant-loop-one g l = record {
  all : (p : ℕ) (s : Joined g.row.S.Denot) → p < l.one-index → slice_get l.settled p ≡ Some s → (e : FeedEnd) × (s.done ≡ Ended e);
}
