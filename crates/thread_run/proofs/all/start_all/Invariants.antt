use Rattle.std.proofs.Common.{◌≡◌, ℕ, length, drop, slice_get, Some, vec_capacity}
use Rattle.thread_run.specs.Owes.{Owes}
use Rattle.thread_run.specs.declared.work.Work.{Work}
use Rattle.thread_run.specs.declared.started.Started.{Started}
use Rattle.thread_run.proofs.all.start_all.Given as goal

abbrev pub invariant-loop : goal.invariant-loop
invariant-loop g l = record {
  left : l.works.items ≡ drop l.counter l.fn.works.items;
  count : length l.started.items ≡ l.counter;
  room : vec_capacity l.started ≡ vec_capacity l.fn.started;
  each : (p : ℕ) (w : Work g.row.S.Denot) (s : Started g.row.S.Denot) → slice_get l.fn.works.items p ≡ Some w → slice_get l.started.items p ≡ Some s → Owes g.S.Source.left g.S.Source.faults g.S.Source.mark w s;
}
