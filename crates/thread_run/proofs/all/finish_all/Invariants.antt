use Rattle.std.proofs.Common.{◌≡◌, ℕ, length, drop, slice_get, Some, vec_capacity}
use Rattle.thread_run.specs.Work.{HasWorked}
use Rattle.thread_run.specs.Owes.{Owes}
use Rattle.thread_run.specs.declared.work.Work.{Work}
use Rattle.thread_run.specs.declared.work.Worked.{Worked}
use Rattle.thread_run.specs.declared.started.Started.{Started}
use Rattle.thread_run.proofs.all.finish_all.Given as goal

abbrev pub invariant-loop : goal.invariant-loop
invariant-loop g l = record {
  left : l.started.items ≡ drop l.counter l.fn.started.items;
  count : length l.worked.items ≡ l.counter;
  room : vec_capacity l.worked ≡ vec_capacity l.fn.worked;
  each : (p : ℕ) (s : Started g.row.S.Denot) (r : Worked g.row.S.Denot) → slice_get l.fn.started.items p ≡ Some s → slice_get l.worked.items p ≡ Some r
      → (w : Work g.row.S.Denot) → Owes g.S.Source.left g.S.Source.faults g.S.Source.mark w s → HasWorked g.S.Source.left g.S.Source.faults g.S.Source.mark w r;
}
