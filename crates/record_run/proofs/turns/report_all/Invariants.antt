use Rattle.std.proofs.Common.{◌≡◌, ◌≤◌, length, map, take}
use Rattle.std.specs.Prelude.{vec_capacity}
use Rattle.record_run.specs.Turning.{report_in}
use Rattle.record_run.proofs.turns.report_all.Given as goal

abbrev pub invariant-loop-inlet : goal.invariant-loop-inlet
invariant-loop-inlet g l = record {
  items : l.reports.items ≡ map report_in (take l.inlet-index l.inlets);
  size : length l.reports.items ≡ l.inlet-index;
  room : vec_capacity l.fn.reports ≤ vec_capacity l.reports;
}
