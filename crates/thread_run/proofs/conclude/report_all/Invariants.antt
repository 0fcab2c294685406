use Rattle.std.proofs.Common.{◌≡◌, length, map, take}
use Rattle.std.specs.Prelude.{vec_capacity}
use Rattle.thread_run.specs.Concluded.{report_in}
use Rattle.thread_run.proofs.conclude.report_all.Given as goal

abbrev pub invariant-loop-one : goal.invariant-loop-one
invariant-loop-one g l = record {
  items : l.reports.items ≡ map report_in (take l.one-index l.settled);
  size : length l.reports.items ≡ l.one-index;
  room : vec_capacity l.reports ≡ vec_capacity l.fn.reports;
}
