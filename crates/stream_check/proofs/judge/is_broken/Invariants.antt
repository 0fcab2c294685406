use Rattle.std.proofs.Common.{◌≡◌, length}
use Rattle.std.specs.List.{list_any}
use Rattle.report_model.specs.Notes.{is_broken}
use Rattle.stream_check.proofs.judge.is_broken.Given as goal

abbrev pub invariant-loop-value : goal.invariant-loop-value
invariant-loop-value l = list_any is_broken l.rest ≡ list_any is_broken l.fn.sample.values

abbrev pub decreases-loop-value : goal.decreases-loop-value
decreases-loop-value l = length l.rest
