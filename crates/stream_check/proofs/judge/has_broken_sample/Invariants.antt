use Rattle.std.proofs.Common.{◌≡◌, length}
use Rattle.std.specs.List.{list_any}
use Rattle.report_model.specs.Notes.{is_broken}
use Rattle.stream_check.proofs.judge.has_broken_sample.Given as goal

abbrev pub invariant-loop-sample : goal.invariant-loop-sample
invariant-loop-sample l = list_any (λ s. list_any is_broken s.values) l.rest ≡ list_any (λ s. list_any is_broken s.values) l.fn.samples

abbrev pub decreases-loop-sample : goal.decreases-loop-sample
decreases-loop-sample l = length l.rest
