use Rattle.std.proofs.Common.{◌≡◌, ◌||◌, length}
use Rattle.stream_check.specs.Kept.{kept_rows, bad_rows}
use Rattle.stream_check.proofs.kept.take_rows.Given as goal

abbrev pub invariant-loop-sample : goal.invariant-loop-sample
invariant-loop-sample l = record {
  kept : kept_rows l.rest l.streams ≡ kept_rows l.fn.samples l.fn.streams;
  bad : (l.bad || bad_rows l.rest l.streams) ≡ bad_rows l.fn.samples l.fn.streams;
}

abbrev pub decreases-loop-sample : goal.decreases-loop-sample
decreases-loop-sample l = length l.rest
