use Rattle.std.proofs.Common.{◌≡◌}
use Rattle.xdf_model.specs.Reading.{many_at}
use Rattle.sample_values.specs.Rest.{rest_of, whole_sample_at}
use Rattle.sample_values.proofs.walk.walk_numbers.Given as goal

abbrev pub invariant-loop-left : goal.invariant-loop-left
invariant-loop-left l = rest_of (many_at (whole_sample_at l.shape) l.count l.bytes) ≡ rest_of (many_at (whole_sample_at l.shape) l.left l.rest)

abbrev pub decreases-loop-left : goal.decreases-loop-left
decreases-loop-left l = l.left
