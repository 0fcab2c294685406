use Rattle.std.proofs.Common.{◌≡◌, ◌-◌}
use Rattle.xdf_model.specs.Reading.{many_at}
use Rattle.sample_values.specs.Rest.{rest_of, whole_sample_at}
use Rattle.sample_values.proofs.walk.pass_plain.Given as goal

abbrev pub invariant-loop-i : goal.invariant-loop-i
invariant-loop-i l = rest_of (many_at (whole_sample_at l.shape) l.count l.bytes) ≡ rest_of (many_at (whole_sample_at l.shape) (l.count - l.i) l.rest)
