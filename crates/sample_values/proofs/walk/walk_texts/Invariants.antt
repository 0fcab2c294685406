use Rattle.std.proofs.Common.{◌≡◌, ◌-◌}
use Rattle.xdf_model.specs.Reading.{many_at}
use Rattle.sample_values.specs.Rest.{rest_of, whole_sample_at}
use Rattle.sample_values.proofs.walk.walk_texts.Given as goal

abbrev pub invariant-loop : goal.invariant-loop
invariant-loop l = rest_of (many_at (whole_sample_at l.shape) l.count l.bytes) ≡ rest_of (many_at (whole_sample_at l.shape) (l.count - l.counter) l.rest)
