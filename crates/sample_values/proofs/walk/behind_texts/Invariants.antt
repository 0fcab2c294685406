use Rattle.std.proofs.Common.{◌≡◌, ◌-◌}
use Rattle.xdf_model.specs.Reading.{many_at}
use Rattle.xdf_model.specs.Sample.{text_at}
use Rattle.sample_values.specs.Rest.{rest_of}
use Rattle.sample_values.proofs.walk.behind_texts.Given as goal

abbrev pub invariant-loop : goal.invariant-loop
invariant-loop l = rest_of (many_at text_at l.count l.bytes) ≡ rest_of (many_at text_at (l.count - l.counter) l.rest)
