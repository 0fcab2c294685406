use Rattle.std.proofs.Common.{length, sym, ap, ◌∙◌}
use Rattle.sample_values.proofs.Cuts.{all_count}
use Rattle.sample_values.proofs.raw.RawSamples.len.Goals as goal

pub returns-clause-count : goal.returns-clause-count
returns-clause-count c = c.count_within.ensures.same ∙ sym (all_count c.self.inside.shape c.self.inside.count c.self.inside.bytes.items c.self.invariant) ∙ ap length c.self.view_is
