use Rattle.std.proofs.Common.{length, sym, ap, ◌∙◌}
use Rattle.xdf_model.specs.Sample.{Sample}
use Rattle.sample_values.proofs.Cuts.{sample_count}
use Rattle.sample_values.proofs.raw_view.RawView.len.Goals as goal

pub returns : goal.returns
returns c = sym (sample_count c.self.inside.shape c.self.inside.bytes.now c.self.invariant) ∙ ap (λ (s : Sample). length s.values) c.self.view_is
