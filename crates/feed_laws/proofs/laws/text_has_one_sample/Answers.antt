use Rattle.feed_laws.proofs.Cut.{one_sample}
use Rattle.feed_laws.proofs.laws.text_has_one_sample.Goals as goal

pub returns : goal.returns
returns c = one_sample
