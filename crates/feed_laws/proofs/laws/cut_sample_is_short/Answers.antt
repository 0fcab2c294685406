use Rattle.feed_laws.proofs.Cut.{cut_short}
use Rattle.feed_laws.proofs.laws.cut_sample_is_short.Goals as goal

pub returns : goal.returns
returns c = cut_short
