use Rattle.feed_laws.proofs.Cut.{exactly}
use Rattle.feed_laws.proofs.laws.whole_is_spelled.Goals as goal

pub returns : goal.returns
returns c = exactly
