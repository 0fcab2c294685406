use Rattle.drill_laws.proofs.Feeds.{drill_feed_whole}
use Rattle.drill_laws.proofs.laws.drill_feed_is_its_samples.Goals as goal

pub returns : goal.returns
returns c = drill_feed_whole
