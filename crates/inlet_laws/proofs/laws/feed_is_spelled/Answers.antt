use Rattle.inlet_laws.proofs.Spelled.{spelled}
use Rattle.inlet_laws.proofs.laws.feed_is_spelled.Goals as goal

pub returns : goal.returns
returns c = spelled
