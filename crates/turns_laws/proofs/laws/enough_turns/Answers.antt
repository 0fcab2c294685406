use Rattle.turns_laws.proofs.Enough.{enough}
use Rattle.turns_laws.proofs.laws.enough_turns.Goals as goal

pub returns : goal.returns
returns c = λ ring batch n lists some short. enough ring batch n lists some short
