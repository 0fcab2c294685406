use Rattle.file_laws.proofs.Fronts.{one_front}
use Rattle.file_laws.proofs.laws.front_is_determined.Goals as goal

pub returns : goal.returns
returns c = one_front
