use Rattle.file_laws.proofs.Fronts.{has_front}
use Rattle.file_laws.proofs.laws.file_has_a_front.Goals as goal

pub returns : goal.returns
returns c = has_front
