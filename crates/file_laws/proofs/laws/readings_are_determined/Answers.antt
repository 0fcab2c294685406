use Rattle.file_laws.proofs.Readings.{one_list}
use Rattle.file_laws.proofs.laws.readings_are_determined.Goals as goal

pub returns : goal.returns
returns c = one_list
