use Rattle.xdf_model_laws.proofs.Readers.{one_number}
use Rattle.xdf_model_laws.proofs.laws.number_has_one_reading.Goals as goal

pub returns : goal.returns
returns c = one_number
