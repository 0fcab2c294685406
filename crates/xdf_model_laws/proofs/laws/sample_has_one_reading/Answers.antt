use Rattle.xdf_model_laws.proofs.LeastTexts.{sample_least}
use Rattle.xdf_model_laws.proofs.Samples.{one_sample}
use Rattle.xdf_model_laws.proofs.laws.sample_has_one_reading.Goals as goal

pub returns-clause-one : goal.returns-clause-one
returns-clause-one c = one_sample

pub returns-clause-least : goal.returns-clause-least
returns-clause-least c = sample_least
