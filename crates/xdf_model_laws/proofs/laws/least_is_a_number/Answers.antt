use Rattle.xdf_model_laws.proofs.LeastTexts.{least_is, least_shortest}
use Rattle.xdf_model_laws.proofs.laws.least_is_a_number.Goals as goal

pub returns-clause-text : goal.returns-clause-text
returns-clause-text c = least_is

pub returns-clause-shortest : goal.returns-clause-shortest
returns-clause-shortest c = least_shortest
