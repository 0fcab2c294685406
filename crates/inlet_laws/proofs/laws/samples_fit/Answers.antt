use Rattle.inlet_laws.proofs.Fits.{fit, few, asked}
use Rattle.inlet_laws.proofs.laws.samples_fit.Goals as goal

pub returns-clause-fit : goal.returns-clause-fit
returns-clause-fit c = fit

pub returns-clause-few : goal.returns-clause-few
returns-clause-few c = few

pub returns-clause-asked : goal.returns-clause-asked
returns-clause-asked c = asked
