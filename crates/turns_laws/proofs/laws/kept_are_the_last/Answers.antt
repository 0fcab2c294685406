use Rattle.turns_laws.proofs.Kept.{kept_is}
use Rattle.turns_laws.proofs.laws.kept_are_the_last.Goals as goal

pub returns : goal.returns
returns c = λ ring batch t samples some. kept_is ring batch t samples some
