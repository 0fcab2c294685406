use Rattle.boundary_search.proofs.LawsOfDamage.{over_damage}
use Rattle.boundary_search.proofs.laws.search_goes_over_the_damage.Goals as goal

pub returns : goal.returns
returns c = over_damage
