use Rattle.boundary_search.proofs.LawsOfParts.{salvage_one}
use Rattle.boundary_search.proofs.laws.salvage_parts_are_determined.Goals as goal

pub returns : goal.returns
returns c = salvage_one
