use Rattle.boundary_search.proofs.LawsOfParts.{counted_one}
use Rattle.boundary_search.proofs.laws.counted_parts_are_determined.Goals as goal

pub returns : goal.returns
returns c = counted_one
