use Rattle.boundary_search.proofs.LawsOfParts.{has_parts}
use Rattle.boundary_search.proofs.laws.a_file_has_salvage_parts.Goals as goal

pub returns : goal.returns
returns c = has_parts
