use Rattle.chunk_laws.proofs.Places.{at_torn}
use Rattle.chunk_laws.proofs.laws.cut_chunk_is_torn.Goals as goal

pub returns : goal.returns
returns c = at_torn
