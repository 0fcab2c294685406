use Rattle.chunk_laws.proofs.Places.{at_exact}
use Rattle.chunk_laws.proofs.laws.whole_is_a_text.Goals as goal

pub returns : goal.returns
returns c = at_exact
