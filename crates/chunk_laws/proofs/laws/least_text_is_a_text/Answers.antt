use Rattle.chunk_laws.proofs.LeastChunks.{chunk_least}
use Rattle.chunk_laws.proofs.laws.least_text_is_a_text.Goals as goal

pub returns : goal.returns
returns c = chunk_least
