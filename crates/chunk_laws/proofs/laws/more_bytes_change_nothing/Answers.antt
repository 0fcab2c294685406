use Rattle.chunk_laws.proofs.MoreBytes.{at_more}
use Rattle.chunk_laws.proofs.laws.more_bytes_change_nothing.Goals as goal

pub returns : goal.returns
returns c = at_more
