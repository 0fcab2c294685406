use Rattle.chunk_laws.proofs.Places.{one_reading}
use Rattle.chunk_laws.proofs.laws.text_has_one_reading.Goals as goal

pub returns : goal.returns
returns c = one_reading
