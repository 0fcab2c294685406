use Rattle.file_laws.proofs.Readings.{written_read}
use Rattle.file_laws.proofs.laws.written_file_is_read.Goals as goal

pub returns : goal.returns
returns c = written_read
