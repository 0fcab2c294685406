use Rattle.file_laws.proofs.Readings.{read_whole}
use Rattle.file_laws.proofs.laws.file_is_read_whole.Goals as goal

pub returns : goal.returns
returns c = read_whole
