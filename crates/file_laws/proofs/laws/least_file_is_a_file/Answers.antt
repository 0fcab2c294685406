use Rattle.file_laws.proofs.Readings.{least_file}
use Rattle.file_laws.proofs.laws.least_file_is_a_file.Goals as goal

pub returns : goal.returns
returns c = least_file
