use Rattle.file_laws.proofs.Readings.{has_readings}
use Rattle.file_laws.proofs.laws.file_has_readings.Goals as goal

pub returns : goal.returns
returns c = has_readings
