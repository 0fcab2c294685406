use Rattle.file_laws.proofs.Given.{given_readings}
use Rattle.file_laws.proofs.laws.readings_are_those_of_a_reader.Goals as goal

pub returns : goal.returns
returns c limit y h low = given_readings limit y h low
