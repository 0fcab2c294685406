use Rattle.file_laws.proofs.Cuts.{cut_file}
use Rattle.file_laws.proofs.laws.cut_file_yields_its_whole_chunks.Goals as goal

pub returns : goal.returns
returns c = cut_file
