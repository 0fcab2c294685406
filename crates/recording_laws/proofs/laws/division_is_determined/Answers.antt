use Rattle.recording_laws.proofs.Batches.{one_division}
use Rattle.recording_laws.proofs.laws.division_is_determined.Goals as goal

pub returns : goal.returns
returns c = λ streams batches gs hs d e. one_division streams batches gs hs d e
