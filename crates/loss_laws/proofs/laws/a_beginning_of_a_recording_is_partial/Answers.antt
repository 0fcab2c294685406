use Rattle.loss_laws.proofs.Partial.{recording_begun}
use Rattle.loss_laws.proofs.laws.a_beginning_of_a_recording_is_partial.Goals as goal

pub returns : goal.returns
returns c = recording_begun
