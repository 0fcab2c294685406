use Rattle.loss_laws.proofs.Partial.{partial_cut}
use Rattle.loss_laws.proofs.laws.a_beginning_of_a_partial_recording_is_one.Goals as goal

pub returns : goal.returns
returns c = partial_cut
