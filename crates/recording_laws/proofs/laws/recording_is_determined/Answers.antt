use Rattle.recording_laws.proofs.Batches.{one_recording}
use Rattle.recording_laws.proofs.laws.recording_is_determined.Goals as goal

pub returns : goal.returns
returns c = λ streams batches cs ds r q. one_recording streams batches cs ds r q
