use Rattle.loss_laws.proofs.Feeds.{of_its_feed}
use Rattle.loss_laws.proofs.laws.recording_is_of_its_feeds.Goals as goal

pub returns : goal.returns
returns c = λ streams batches cs place stream samples r is of few. of_its_feed streams batches cs place stream samples r is of few
