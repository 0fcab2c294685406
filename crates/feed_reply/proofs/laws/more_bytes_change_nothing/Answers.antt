use Rattle.feed_reply.proofs.Longer.{more_bytes}
use Rattle.feed_reply.proofs.laws.more_bytes_change_nothing.Goals as goal

pub returns : goal.returns
returns c = more_bytes
