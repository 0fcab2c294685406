use Rattle.reply_room.proofs.Sizes.{unjudged_short}
use Rattle.reply_room.proofs.laws.unjudged_reply_is_short.Goals as goal

pub returns : goal.returns
returns c = λ uid b e. unjudged_short uid b e
