use Rattle.feed_reply.proofs.FirstLine.{no_front}
use Rattle.reply_model.specs.Lines.{lines_in}
use Rattle.feed_reply.proofs.lines.line_length.Goals as goal

pub line_length_from-requires : goal.line_length_from-requires
line_length_from-requires c = no_front (lines_in c.args.bytes.now)
