use Rattle.std.proofs.Common.{◌≡◌, take, drop}
use Rattle.reply_model.specs.Lines.{lines_in}
use Rattle.feed_reply.specs.Views.{with_front}
use Rattle.feed_reply.proofs.lines.line_length_from.Given as goal

abbrev pub invariant-loop-i : goal.invariant-loop-i
invariant-loop-i l = lines_in l.bytes ≡ with_front (take l.i l.bytes) (lines_in (drop l.i l.bytes))
