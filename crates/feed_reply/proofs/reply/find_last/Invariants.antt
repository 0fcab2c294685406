use Rattle.std.proofs.Common.{◌≡◌, ◌-◌, ◌≤◌, length, drop}
use Rattle.reply_model.specs.Lines.{lines_in}
use Rattle.reply_model.specs.Reply.{last_of, later}
use Rattle.feed_reply.specs.Views.{seen}
use Rattle.feed_reply.proofs.reply.find_last.Given as goal

abbrev pub invariant-loop-size : goal.invariant-loop-size
invariant-loop-size l = record {
  within : l.at ≤ length l.bytes;
  same : last_of l.name l.start (lines_in (drop l.start l.bytes)) ≡ later (seen l.found) (last_of l.name l.at (lines_in (drop l.at l.bytes)));
}

abbrev pub decreases-loop-size : goal.decreases-loop-size
decreases-loop-size l = length l.bytes - l.at
