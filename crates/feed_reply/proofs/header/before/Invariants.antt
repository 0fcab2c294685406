use Rattle.std.proofs.Common.{◌≡◌, ◌+◌, drop}
use Rattle.reply_model.specs.Header.{length_before}
use Rattle.feed_reply.proofs.header.before.Given as goal

abbrev pub invariant-loop-i : goal.invariant-loop-i
invariant-loop-i l = length_before l.wanted l.text ≡ l.i + length_before l.wanted (drop l.i l.text)
