use Rattle.std.proofs.Common.{arith, sym, ◌∙◌}
use Rattle.feed_reply.proofs.Blanks.{end_stays, end_moves}
use Rattle.feed_reply.proofs.header.text_end.Goals as goal
use Rattle.feed_reply.proofs.header.text_end.Goals.{then-not-blank, else-not-blank}

pub loop-i-preserved : goal.loop-i-preserved
loop-i-preserved c =
    elim c.if-not-blank.branch [
      | then-not-blank w ↦ record { end = w.end-is ∙ end_moves c.args.text.now c.loop-i.i c.loop-i-test.true (sym c.blank.ensures ∙ w.if-not-blank.true); within = omega (arith, w.end-is) }
      | else-not-blank w ↦ record { end = w.end-is ∙ end_stays c.args.text.now c.loop-i.i c.loop-i.end c.loop-i-test.true (sym c.blank.ensures ∙ w.if-not-blank.false) c.loop-i.invariant.end; within = omega (arith, w.end-is) }
    ]
