use Rattle.std.proofs.Common.{sym, ◌∙◌}
use Rattle.std.proofs.lemmas.List.{take_rest}
use Rattle.feed_reply.proofs.FirstLine.{line_here, line_later, no_line}
use Rattle.feed_reply.proofs.lines.line_length_from.Goals as goal

pub returns-then-starts_with : goal.returns-then-starts_with
returns-then-starts_with c = line_here c.args.bytes.now c.loop-i.i (sym (rw take_rest at c.starts_with.ensures.value) ∙ c.if-starts_with.true) c.loop-i.invariant

pub loop-i-preserved : goal.loop-i-preserved
loop-i-preserved c = line_later c.args.bytes.now c.loop-i.i c.loop-i-test.true (sym (rw take_rest at c.starts_with.ensures.value) ∙ c.if-starts_with.false) c.loop-i.invariant

pub returns : goal.returns
returns c = no_line c.args.bytes.now c.loop-i.i c.loop-i-test.false c.loop-i.invariant
