use Rattle.std.proofs.Common.{◌∙◌, ap, map}
use Rattle.std.specs.Prelude.{string_bytes}
use Rattle.record_call.proofs.Lists.{mapped_next}
use Rattle.record_call.specs.Lines.{feed_line}
use Rattle.record_call.proofs.lines.make_lines.Goals as goal

pub loop-i-preserved : goal.loop-i-preserved
loop-i-preserved c = ap (λ t. map string_bytes t) c.in_ok-push.ensures.items ∙ mapped_next string_bytes feed_line c.loop-i.lines.items c.args.written.now.reports c.loop-i.i c.in_ok-line.line c.in-Some.report.now c.in-Some.ensures c.loop-i.invariant c.in_ok-line.ensures
