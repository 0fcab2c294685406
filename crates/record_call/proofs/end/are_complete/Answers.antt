use Rattle.std.proofs.Common.{sym, ◌∙◌, arith}
use Rattle.record_call.specs.Ends.{is_complete}
use Rattle.record_call.proofs.Lists.{not_all, all_so_far, all_of, is_there}
use Rattle.record_call.proofs.end.are_complete.Goals as goal

pub returns-in_default : goal.returns-in_default
returns-in_default c = absurd (is_there c.args.reports.now c.loop-i.i (omega (arith, c.loop-i-test.true, c.len-i-end.ensures)) c.in_default.ensures)

pub returns-then-not-is_complete : goal.returns-then-not-is_complete
returns-then-not-is_complete c = sym (not_all (λ x. is_complete x.end) c.args.reports.now c.loop-i.i c.in-Some.report.now c.in-Some.ensures (sym c.is_complete.ensures ∙ c.if-not-is_complete.true))

pub returns : goal.returns
returns c = sym (all_of (λ x. is_complete x.end) c.args.reports.now c.loop-i.i (omega (arith, c.loop-i-test.false, c.len-i-end.ensures)) c.loop-i.invariant)

pub loop-i-preserved : goal.loop-i-preserved
loop-i-preserved c = all_so_far (λ x. is_complete x.end) c.args.reports.now c.loop-i.i c.in-Some.report.now c.in-Some.ensures (sym c.is_complete.ensures ∙ c.if-not-is_complete.false) c.loop-i.invariant
