use Rattle.std.proofs.Common.{◌+◌, [], length, ◌∙◌, arith}
use Rattle.plan_words.specs.Drafts.{drafted, draft_of, stepped}
use Rattle.plan_words.proofs.LineByLine.{goes_on, stops, ends}
use Rattle.plan_words.proofs.Answered.{draft_handed_on}
use Rattle.plan_words.proofs.Cuts.{is_none}
use Rattle.plan_words.proofs.plan.read_lines.Goals as goal

pub returns-in_err-take_step : goal.returns-in_err-take_step
returns-in_err-take_step c =
    let out = c.args.out.now in
    draft_handed_on c.from_residual.result c.in_err-take_step.field-0.0 (stepped out c.loop-rest.draft (c.loop-rest.number + 1) c.first_line.result.0.now) (drafted out (draft_of []) (Rattle.plan_model.specs.Text.said_lines c.args.text.now)) c.from_residual.ensures.1
    (λ r e. c.loop-rest.invariant.same ∙ stops out c.loop-rest.rest.now c.first_line.result.0.now c.first_line.result.1.now c.loop-rest.draft (c.loop-rest.number + 1) r c.first_line.ensures.line c.first_line.ensures.behind e) c.in_err-take_step.ensures

pub loop-rest-preserved : goal.loop-rest-preserved
loop-rest-preserved c = record {
  within = omega (arith, c.loop-rest.invariant.within, c.first_line.ensures.shorter);
  same = c.loop-rest.invariant.same ∙ goes_on c.args.out.now c.loop-rest.rest.now c.first_line.result.0.now c.first_line.result.1.now c.loop-rest.draft c.take_step.new.draft (c.loop-rest.number + 1) c.first_line.ensures.line c.first_line.ensures.behind c.in_ok-take_step.ensures;
}

pub returns : goal.returns
returns c = c.loop-rest.invariant.same ∙ ends c.args.out.now c.loop-rest.rest.now c.loop-rest.draft (c.loop-rest.number + 1) (is_none (length c.loop-rest.rest.now) c.is_empty.result c.is_empty.ensures c.loop-rest-test.false)
