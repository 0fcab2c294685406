use Rattle.std.proofs.Common.{◌∙◌, ◌-◌}
use Rattle.std.proofs.lemmas.Result.{err_from_is_err_and}
use Rattle.xdf_model.specs.Sample.{samples_at}
use Rattle.sample_values.specs.Rest.{whole_sample_at}
use Rattle.sample_values.proofs.Rests.{steps_on, step_fails, steps_end}
use Rattle.sample_values.proofs.walk.walk_numbers.Goals as goal

pub returns-in_err-rest : goal.returns-in_err-rest
unfolding samples_at
returns-in_err-rest c =
    let p = err_from_is_err_and c.from_residual.result c.from_residual.ensures.1 in
    rw (p.1, p.2) (step_fails (whole_sample_at c.args.shape.now) (c.loop-left.left - c.pass_plain-plain.result.0) c.pass_plain-plain.result.1.now _ _ c.if-left-gt0.true c.in_err-rest.ensures (c.loop-left.invariant ∙ c.pass_plain-plain.ensures.same))

pub loop-left-preserved-then-left-gt0 : goal.loop-left-preserved-then-left-gt0
loop-left-preserved-then-left-gt0 c =
    steps_on (whole_sample_at c.args.shape.now) (c.loop-left.left - c.pass_plain-plain.result.0) c.pass_plain-plain.result.1.now _ _ c.if-left-gt0.true c.in_ok-rest.ensures (c.loop-left.invariant ∙ c.pass_plain-plain.ensures.same)

pub returns : goal.returns
unfolding samples_at
returns c = steps_end (whole_sample_at c.args.shape.now) c.loop-left.left c.loop-left.rest.now _ c.loop-left-test.false c.loop-left.invariant
