use Rattle.std.proofs.lemmas.Result.{err_from_is_err_and}
use Rattle.xdf_model.specs.Sample.{text_at}
use Rattle.sample_values.proofs.Rests.{walks_on, walk_fails, walk_ends}
use Rattle.sample_values.proofs.walk.behind_texts.Goals as goal

pub returns-in_err-rest : goal.returns-in_err-rest
returns-in_err-rest c =
    let p = err_from_is_err_and c.from_residual.result c.from_residual.ensures.1 in
    rw (p.1, p.2) (walk_fails text_at c.args.count c.loop.counter c.loop.rest.now _ _ c.loop-test.true c.in_err-rest.ensures c.loop.invariant)

pub loop-preserved : goal.loop-preserved
loop-preserved c = walks_on text_at c.args.count c.loop.counter c.loop.rest.now _ _ c.loop-test.true c.in_ok-rest.ensures c.loop.invariant

pub returns : goal.returns
returns c = walk_ends text_at c.args.count c.loop.counter c.loop.rest.now _ c.loop-test.false c.loop.invariant
