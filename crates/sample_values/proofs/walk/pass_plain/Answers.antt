use Rattle.sample_values.specs.Rest.{whole_sample_at}
use Rattle.sample_values.proofs.Rests.{walks_on, plain_behind}
use Rattle.sample_values.proofs.walk.pass_plain.Goals as goal

pub loop-i-preserved : goal.loop-i-preserved
loop-i-preserved c =
    walks_on (whole_sample_at c.args.shape.now) c.args.count c.loop-i.i c.loop-i.rest.now _ _ c.loop-i-test.true (plain_behind c.args.shape.now c.loop-i.rest.now c.args.width c.requires.numbers c.requires.width c.if-rest-width.false c.if-rest-ne0.false) c.loop-i.invariant
