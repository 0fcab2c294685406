use Rattle.std.proofs.Common.{arith}
use Rattle.feed_reply.proofs.Digits.{adds}
use Rattle.feed_reply.proofs.status.number_of.Goals as goal

pub overflow_mul-n : goal.overflow_mul-n
overflow_mul-n c = let a = adds c.args.digits.now c.loop-digit.digit-index c.loop-digit.n c.requires.digits c.requires.few c.loop-digit-test.true c.loop-digit.invariant in omega arith

pub overflow_sub-n : goal.overflow_sub-n
overflow_sub-n c = let a = adds c.args.digits.now c.loop-digit.digit-index c.loop-digit.n c.requires.digits c.requires.few c.loop-digit-test.true c.loop-digit.invariant in a.low

pub overflow_add-n : goal.overflow_add-n
overflow_add-n c = let a = adds c.args.digits.now c.loop-digit.digit-index c.loop-digit.n c.requires.digits c.requires.few c.loop-digit-test.true c.loop-digit.invariant in omega arith

pub loop-digit-preserved : goal.loop-digit-preserved
loop-digit-preserved c = let a = adds c.args.digits.now c.loop-digit.digit-index c.loop-digit.n c.requires.digits c.requires.few c.loop-digit-test.true c.loop-digit.invariant in a.more
