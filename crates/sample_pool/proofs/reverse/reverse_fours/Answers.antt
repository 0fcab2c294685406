use Rattle.std.proofs.Common.{arith}
use Rattle.sample_pool.proofs.Numbers.{reversed_step, reversed_done}
use Rattle.sample_pool.proofs.reverse.reverse_fours.Goals as goal

pub numbers-preserved : goal.numbers-preserved
numbers-preserved c =
    reversed_step 4 c.args.from.now c.numbers.to c.reverse_four.new.to c.args.count c.numbers.i c.numbers-test.true c.reverse_four.ensures.front c.numbers.invariant

pub returns : goal.returns
returns c =
    let len = c.numbers.auto.to in
    reversed_done 4 c.args.from.now c.numbers.to c.args.count c.numbers.i c.numbers-test.false (omega arith) c.numbers.invariant
