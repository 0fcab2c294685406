use Rattle.std.proofs.Common.{arith}
use Rattle.sample_values.proofs.Wholes.{count_few}
use Rattle.sample_values.proofs.raw.count_within.Goals as goal

pub returns-clause-small : goal.returns-clause-small
returns-clause-small c = omega (arith, count_few c.args.shape.now c.args.count c.args.bytes.now (λ i. omega (arith, c.type_inv.bytes i)) c.requires)
