use Rattle.std.proofs.Common.{arith}
use Rattle.sample_values.proofs.TextLists.{texts_few}
use Rattle.sample_values.proofs.texts.one_more.Goals as goal

pub overflow_add-result : goal.overflow_add-result
overflow_add-result c = omega (arith, texts_few c.args.count c.args.bytes.now c.requires)
