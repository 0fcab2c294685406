use Rattle.std.proofs.Common.{arith}
use Rattle.sample_values.proofs.Lengths.{length-text}
use Rattle.sample_values.proofs.size.text_size.Goals as goal

pub returns-in-Text : goal.returns-in-Text
returns-in-Text c = rw c.in-Text.is (omega (arith, length-text c.in-Text.text.now, c.num_size.ensures))
