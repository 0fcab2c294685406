use Rattle.std.proofs.Common.{arith}
use Rattle.byteorder.specs.Numbers.{length-bytes_low_first}
use Rattle.sample_values.proofs.Lengths.{length-text}
use Rattle.chunk_grammar.proofs.fits.value_size.Goals as goal

pub returns-in-Number : goal.returns-in-Number
returns-in-Number c = rw c.in-Number.is (omega (arith, length-bytes_low_first 0 c.args.size c.in-Number.field-0))

pub returns-in-Text : goal.returns-in-Text
returns-in-Text c = rw c.in-Text.is (omega (arith, length-text c.in-Text.text.now, c.num_size.ensures))
