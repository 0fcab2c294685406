use Rattle.std.proofs.Common.{sym}
use Rattle.sample_values.specs.Texts.{texts_in}
use Rattle.sample_values.proofs.TextLists.{texts_fit, texts_no_bits}
use Rattle.sample_values.proofs.texts.no_number.Goals as goal

pub returns : goal.returns
returns c = sym (texts_no_bits (texts_in c.args.count c.args.bytes.now) c.args.i (texts_fit c.args.count c.args.bytes.now c.requires))
