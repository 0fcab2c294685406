use Rattle.std.proofs.Common.{ap, arith}
use Rattle.feed_samples.specs.Fillings.{read_of}
use Rattle.feed_samples.proofs.Told.{is_whole}
use Rattle.feed_samples.proofs.read.fill_feed_sample.Goals as goal

pub returns-clause-whole : goal.returns-clause-whole
returns-clause-whole c = λ used e.
    let s = c.answer.new.sample in
    is_whole c.args.shape.now c.args.order c.args.bytes.now (read_of s c.answer.result) (λ i. omega (arith, c.type_inv.bytes i)) c.answer.ensures s used (ap (read_of s) e)
