use Rattle.std.proofs.Common.{arith}
use Rattle.stream_check.specs.Kept.{counted}
use Rattle.stream_check.proofs.Walks.{mapped_next}
use Rattle.stream_check.proofs.kept.count_samples.Goals as goal

pub loop-kept-preserved : goal.loop-kept-preserved
loop-kept-preserved c = mapped_next (counted c.args.id c.args.n) c.args.streams.now c.loop-kept.streams c.loop-kept.kept-index _ c.count.new.self (omega arith) c.loop-kept.invariant c.count.ensures
