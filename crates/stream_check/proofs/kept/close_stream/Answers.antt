use Rattle.std.proofs.Common.{arith}
use Rattle.stream_check.specs.Kept.{closed}
use Rattle.stream_check.proofs.Walks.{mapped_next}
use Rattle.stream_check.proofs.kept.close_stream.Goals as goal

pub loop-kept-preserved : goal.loop-kept-preserved
loop-kept-preserved c = mapped_next (closed c.args.id c.args.footer) c.args.streams.now c.loop-kept.streams c.loop-kept.kept-index _ c.close.new.self (omega arith) c.loop-kept.invariant c.close.ensures
