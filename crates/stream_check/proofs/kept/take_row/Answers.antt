use Rattle.std.proofs.Common.{arith}
use Rattle.stream_check.specs.Kept.{rowed, takes}
use Rattle.stream_check.proofs.Walks.{mapped_next, any_next}
use Rattle.stream_check.proofs.kept.take_row.Goals as goal

pub loop-kept-preserved : goal.loop-kept-preserved
loop-kept-preserved c = record {
  kept = mapped_next (rowed c.args.row.now) c.args.streams.now c.loop-kept.streams c.loop-kept.kept-index _ c.take_row-taken.new.self (omega arith) c.loop-kept.invariant.kept c.take_row-taken.ensures.kept;
  taken = any_next (rowed c.args.row.now) (takes c.args.row.now) c.args.streams.now c.loop-kept.streams c.loop-kept.kept-index _ c.loop-kept.taken c.take_row-taken.result (omega arith) c.loop-kept.invariant.kept c.loop-kept.invariant.taken c.take_row-taken.ensures.takes;
}
