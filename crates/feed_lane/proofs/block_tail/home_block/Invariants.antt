use Rattle.std.proofs.Common.{◌≡◌}
use Rattle.feed_lane.proofs.block_tail.home_block.Given as goal

abbrev pub invariant-loop : goal.invariant-loop
invariant-loop g l = record {
  pool : l.taker.pool ≡ l.fn.taker.pool;
  length : l.taker.length ≡ l.fn.taker.length;
}
