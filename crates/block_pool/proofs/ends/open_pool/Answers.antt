use Rattle.block_pool.proofs.Moves.{forks}
use Rattle.block_pool.proofs.ends.open_pool.Goals as goal

pub another-other-requires-clause-rule : goal.another-other-requires-clause-rule
another-other-requires-clause-rule g c = forks _ _ _ _ c.in_ok-queue.ensures.3
