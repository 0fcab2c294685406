use Rattle.block_pool.proofs.Moves.{merges}
use Rattle.block_pool.proofs.pool_steps.to_both.Goals as goal

pub absorb-requires-clause-rule : goal.absorb-requires-clause-rule
absorb-requires-clause-rule c = merges _ _ _ _ c.requires.giver.1 c.requires.taker.1
