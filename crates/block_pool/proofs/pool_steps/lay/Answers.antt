use Rattle.block_pool.proofs.Moves.{gives}
use Rattle.block_pool.proofs.pool_steps.lay.Goals as goal

pub try_push_as-requires-clause-rule : goal.try_push_as-requires-clause-rule
try_push_as-requires-clause-rule c = gives _ _ _ _ c.requires.pass.1 c.requires.room c.requires.size
