use Rattle.block_pool.proofs.Moves.{drains, sees_home, none_left}
use Rattle.block_pool.proofs.pool_steps.drain_one.Goals as goal

pub pop_as-requires-clause-rule : goal.pop_as-requires-clause-rule
pop_as-requires-clause-rule g c = (drains _ _ c.requires.pass.1 c.requires.pass.2, sees_home _ _ c.requires.pass.1 c.requires.pass.2)

pub returns-clause-drained : goal.returns-clause-drained
returns-clause-drained g c = none_left c.pop_as.result _ _ _ c.pop_as.ensures.rule
