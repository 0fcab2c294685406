use Rattle.block_pool.proofs.Moves.{takes, none_taken}
use Rattle.block_pool.proofs.pool_steps.take.Goals as goal

pub pop_as-requires-clause-rule : goal.pop_as-requires-clause-rule
pop_as-requires-clause-rule g c = (takes _ _ c.requires.pass.1, λ items views kept at. tt)

pub returns-clause-taken : goal.returns-clause-taken
returns-clause-taken g c = none_taken c.pop_as.result _ _ _ _ c.pop_as.ensures.rule
