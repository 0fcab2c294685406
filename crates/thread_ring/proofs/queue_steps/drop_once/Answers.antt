use Rattle.thread_ring.proofs.Moves.{drops, tail_learns, none_dropped}
use Rattle.thread_ring.proofs.queue_steps.drop_once.Goals as goal

pub pop_as-requires-clause-rule : goal.pop_as-requires-clause-rule
pop_as-requires-clause-rule g c = (drops g.T.Terms.meets _ _ c.requires.pass.1.0 c.requires.pass.1.1 c.requires.full, tail_learns g.T.Terms.meets _ _ c.requires.pass.1.0 c.requires.pass.1.1)

pub returns-clause-dropped : goal.returns-clause-dropped
returns-clause-dropped g c = none_dropped c.pop_as.result _ _ _ c.pop_as.ensures.rule
