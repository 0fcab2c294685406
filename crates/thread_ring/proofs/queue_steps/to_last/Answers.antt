use Rattle.std.proofs.Common.{sym, subst}
use Rattle.ring_model.specs.Ring.{IsReached}
use Rattle.thread_ring.specs.declared.rule.Knows.{Knows}
use Rattle.thread_ring.specs.Ends.{state_of}
use Rattle.thread_ring.proofs.Moves.{merges, last_reached}
use Rattle.thread_ring.proofs.queue_steps.to_last.Goals as goal

pub absorb-requires-clause-rule : goal.absorb-requires-clause-rule
absorb-requires-clause-rule g c = merges g.T.Terms.meets _ _ _ _ c.requires.tail.1.0 c.requires.tail.1.1 c.requires.head.1.1

pub returns-clause-reached : goal.returns-clause-reached
returns-clause-reached g c =
    subst (λ (k : Knows _ _). IsReached k.capacity (state_of k)) (sym c.learn_as.ensures.queue.1) (last_reached _ c.learn_as.ensures.rule.0 c.learn_as.ensures.rule.1)
