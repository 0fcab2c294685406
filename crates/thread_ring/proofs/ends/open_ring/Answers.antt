use Rattle.thread_ring.proofs.Moves.{forks}
use Rattle.thread_ring.proofs.ends.open_ring.Goals as goal

pub another-other-requires-clause-rule : goal.another-other-requires-clause-rule
another-other-requires-clause-rule g c = forks g.T.Terms.meets _ _ _ _ c.in_ok-queue.ensures.3
