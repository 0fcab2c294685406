use Rattle.std.proofs.Common.{◌≡◌}
use Rattle.thread_ring.proofs.tests.take_all.Given as goal

abbrev pub invariant-loop : goal.invariant-loop
invariant-loop g l = l.head.ring ≡ l.initial.head.ring
