use Rattle.std.proofs.Common.{◌≡◌, length}
use Rattle.thread_ring.proofs.tests.push_all.Given as goal

abbrev pub invariant-loop-value : goal.invariant-loop-value
invariant-loop-value g l = (l.tail.ring ≡ l.initial.tail.ring) × (l.tail.terms ≡ l.initial.tail.terms) × (length l.tail.puts ≡ l.value)
