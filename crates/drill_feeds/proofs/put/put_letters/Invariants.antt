use Rattle.std.proofs.Common.{◌≡◌, ◌≤◌, ◌-◌, ◌++◌}
use Rattle.drill_feeds.specs.Drill.{letters}
use Rattle.drill_feeds.proofs.put.put_letters.Given as goal

abbrev pub invariant-loop-next : goal.invariant-loop-next
invariant-loop-next l = record {
  put : l.out.items ≡ l.fn.out.items ++ letters l.first l.next;
  few : l.next ≤ l.count;
}

abbrev pub decreases-loop-next : goal.decreases-loop-next
decreases-loop-next l = l.count - l.next
