use Rattle.std.proofs.Common.{◌≡◌, ◌≤◌, ◌*◌, take}
use Rattle.record_run.specs.Cost.{cost_of}
use Rattle.record_run.proofs.cost.ring_cost.Given as goal

abbrev pub invariant-loop-shape : goal.invariant-loop-shape
invariant-loop-shape l = record {
  sum : l.cost ≡ cost_of l.ring (take l.shape-index l.shapes);
  small : l.cost ≤ l.shape-index * (1_048_578 * 524_289);
}
