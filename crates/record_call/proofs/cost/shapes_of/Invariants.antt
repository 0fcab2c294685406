use Rattle.std.proofs.Common.{◌≡◌, map, take}
use Rattle.record_call.proofs.cost.shapes_of.Given as goal

abbrev pub invariant-loop-stream : goal.invariant-loop-stream
invariant-loop-stream l = l.shapes.items ≡ map (λ s. s.shape) (take l.stream-index l.streams)
