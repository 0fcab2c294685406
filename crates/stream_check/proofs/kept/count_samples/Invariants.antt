use Rattle.std.proofs.Common.{◌≡◌, ◌++◌, map, take, drop}
use Rattle.stream_check.specs.Kept.{counted}
use Rattle.stream_check.proofs.kept.count_samples.Given as goal

abbrev pub invariant-loop-kept : goal.invariant-loop-kept
invariant-loop-kept l = l.streams ≡ map (counted l.id l.n) (take l.kept-index l.fn.streams) ++ drop l.kept-index l.fn.streams
