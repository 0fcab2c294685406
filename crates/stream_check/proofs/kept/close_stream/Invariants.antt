use Rattle.std.proofs.Common.{◌≡◌, ◌++◌, map, take, drop}
use Rattle.stream_check.specs.Kept.{closed}
use Rattle.stream_check.proofs.kept.close_stream.Given as goal

abbrev pub invariant-loop-kept : goal.invariant-loop-kept
invariant-loop-kept l = l.streams ≡ map (closed l.id l.footer) (take l.kept-index l.fn.streams) ++ drop l.kept-index l.fn.streams
