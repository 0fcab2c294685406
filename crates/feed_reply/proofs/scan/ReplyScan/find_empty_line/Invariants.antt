use Rattle.std.proofs.Common.{◌-◌, length}
use Rattle.feed_reply.specs.Scan.{IsScanOf}
use Rattle.feed_reply.proofs.scan.ReplyScan.find_empty_line.Given as goal

abbrev pub invariant-loop-size : goal.invariant-loop-size
invariant-loop-size l = IsScanOf l.bytes l.self

abbrev pub decreases-loop-size : goal.decreases-loop-size
decreases-loop-size l = length l.bytes - l.self.at
