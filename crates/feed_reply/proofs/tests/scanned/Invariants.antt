use Rattle.std.proofs.Common.{take}
use Rattle.feed_reply.specs.Scan.{IsScanOf}
use Rattle.feed_reply.proofs.tests.scanned.Given as goal

abbrev pub invariant-loop-size : goal.invariant-loop-size
invariant-loop-size l = IsScanOf (take l.size l.bytes) l.scan
