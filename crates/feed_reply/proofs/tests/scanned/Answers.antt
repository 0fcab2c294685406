use Rattle.std.proofs.Common.{[]}
use Rattle.feed_reply.proofs.Scanned.{scan_one_more}
use Rattle.feed_reply.proofs.tests.scanned.Goals as goal

pub loop-size-init : goal.loop-size-init
loop-size-init c = c.new-scan.ensures []

pub loop-size-preserved : goal.loop-size-preserved
loop-size-preserved c = scan_one_more c.args.bytes.now c.loop-size.size c.read-step.new.self c.loop-size-test.true c.read-step.ensures.knows
