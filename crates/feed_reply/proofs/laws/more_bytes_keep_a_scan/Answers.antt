use Rattle.feed_reply.proofs.Scanned.{scan_longer}
use Rattle.feed_reply.proofs.laws.more_bytes_keep_a_scan.Goals as goal

pub returns : goal.returns
returns c = scan_longer
