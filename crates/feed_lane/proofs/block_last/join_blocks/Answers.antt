use Rattle.std.proofs.Common.{subst}
use Rattle.thread_ring.specs.Ends.{AreFew}
use Rattle.feed_lane.specs.Lanes.{TailView}
use Rattle.feed_lane.proofs.Telling.{reached_told, few_told}
use Rattle.feed_lane.proofs.block_last.join_blocks.Goals as goal

pub returns-clause-reached : goal.returns-clause-reached
returns-clause-reached g c = reached_told c.tail.inside.shape c.drain_last.result.capacity c.drain_last.result.state c.drain_last.ensures.reached

pub returns-clause-few : goal.returns-clause-few
returns-clause-few g c =
    let x = c.tail.inside in
    let F : TailView → Type 0 = λ t. AreFew t.lane.capacity t.puts t.dropped in
    subst F c.tail.view_is (few_told x.shape x.tail.capacity x.tail.puts x.tail.dropped c.drain_last.ensures.few)
