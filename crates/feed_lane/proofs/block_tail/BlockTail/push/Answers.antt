use Rattle.std.proofs.Common.{sym, subst}
use Rattle.sample_ring.specs.Seen.{IsFull}
use Rattle.feed_lane.specs.Lanes.{TailView}
use Rattle.feed_lane.specs.Kinds.{longest}
use Rattle.feed_lane.proofs.Telling.{full_meets}
use Rattle.feed_lane.proofs.block_tail.BlockTail.push.Goals as goal

pub push-requires-clause-meets : goal.push-requires-clause-meets
push-requires-clause-meets g c =
    let F : TailView → Type 0 = λ t. IsFull t.lane.shape (longest t.lane.shape) c.args.block in
    full_meets c.self.inside.tail.terms c.self.inside.shape c.args.block c.self.invariant.1 (subst F (sym c.self.view_is) c.requires.full)
