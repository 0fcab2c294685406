use Rattle.feed_lane.proofs.last.join_lane.Goals.{in-Numbers-Numbers, in-Texts-Texts}
use Rattle.feed_lane.proofs.last.join_lane.Goals as goal

pub returns-clause-reached : goal.returns-clause-reached
returns-clause-reached g c = elim c.match-tail.branch [
  | in-Numbers-Numbers w ↦ rw w.ends-is w.join_blocks.ensures.reached
  | in-Texts-Texts w ↦ rw w.ends-is w.join_texts.ensures.reached
]
