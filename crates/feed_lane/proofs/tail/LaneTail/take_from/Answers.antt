use Rattle.std.proofs.Common.{◌≡◌, sym, ap, ◌∙◌}
use Rattle.feed_lane.specs.Ends.{tail_in}
use Rattle.feed_lane.proofs.tail.LaneTail.take_from.Goals.{in-Numbers, in-Texts}
use Rattle.feed_lane.proofs.tail.LaneTail.take_from.Goals as goal

pub returns-clause-put : goal.returns-clause-put
returns-clause-put g c = elim c.match-self.branch [
  | in-Numbers w ↦
      let same : w.in-Numbers.tail ≡ c.args.self.now = sym (ap tail_in w.in-Numbers.is) ∙ c.self.view_is in
      rw (w.reader-is, w.result-is, w.self-inside-is, sym same) w.take_from.ensures.put
  | in-Texts w ↦
      let same : w.in-Texts.tail ≡ c.args.self.now = sym (ap tail_in w.in-Texts.is) ∙ c.self.view_is in
      rw (w.reader-is, w.result-is, w.self-inside-is, sym same) w.take_from-in-Texts.ensures.put
]
