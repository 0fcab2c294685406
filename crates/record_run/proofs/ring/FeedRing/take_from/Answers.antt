use Rattle.std.proofs.Common.{◌≡◌, sym, ap, ◌∙◌}
use Rattle.record_run.specs.FeedRings.{FeedRingView, lone_in}
use Rattle.record_run.proofs.ring.FeedRing.take_from.Goals.{in-Numbers, in-Texts}
use Rattle.record_run.proofs.ring.FeedRing.take_from.Goals as goal

pub returns-clause-given : goal.returns-clause-given
returns-clause-given g c = elim c.match-self.branch [
  | in-Numbers w ↦
      let same : w.in-Numbers.ring.ring ≡ c.args.self.now.lone = sym (ap lone_in w.in-Numbers.is) ∙ ap (λ (r : FeedRingView). r.lone) c.self.view_is in
      rw (w.reader-is, w.result-is, w.self-inside-is, sym same) w.take_numbers.ensures.given
  | in-Texts w ↦
      let same : w.in-Texts.ring ≡ c.args.self.now.lone = sym (ap lone_in w.in-Texts.is) ∙ ap (λ (r : FeedRingView). r.lone) c.self.view_is in
      rw (w.reader-is, w.result-is, w.self-inside-is, sym same) w.take_texts.ensures.given
]
