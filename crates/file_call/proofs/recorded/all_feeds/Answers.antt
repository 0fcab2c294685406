use Rattle.std.proofs.Common.{◌≡◌, ◌^◌, None, ◌∙◌}
use Rattle.inlet_model.specs.Inlet.{feed_within}
use Rattle.inlet_model.specs.declared.end.FeedEnd.TheVariants.{Whole}
use Rattle.drill_feeds.specs.Drill.{drill_bytes, drill_samples, drill_shape}
use Rattle.file_call.proofs.Drills.{each_id, three}
use Rattle.file_call.proofs.recorded.all_feeds.Goals as goal

pub returns-clause-feeds : goal.returns-clause-feeds
returns-clause-feeds c = c.in_ok-vec.ensures.items ∙ three c.in_ok-first.ensures.feed c.in_ok-second.ensures.feed c.in_ok-third.ensures.feed

pub returns-clause-samples : goal.returns-clause-samples
returns-clause-samples c =
    each_id (λ id. feed_within None (drill_shape id) None (2 ^ 40) (drill_bytes c.args.number id) ≡ (drill_samples c.args.number id, Whole)) c.in_ok-first.ensures.samples c.in_ok-second.ensures.samples c.in_ok-third.ensures.samples
