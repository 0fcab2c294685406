use Rattle.std.proofs.Common.{◌∙◌, ap}
use Rattle.piece_reader.proofs.Finals.{final_stays}
use Rattle.reading_model.specs.Outlook.{All}
use Rattle.xdf_model.specs.Sample.{Sample}
use Rattle.inlet_model.specs.declared.end.FeedEnd.{FeedEnd}
use Rattle.inlet_model.specs.Inlet.{before_reply, feed_kind, feed_rules}
use Rattle.inlet_laws.proofs.Steady.{steady_feed}
use Rattle.inlet_laws.proofs.laws.fault_is_final.Goals as goal

pub returns : goal.returns
returns c = λ uid shape limit b more how then samples e is kind.
    final_stays (feed_rules uid shape) (steady_feed uid shape) how then (before_reply limit) b more (ap (λ (a : All Sample FeedEnd). feed_kind a.1) is ∙ kind) ∙ is
