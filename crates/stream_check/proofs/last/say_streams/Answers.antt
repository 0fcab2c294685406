use Rattle.std.proofs.Common.{refl, sym, ◌∙◌, arith}
use Rattle.std.proofs.Math.Nat.{le_of_eq}
use Rattle.stream_check.proofs.Telling.{streams_said, streams_counted, streams_fail}
use Rattle.stream_check.proofs.last.say_streams.Goals as goal

pub returns-in-Err-clause-told : goal.returns-in-Err-clause-told
returns-in-Err-clause-told g c =
    let i = c.loop-kept.invariant in
    streams_fail c.args.ledger c.args.streams.now c.loop-kept.kept-index _ _ (omega arith) refl c.in-Err.fault _ _ _ _ _ _ i.said (le_of_eq (sym i.quiet)) c.in-Err.ensures.told

pub loop-kept-preserved : goal.loop-kept-preserved
loop-kept-preserved g c =
    let i = c.loop-kept.invariant in
    record {
      said = streams_said c.args.ledger c.args.streams.now c.loop-kept.kept-index _ _ (omega arith) refl _ _ _ i.said c.in-Ok.ensures.told;
      counted = streams_counted c.args.ledger c.args.streams.now c.loop-kept.kept-index _ _ (omega arith) refl c.loop-kept.count c.in-Ok.n i.counted c.in-Ok.ensures.count;
      few = omega (arith, i.few, c.in-Ok.ensures.few);
      quiet = c.in-Ok.ensures.cause.quiet (λ h. absurd (cc h)) ∙ i.quiet;
      rest = c.in-Ok.ensures.rest ∙ i.rest;
    }
