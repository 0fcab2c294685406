use Rattle.std.proofs.Common.{refl, sym, ◌∙◌, arith}
use Rattle.std.proofs.Math.Nat.{le_of_eq}
use Rattle.stream_check.proofs.Telling.{rows_said, rows_counted, rows_fail}
use Rattle.stream_check.proofs.say.say_notes.Goals as goal

pub returns-in-Err-clause-told : goal.returns-in-Err-clause-told
returns-in-Err-clause-told g c =
    let i = c.loop-row.invariant in
    rows_fail c.args.table.now c.loop-row.row-index _ _ (omega arith) refl c.in-Err.fault _ _ _ _ _ _ i.said (le_of_eq (sym i.quiet)) c.in-Err.ensures.told

pub loop-row-preserved : goal.loop-row-preserved
loop-row-preserved g c =
    let i = c.loop-row.invariant in
    record {
      said = rows_said c.args.table.now c.loop-row.row-index _ _ (omega arith) refl _ _ _ i.said c.in-Ok.ensures.told;
      counted = rows_counted c.args.table.now c.loop-row.row-index _ _ (omega arith) refl c.loop-row.count c.in-Ok.n i.counted c.in-Ok.ensures.count;
      few = omega (arith, i.few, c.in-Ok.ensures.few);
      quiet = c.in-Ok.ensures.cause.quiet (λ h. absurd (cc h)) ∙ i.quiet;
      rest = c.in-Ok.ensures.rest ∙ i.rest;
    }
