use Rattle.std.proofs.Common.{◌≡◌, false, true, drop, rules, sym, ◌∙◌, arith}
use Rattle.rec_base.specs.Pieces.{is_spent}
use Rattle.rec_base.proofs.PieceReads.{IsPassed-spent, without_empty-ready}
use Rattle.rec_base.proofs.mem_source.pass_spent.Goals as goal

pub loop-passed-preserved : goal.loop-passed-preserved
loop-passed-preserved c =
    let spent : is_spent (drop c.loop-passed.passed c.args.pieces.now) c.loop-passed.given ≡ true = search rules in
    let step = IsPassed-spent c.args.pieces.now c.loop-passed.passed c.loop-passed.given spent in
    record {
      at = omega (arith, step.within);
      within = omega arith;
      left = step.left ∙ c.loop-passed.invariant.left;
      faults = step.faults ∙ c.loop-passed.invariant.faults;
    }

pub returns-clause-left : goal.returns-clause-left
returns-clause-left c =
    let ready : is_spent (drop c.loop-passed.passed c.args.pieces.now) c.loop-passed.given ≡ false = search rules in
    sym (without_empty-ready (drop c.loop-passed.passed c.args.pieces.now) c.loop-passed.given ready) ∙ c.loop-passed.invariant.left
