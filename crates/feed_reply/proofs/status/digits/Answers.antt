use Rattle.std.proofs.Common.{◌≡◌, true, get_or, arith, sym, ◌∙◌}
use Rattle.std.proofs.lemmas.Grind.{common_steps}
use Rattle.std.specs.Char.{is_ascii_digit}
use Rattle.feed_reply.proofs.Digits.{digits_more}
use Rattle.feed_reply.proofs.status.digits.Goals as goal

pub loop-i-preserved : goal.loop-i-preserved
loop-i-preserved c =
    let good : is_ascii_digit (get_or c.args.text.now c.loop-i.i 0) ≡ true = sym c.is_ascii_digit.ensures.value ∙ c.if-not-is_ascii_digit.false in
    record {
      count = grind (arith, common_steps);
      digits = digits_more c.args.text.now c.loop-i.i c.loop-i-test.true good c.loop-i.invariant.digits;
    }
