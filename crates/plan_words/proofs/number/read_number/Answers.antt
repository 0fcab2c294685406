use Rattle.std.proofs.Common.{sym, ◌∙◌, arith}
use Rattle.plan_words.proofs.Numbers.{long, other, taken, too_low, too_high, unread}
use Rattle.plan_words.proofs.number.read_number.Goals as goal
use Rattle.plan_words.proofs.number.read_number.Goals.{then-text-gt13-via-then-text-gt13, then-text-gt13-via-else-text-gt13+then-not-is_digits}

pub returns-then-text-gt13-clause-value : goal.returns-then-text-gt13-clause-value
returns-then-text-gt13-clause-value c = elim c.then-text-gt13.branch [
  | then-text-gt13-via-then-text-gt13 w ↦ long c.args.most c.args.text.now w.if-text-gt13.true
  | then-text-gt13-via-else-text-gt13+then-not-is_digits w ↦ other c.args.most c.args.text.now (sym w.is_digits.ensures ∙ w.if-not-is_digits.true)
]

pub returns-in-Ok-clause-value : goal.returns-in-Ok-clause-value
returns-in-Ok-clause-value c = taken c.args.most c.in-Ok.n c.args.text.now c.if-text-gt13.false (sym c.is_digits.ensures ∙ c.if-not-is_digits.false) c.in-Ok.ensures.value.0 c.if-n-gt0.true c.if-n-most.true

pub returns-in_default-clause-value : goal.returns-in_default-clause-value
returns-in_default-clause-value c = too_high c.args.most c.in-Ok.n c.args.text.now (sym c.is_digits.ensures ∙ c.if-not-is_digits.false) c.in-Ok.ensures.value.0 c.if-n-most.false

pub returns-in_default-2-clause-value : goal.returns-in_default-2-clause-value
returns-in_default-2-clause-value c = too_low c.args.most c.in-Ok.n c.args.text.now (sym c.is_digits.ensures ∙ c.if-not-is_digits.false) c.in-Ok.ensures.value.0 (let h = c.if-n-gt0.false in omega arith)

pub returns-in_default-3-clause-value : goal.returns-in_default-3-clause-value
returns-in_default-3-clause-value c = unread c.args.most c.args.text.now c.in_default.field-0 c.if-text-gt13.false (sym c.is_digits.ensures ∙ c.if-not-is_digits.false) c.in_default.ensures.value.0
