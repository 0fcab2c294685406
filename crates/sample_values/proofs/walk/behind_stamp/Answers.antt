use Rattle.std.proofs.Common.{◌≡◌, drop, get_or, ℕ, sym, ap, ◌∙◌, arith}
use Rattle.std.proofs.lemmas.List.{take_rest}
use Rattle.sample_values.specs.Rest.{stamp_width}
use Rattle.sample_values.proofs.Rests.{stamp_none, stamp_fault, stamp_short, stamp_left, left_is}
use Rattle.sample_values.proofs.walk.behind_stamp.Goals as goal

pub returns-in_default : goal.returns-in_default
returns-in_default c = stamp_none c.args.bytes.now (omega arith)

pub returns-then-front-eq0 : goal.returns-then-front-eq0
returns-then-front-eq0 c = rw c.wrong.ensures (stamp_fault c.args.bytes.now (omega arith) (sym c.stamp_width-front.ensures ∙ c.if-front-eq0.true))

pub returns-then-bytes-front : goal.returns-then-bytes-front
returns-then-bytes-front c = stamp_short c.args.bytes.now (omega arith) (λ e. c.if-front-eq0.false (c.stamp_width-front.ensures ∙ e)) (omega (arith, c.stamp_width-front.ensures))

pub returns : goal.returns
returns c =
    let front = c.stamp_width-front.ensures in
    let same : drop c.stamp_width-front.result c.args.bytes.now ≡ drop (stamp_width (get_or c.args.bytes.now 0 0)) c.args.bytes.now = ap (λ (n : ℕ). drop n c.args.bytes.now) front in
    stamp_left c.args.bytes.now (omega arith) (λ e. c.if-front-eq0.false (front ∙ e)) (omega (arith, front)) ∙ ap left_is (sym same ∙ sym (take_rest c.args.bytes.now c.stamp_width-front.result))
