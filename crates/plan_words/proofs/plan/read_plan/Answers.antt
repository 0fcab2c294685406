use Rattle.std.proofs.Common.{◌≡◌, [], length, nat_lt, false, Ok, sym, ap, ◌∙◌, arith}
use Rattle.std.proofs.lemmas.Bool.{lt-ltb, le-ltb}
use Rattle.plan_model.specs.Text.{said_lines}
use Rattle.plan_model.specs.Plan.{plan_in, text_limit}
use Rattle.plan_words.specs.Drafts.{drafted, draft_of}
use Rattle.plan_words.proofs.Together.{ended, plan_of_lines, too_long, no_feed, some_feed}
use Rattle.plan_words.proofs.Sound.{lines_more, nothing_said, plan_sound}
use Rattle.plan_words.proofs.Answered.{fault_handed_on}
use Rattle.plan_words.proofs.plan.read_plan.Goals as goal

pub returns-then-text-gt-MOST_BYTES-clause-fault : goal.returns-then-text-gt-MOST_BYTES-clause-fault
returns-then-text-gt-MOST_BYTES-clause-fault c = let e = c.refused.ensures in rw e (too_long c.args.text.now c.args.out.now (lt-ltb _ _ (omega (arith, c.if-text-gt-MOST_BYTES.true))))

pub returns-in_err-draft-clause-fault : goal.returns-in_err-draft-clause-fault
returns-in_err-draft-clause-fault c =
    let text = c.args.text.now in
    let out = c.args.out.now in
    let short : nat_lt text_limit (length c.args.text.now) ≡ false = le-ltb _ _ (omega (arith, c.if-text-gt-MOST_BYTES.false)) in
    fault_handed_on c.from_residual.result c.in_err-draft.field-0.0 (drafted out (draft_of []) (said_lines text)) (plan_in text out) c.from_residual.ensures.1 (λ r e. plan_of_lines text out short ∙ ap ended e) c.in_err-draft.ensures

pub returns-then-len-eq0-clause-fault : goal.returns-then-len-eq0-clause-fault
returns-then-len-eq0-clause-fault c =
    let text = c.args.text.now in
    let out = c.args.out.now in
    let short : nat_lt text_limit (length c.args.text.now) ≡ false = le-ltb _ _ (omega (arith, c.if-text-gt-MOST_BYTES.false)) in
    let e = c.refused-then-len-eq0.ensures in
    rw e (plan_of_lines text out short ∙ ap ended c.in_ok-draft.ensures ∙ no_feed c.in_ok-draft.draft (sym c.len.ensures ∙ c.if-len-eq0.true))

pub returns-clause-plan : goal.returns-clause-plan
returns-clause-plan c =
    let text = c.args.text.now in
    let out = c.args.out.now in
    let short : nat_lt text_limit (length c.args.text.now) ≡ false = le-ltb _ _ (omega (arith, c.if-text-gt-MOST_BYTES.false)) in
    plan_of_lines text out short ∙ ap ended c.in_ok-draft.ensures ∙ some_feed c.in_ok-draft.draft (λ none. c.if-len-eq0.false (c.len.ensures ∙ none)) ∙ ap Ok (sym c.finish.ensures)

pub returns-clause-sound : goal.returns-clause-sound
returns-clause-sound c =
    let out = c.args.out.now in
    let draft = c.in_ok-draft.draft in
    let is = lines_more out (draft_of []) draft (said_lines c.args.text.now) c.in_ok-draft.ensures (nothing_said out) in
    let e = c.finish.ensures in
    rw e (plan_sound out draft is (λ none. c.if-len-eq0.false (c.len.ensures ∙ none)))
