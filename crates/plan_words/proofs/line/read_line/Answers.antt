use Rattle.std.proofs.Common.{◌≡◌, true, sym, ◌∙◌}
use Rattle.plan_model.specs.PlanLine.{word, number, is_ring, is_batch, is_mode, ring_limit, batch_limit}
use Rattle.plan_model.specs.Plan.{mode_of}
use Rattle.plan_words.specs.Read.{own_refusal, setting_refusal, mode_refusal, line_of}
use Rattle.plan_words.proofs.ByKind.{ring_line, batch_line, mode_line, no_line, handed_on, same_why, ring_is, batch_is, mode_is}
use Rattle.plan_words.proofs.line.read_line.Goals as goal

pub returns-in_err-n : goal.returns-in_err-n
returns-in_err-n c =
    let words = c.args.words.now in
    let same = ring_line words (sym c.has.ensures ∙ c.if-has.true) in
    handed_on c.from_residual.result c.in_err-n.field-0.0 (setting_refusal ring_limit words) (own_refusal words) (number (word 1 words)) (line_of words) c.from_residual.ensures.1 (same_why (setting_refusal ring_limit words) (own_refusal words) same) c.in_err-n.ensures

pub returns-then-has : goal.returns-then-has
returns-then-has c =
    let words = c.args.words.now in
    let ring : is_ring c.args.words.now ≡ true = sym c.has.ensures ∙ c.if-has.true in
    (ring_line words ring ∙ c.in_ok-n.ensures.0, ring_is words c.in_ok-n.n ring c.in_ok-n.ensures.1)

pub returns-in_err-n-2 : goal.returns-in_err-n-2
returns-in_err-n-2 c =
    let words = c.args.words.now in
    let same = batch_line words (sym c.has-2.ensures ∙ c.if-has-2.true) in
    handed_on c.from_residual-in_err-n-2.result c.in_err-n-2.field-0.0 (setting_refusal batch_limit words) (own_refusal words) (number (word 1 words)) (line_of words) c.from_residual-in_err-n-2.ensures.1 (same_why (setting_refusal batch_limit words) (own_refusal words) same) c.in_err-n-2.ensures

pub returns-then-has-2 : goal.returns-then-has-2
returns-then-has-2 c =
    let words = c.args.words.now in
    let batch : is_batch c.args.words.now ≡ true = sym c.has-2.ensures ∙ c.if-has-2.true in
    (batch_line words batch ∙ c.in_ok-n-2.ensures.0, batch_is words c.in_ok-n-2.n (sym c.has.ensures ∙ c.if-has.false) batch c.in_ok-n-2.ensures.1)

pub returns-in_err-mode : goal.returns-in_err-mode
returns-in_err-mode c =
    let words = c.args.words.now in
    let same = mode_line words (sym c.has-3.ensures ∙ c.if-has-3.true) in
    handed_on c.from_residual-in_err-mode.result c.in_err-mode.field-0.0 (mode_refusal words) (own_refusal words) (mode_of (word 1 words)) (line_of words) c.from_residual-in_err-mode.ensures.1 (same_why (mode_refusal words) (own_refusal words) same) c.in_err-mode.ensures

pub returns-then-has-3 : goal.returns-then-has-3
returns-then-has-3 c =
    let words = c.args.words.now in
    let mode : is_mode c.args.words.now ≡ true = sym c.has-3.ensures ∙ c.if-has-3.true in
    (mode_line words mode ∙ c.in_ok-mode.ensures.0, mode_is words c.in_ok-mode.mode (sym c.has.ensures ∙ c.if-has.false) (sym c.has-2.ensures ∙ c.if-has-2.false) mode c.in_ok-mode.ensures.1)

pub returns : goal.returns
returns c = no_line c.args.words.now (sym c.has.ensures ∙ c.if-has.false) (sym c.has-2.ensures ∙ c.if-has-2.false) (sym c.has-3.ensures ∙ c.if-has-3.false) (sym c.has-4.ensures ∙ c.if-has-4.false)
