use Rattle.std.proofs.Common.{◌≡◌, ◌∙◌, ap, true, false}
use Rattle.plan_model.specs.PlanLine.{word, is_number, id_limit, from_of, limit_of, feed_of}
use Rattle.plan_words.specs.Read.{own_refusal, form_refusal, form_of, port_refusal, limit_refusal}
use Rattle.plan_words.proofs.ByKind.{handed_on, form_refused, id_refused, port_refused, limit_refused, feed_taken, feed_is}
use Rattle.plan_words.proofs.line.read_feed.Goals as goal

pub returns-in_err-form : goal.returns-in_err-form
returns-in_err-form c =
    let words = c.args.words.now in
    handed_on c.from_residual.result c.in_err-form.field-0.0 (form_refusal words) (own_refusal words) (form_of words) (feed_of words) c.from_residual.ensures.1 (form_refused words c.requires) c.in_err-form.ensures

pub returns-in_default : goal.returns-in_default
returns-in_default c =
    let id : is_number id_limit (word 1 c.args.words.now) ≡ false = rw c.get.ensures at c.in_default.ensures.value in
    id_refused c.args.words.now c.requires c.in_ok-form.ensures.0 id

pub returns-in_err-from : goal.returns-in_err-from
returns-in_err-from c =
    let words = c.args.words.now in
    let id : is_number id_limit (word 1 c.args.words.now) ≡ true = rw c.get.ensures at c.in-Some.ensures.value.0 in
    handed_on c.from_residual-in_err-from.result c.in_err-from.field-0.0 (port_refusal words) (own_refusal words) (from_of words) (feed_of words) c.from_residual-in_err-from.ensures.1 (port_refused words c.requires c.in_ok-form.ensures.0 id) c.in_err-from.ensures

pub returns-in_err-limit : goal.returns-in_err-limit
returns-in_err-limit c =
    let words = c.args.words.now in
    let id : is_number id_limit (word 1 c.args.words.now) ≡ true = rw c.get.ensures at c.in-Some.ensures.value.0 in
    handed_on c.from_residual-in_err-limit.result c.in_err-limit.field-0.0 (limit_refusal words) (own_refusal words) (limit_of words) (feed_of words) c.from_residual-in_err-limit.ensures.1 (limit_refused words c.requires c.in_ok-form.ensures.0 id c.in_ok-from.ensures.0) c.in_err-limit.ensures

pub returns : goal.returns
returns c =
    let words = c.args.words.now in
    let id : is_number id_limit (word 1 c.args.words.now) ≡ true = rw c.get.ensures at c.in-Some.ensures.value.0 in
    let n = c.in-Some.ensures.value.1 ∙ ap (λ t. Rattle.plan_model.specs.PlanLine.number t) c.get.ensures in (
      feed_taken words c.requires c.in_ok-form.ensures.0 id c.in_ok-from.ensures.0 c.in_ok-limit.ensures.0,
      feed_is words c.in-Some.id c.in_ok-doc.doc c.in_ok-from.from c.in_ok-limit.limit n (c.in_ok-doc.ensures ∙ c.as_bytes.ensures.value ∙ c.get-2.ensures) c.in_ok-from.ensures.1 c.in_ok-limit.ensures.1,
    )
