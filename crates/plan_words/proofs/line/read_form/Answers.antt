use Rattle.std.proofs.Common.{◌≡◌, true, false, length, nat_lt, nat_eq, sym, ◌∙◌, arith}
use Rattle.std.proofs.lemmas.Bool.{lt-ltb, le-ltb}
use Rattle.plan_model.specs.PlanLine.{is_file, is_tcp}
use Rattle.plan_words.specs.Read.{count_refusal, form_refusal, form_of}
use Rattle.plan_words.proofs.ByKind.{feed_short, feed_undocumented, feed_from_nowhere, feed_from_file, feed_from_outlet, file_form, tcp_form, handed_on, same_why}
use Rattle.plan_words.proofs.line.read_form.Goals as goal

pub returns-then-len-lt6 : goal.returns-then-len-lt6
returns-then-len-lt6 c = feed_short c.args.words.now (lt-ltb _ _ (omega (arith, c.len.ensures, c.if-len-lt6.true)))

pub returns-then-not-has : goal.returns-then-not-has
returns-then-not-has c =
    let many : nat_lt (length c.args.words.now) 6 ≡ false = le-ltb _ _ (omega (arith, c.len.ensures, c.if-len-lt6.false)) in
    feed_undocumented c.args.words.now c.requires many (sym c.has.ensures ∙ c.if-not-has.true)

pub returns-in_err-limited : goal.returns-in_err-limited
returns-in_err-limited c =
    let words = c.args.words.now in
    let many : nat_lt (length c.args.words.now) 6 ≡ false = le-ltb _ _ (omega (arith, c.len.ensures, c.if-len-lt6.false)) in
    let same = feed_from_file words c.requires many (sym c.has.ensures ∙ c.if-not-has.false) (sym c.has-2.ensures ∙ c.if-has.true) in
    handed_on c.from_residual.result c.in_err-limited.field-0.0 (count_refusal 6 words) (form_refusal words) (nat_eq (length words) 8) (form_of words) c.from_residual.ensures.1 (same_why (count_refusal 6 words) (form_refusal words) same) c.in_err-limited.ensures

pub returns-then-has : goal.returns-then-has
returns-then-has c =
    let words = c.args.words.now in
    let many : nat_lt (length c.args.words.now) 6 ≡ false = le-ltb _ _ (omega (arith, c.len.ensures, c.if-len-lt6.false)) in
    let file : is_file c.args.words.now ≡ true = sym c.has-2.ensures ∙ c.if-has.true in
    let same = feed_from_file words c.requires many (sym c.has.ensures ∙ c.if-not-has.false) file in
    (same ∙ c.in_ok-limited.ensures.0, file_form words c.in_ok-limited.limited file c.in_ok-limited.ensures.1)

pub returns-in_err-limited-2 : goal.returns-in_err-limited-2
returns-in_err-limited-2 c =
    let words = c.args.words.now in
    let many : nat_lt (length c.args.words.now) 6 ≡ false = le-ltb _ _ (omega (arith, c.len.ensures, c.if-len-lt6.false)) in
    let same = feed_from_outlet words c.requires many (sym c.has.ensures ∙ c.if-not-has.false) (sym c.has-3.ensures ∙ c.if-has-2.true) in
    handed_on c.from_residual-in_err-limited-2.result c.in_err-limited-2.field-0.0 (count_refusal 8 words) (form_refusal words) (nat_eq (length words) 10) (form_of words) c.from_residual-in_err-limited-2.ensures.1 (same_why (count_refusal 8 words) (form_refusal words) same) c.in_err-limited-2.ensures

pub returns-then-has-2 : goal.returns-then-has-2
returns-then-has-2 c =
    let words = c.args.words.now in
    let many : nat_lt (length c.args.words.now) 6 ≡ false = le-ltb _ _ (omega (arith, c.len.ensures, c.if-len-lt6.false)) in
    let tcp : is_tcp c.args.words.now ≡ true = sym c.has-3.ensures ∙ c.if-has-2.true in
    let same = feed_from_outlet words c.requires many (sym c.has.ensures ∙ c.if-not-has.false) tcp in
    (same ∙ c.in_ok-limited-2.ensures.0, tcp_form words c.in_ok-limited-2.limited tcp c.in_ok-limited-2.ensures.1)

pub returns : goal.returns
returns c =
    let many : nat_lt (length c.args.words.now) 6 ≡ false = le-ltb _ _ (omega (arith, c.len.ensures, c.if-len-lt6.false)) in
    feed_from_nowhere c.args.words.now c.requires many (sym c.has.ensures ∙ c.if-not-has.false) (sym c.has-2.ensures ∙ c.if-has.false) (sym c.has-3.ensures ∙ c.if-has-2.false)
