use Rattle.std.proofs.Common.{◌≡◌, ◌+◌, ◌<◌, Some, length, take, drop, map, arith, refl, sym, ap, ◌∙◌}
use Rattle.std.specs.Char.{to_ascii_lowercase}
use Rattle.std.proofs.lemmas.List.{take_rest}
use Rattle.reply_model.specs.Header.{trimmed, length_before, name_in}
use Rattle.feed_reply.proofs.Values.{named, name_is, value_is}
use Rattle.feed_reply.proofs.header.read_value.Goals as goal

pub returns : goal.returns
returns c =
    let text = c.args.text.now in
    let colon = c.before-colon.result in
    let count : c.before-colon.result ≡ length_before 58 c.args.text.now = c.before-colon.ensures.count in
    let there : length_before 58 c.args.text.now < length c.args.text.now = omega (arith, c.before-colon.ensures.count, c.before-colon.ensures.within, c.if-colon-text.false) in
    let name = name_is text colon c.trim.result.now count c.trim.ensures in
    let same : map to_ascii_lowercase (name_in text) ≡ map to_ascii_lowercase c.args.name.now = ap (map to_ascii_lowercase) (sym name) ∙ c.if-not-eq_ignore_ascii_case.ensures.test.0 refl in
    let size : c.before-2.result ≡ length_before 59 (drop (c.before-colon.result + 1) c.args.text.now) = rw take_rest at c.before-2.ensures.count in
    let value : c.trim-2.result.now ≡ trimmed (take c.before-2.result (drop (c.before-colon.result + 1) c.args.text.now)) = rw take_rest at c.trim-2.ensures in
    ap (λ x. Some x) (value_is text colon c.before-2.result c.trim-2.result.now count size value) ∙ named c.args.name.now text there same
