use Rattle.std.proofs.Common.{subst, sym, ◌∙◌}
use Rattle.std.specs.Bool.{MatchBool}
use Rattle.std.specs.Str.{IsAscii, IsNotAscii, is_utf8}
use Rattle.std.proofs.lemmas.Str.{IsUtf8-from_ascii, IsUtf8-from_is_utf8, is_utf8-from_IsUtf8}
use Rattle.stream_check.proofs.Bools.{same_by_iff}
use Rattle.stream_check.proofs.judge.is_text.Goals as goal

pub returns-then-is_ascii : goal.returns-then-is_ascii
returns-then-is_ascii c =
    let text = c.args.bytes.now in
    let ascii = subst (λ b. MatchBool b (IsAscii text) (IsNotAscii text)) c.if-is_ascii.true c.is_ascii.ensures.cases in
    c.if-is_ascii.true ∙ sym (is_utf8-from_IsUtf8 text (IsUtf8-from_ascii text ascii))

pub returns-else-is_ascii : goal.returns-else-is_ascii
returns-else-is_ascii c = same_by_iff c.is_utf8.result (is_utf8 c.args.bytes.now) c.is_utf8.ensures (IsUtf8-from_is_utf8 c.args.bytes.now) (is_utf8-from_IsUtf8 c.args.bytes.now)
