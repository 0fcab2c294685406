use Rattle.std.proofs.Common.{◌≡◌, ◌<◌, Some, None, take, drop, arith, sym, ap, ◌∙◌}
use Rattle.std.specs.Option.{option_copied}
use Rattle.std.proofs.lemmas.List.{take_rest}
use Rattle.reply_model.specs.Header.{value_of}
use Rattle.reply_model.specs.Lines.{lines_in}
use Rattle.reply_model.specs.Reply.{last_of, later, at_place}
use Rattle.feed_reply.specs.Views.{IsFirstLine, seen}
use Rattle.feed_reply.proofs.Walk.{slice_size, first_within, value_found, value_not_found, last_past, last_here, last_gone}
use Rattle.feed_reply.proofs.reply.find_last.Goals as goal
use Rattle.feed_reply.proofs.reply.find_last.Goals.{in-Some-read_value, in_default-read_value}

pub returns-then-size-eq0 : goal.returns-then-size-eq0
returns-then-size-eq0 c =
    let first : IsFirstLine (drop c.loop-size.at c.args.bytes.now) (Some c.in-Some.size) = rw take_rest at c.in-Some.ensures in
    last_here c.args.bytes.now c.args.name.now c.loop-size.at c.in-Some.size (last_of c.args.name.now c.args.start (lines_in (drop c.args.start c.args.bytes.now))) (seen c.loop-size.found) c.loop-size.invariant.same first c.if-size-eq0.true

pub loop-size-preserved : goal.loop-size-preserved
loop-size-preserved c =
    let at = c.loop-size.at in
    let name = c.args.name.now in
    let text = take c.in-Some.size (drop c.loop-size.at c.args.bytes.now) in
    let first : IsFirstLine (drop c.loop-size.at c.args.bytes.now) (Some c.in-Some.size) = rw take_rest at c.in-Some.ensures in
    let value : option_copied c.read_value.result ≡ value_of c.args.name.now (take c.in-Some.size (drop c.loop-size.at c.args.bytes.now)) = rw (slice_size c.loop-size.at c.in-Some.size) at c.read_value.ensures in
    let some : 0 < c.in-Some.size = omega (arith, c.if-size-eq0.false) in
    let found : seen c.match-read_value.found ≡ later (seen c.loop-size.found) (at_place at (value_of name text)) =
    elim c.match-read_value.branch [
      | in-Some-read_value w ↦ ap seen w.found-is ∙ value_found (seen c.loop-size.found) at text w.in-Some-read_value.value.now name (ap option_copied (sym w.in-Some-read_value.is) ∙ value)
      | in_default-read_value w ↦ ap seen w.found-is ∙ value_not_found (seen c.loop-size.found) at text name (ap option_copied (sym w.in_default-read_value.is) ∙ value)
    ] in
    record {
      within = first_within c.args.bytes.now at c.in-Some.size c.loop-size.invariant.within first;
      same = last_past c.args.bytes.now name at c.in-Some.size (last_of name c.args.start (lines_in (drop c.args.start c.args.bytes.now))) (seen c.loop-size.found) (seen c.match-read_value.found) c.loop-size.invariant.same first some found;
    }

pub returns : goal.returns
returns c =
    let first : IsFirstLine (drop c.loop-size.at c.args.bytes.now) None = rw take_rest at c.in_default.ensures in
    last_gone c.args.bytes.now c.args.name.now c.loop-size.at (last_of c.args.name.now c.args.start (lines_in (drop c.args.start c.args.bytes.now))) (seen c.loop-size.found) c.loop-size.invariant.same first
