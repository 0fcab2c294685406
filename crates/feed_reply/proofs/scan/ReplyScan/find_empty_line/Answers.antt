use Rattle.std.proofs.Common.{◌≡◌, ◌<◌, Some, None, Ok, Err, take, drop, arith, sym, ◌∙◌}
use Rattle.std.proofs.lemmas.List.{take_rest}
use Rattle.reply_model.specs.Reply.{accepts_line}
use Rattle.feed_reply.specs.Views.{IsFirstLine}
use Rattle.feed_reply.proofs.Walk.{slice_size, first_within, stops_here, ends_here, too_long, no_more}
use Rattle.feed_reply.proofs.Scanned.{seen_front, lines_here, scan_past, scan_seen}
use Rattle.feed_reply.proofs.scan.ReplyScan.find_empty_line.Goals as goal

pub slice_bounds-line_length_from-start : goal.slice_bounds-line_length_from-start
slice_bounds-line_length_from-start c = let there = c.loop-size.invariant.there in omega (arith, there)

pub slice_bounds-line_length_from-count : goal.slice_bounds-line_length_from-count
slice_bounds-line_length_from-count c = let there = c.loop-size.invariant.there in omega (arith, there)

pub line_length_from-requires : goal.line_length_from-requires
line_length_from-requires c = rw take_rest (seen_front c.args.bytes.now c.loop-size.self c.loop-size.invariant)

pub returns-in-Err-clause-line : goal.returns-in-Err-clause-line
returns-in-Err-clause-line c =
    let scan = c.loop-size.self in
    let first : IsFirstLine (drop c.loop-size.self.at c.args.bytes.now) (Some c.in-Some.size) = rw take_rest at c.in-Some.ensures in
    let judged : accepts_line c.loop-size.self.number (take c.in-Some.size (drop c.loop-size.self.at c.args.bytes.now)) ≡ Err c.in-Err.why = rw (slice_size c.loop-size.self.at c.in-Some.size) at (sym c.judge_line.ensures ∙ c.in-Err.is) in
    stops_here c.args.bytes.now scan.number scan.at c.in-Some.size c.in-Err.why (lines_here c.args.bytes.now scan c.loop-size.invariant) first judged

pub returns-then-size-eq0-clause-line : goal.returns-then-size-eq0-clause-line
returns-then-size-eq0-clause-line c =
    let scan = c.loop-size.self in
    let first : IsFirstLine (drop c.loop-size.self.at c.args.bytes.now) (Some c.in-Some.size) = rw take_rest at c.in-Some.ensures in
    let judged : accepts_line c.loop-size.self.number (take c.in-Some.size (drop c.loop-size.self.at c.args.bytes.now)) ≡ Ok tt = rw (slice_size c.loop-size.self.at c.in-Some.size) at (sym c.judge_line.ensures ∙ c.in_default-judge_line.is) in
    ends_here c.args.bytes.now scan.number scan.at c.in-Some.size (lines_here c.args.bytes.now scan c.loop-size.invariant) first judged c.if-size-eq0.true

pub returns-then-size-eq0-clause-within : goal.returns-then-size-eq0-clause-within
returns-then-size-eq0-clause-within c =
    let there = c.loop-size.invariant.there in
    let first : IsFirstLine (drop c.loop-size.self.at c.args.bytes.now) (Some c.in-Some.size) = rw take_rest at c.in-Some.ensures in
    omega (arith, first_within c.args.bytes.now c.loop-size.self.at c.in-Some.size (omega (arith, there)) first)

pub overflow_add-self-in-Some-2 : goal.overflow_add-self-in-Some-2
overflow_add-self-in-Some-2 c = let few = c.loop-size.invariant.few in let there = c.loop-size.invariant.there in omega (arith, few, there)

pub loop-size-preserved : goal.loop-size-preserved
loop-size-preserved c =
    let scan = c.loop-size.self in
    let first : IsFirstLine (drop c.loop-size.self.at c.args.bytes.now) (Some c.in-Some.size) = rw take_rest at c.in-Some.ensures in
    let judged : accepts_line c.loop-size.self.number (take c.in-Some.size (drop c.loop-size.self.at c.args.bytes.now)) ≡ Ok tt = rw (slice_size c.loop-size.self.at c.in-Some.size) at (sym c.judge_line.ensures ∙ c.in_default-judge_line.is) in
    let some : 0 < c.in-Some.size = omega (arith, c.if-size-eq0.false) in
    scan_past c.args.bytes.now scan c.in-Some.size c.loop-size.invariant first judged some

pub loop-size-smaller : goal.loop-size-smaller
loop-size-smaller c =
    let there = c.loop-size.invariant.there in
    let first : IsFirstLine (drop c.loop-size.self.at c.args.bytes.now) (Some c.in-Some.size) = rw take_rest at c.in-Some.ensures in
    omega (arith, first_within c.args.bytes.now c.loop-size.self.at c.in-Some.size (omega (arith, there)) first)

pub overflow_sub-size : goal.overflow_sub-size
overflow_sub-size c = let there = c.loop-size.invariant.there in omega (arith, there)

pub returns-then-size-gt4097-clause-line : goal.returns-then-size-gt4097-clause-line
returns-then-size-gt4097-clause-line c =
    let scan = c.loop-size.self in
    let first : IsFirstLine (drop c.loop-size.self.at c.args.bytes.now) None = rw take_rest at c.in_default.ensures in
    too_long c.args.bytes.now scan.number scan.at (lines_here c.args.bytes.now scan c.loop-size.invariant) first c.if-size-gt4097.true

pub returns-then-size-gt4097-clause-knows : goal.returns-then-size-gt4097-clause-knows
returns-then-size-gt4097-clause-knows c =
    let first : IsFirstLine (drop c.loop-size.self.at c.args.bytes.now) None = rw take_rest at c.in_default.ensures in
    scan_seen c.args.bytes.now c.loop-size.self c.saturating_sub-self.result c.loop-size.invariant first c.saturating_sub-self.ensures

pub returns-clause-line : goal.returns-clause-line
returns-clause-line c =
    let scan = c.loop-size.self in
    let first : IsFirstLine (drop c.loop-size.self.at c.args.bytes.now) None = rw take_rest at c.in_default.ensures in
    no_more c.args.bytes.now scan.number scan.at (lines_here c.args.bytes.now scan c.loop-size.invariant) first c.if-size-gt4097.false

pub returns-clause-knows : goal.returns-clause-knows
returns-clause-knows c =
    let first : IsFirstLine (drop c.loop-size.self.at c.args.bytes.now) None = rw take_rest at c.in_default.ensures in
    scan_seen c.args.bytes.now c.loop-size.self c.saturating_sub-self.result c.loop-size.invariant first c.saturating_sub-self.ensures
