use Rattle.std.proofs.Common.{List, ℕ, subst, ◌∙◌}
use Rattle.std.specs.Io.KnownBytes.{Appends}
use Rattle.rec_base.specs.Known.{AppendsFront, printed_line}
use Rattle.stream_report.proofs.Parts.{said_both, front_first, front_both, some_both}
use Rattle.stream_report.proofs.Said.{on_ok, rose_later}
use Rattle.stream_report.proofs.say.say_chunk.Goals as goal

pub returns-in_err-say_line-clause-print : goal.returns-in_err-say_line-clause-print
returns-in_err-say_line-clause-print g c = λ _.
    let front = c.in_err-say_line.ensures.print in
    let P : List ℕ → Type 0 = λ t. AppendsFront (g.L.Lines.printed c.args.lines.now) (g.L.Lines.printed c.say_line.new.lines) (printed_line t) in
    (front_first c.args.ctx.now c.args.at c.args.chunk.now _ _ (subst P (c.as_str.ensures.value ∙ c.in_ok-line.ensures) front.0), front.1)

pub returns-clause-said : goal.returns-clause-said
returns-clause-said g c =
    let P : List ℕ → Type 0 = λ t. Appends (g.L.Lines.printed c.args.lines.now) (g.L.Lines.printed c.say_line.new.lines) (printed_line t) in
    let first = subst P (c.as_str.ensures.value ∙ c.in_ok-line.ensures) c.in_ok-say_line.ensures.said in
    on_ok c.say_later.result _ _ (said_both c.args.ctx.now c.args.at c.args.chunk.now _ _ _ first) c.say_later.ensures.said

pub returns-clause-print : goal.returns-clause-print
returns-clause-print g c = λ is.
    let P : List ℕ → Type 0 = λ t. Appends (g.L.Lines.printed c.args.lines.now) (g.L.Lines.printed c.say_line.new.lines) (printed_line t) in
    let first = subst P (c.as_str.ensures.value ∙ c.in_ok-line.ensures) c.in_ok-say_line.ensures.said in
    let front = c.say_later.ensures.print is in
    (front_both c.args.ctx.now c.args.at c.args.chunk.now _ _ _ first front.0, rose_later _ _ _ c.in_ok-say_line.ensures.cause.later front.1)

pub returns-clause-memory : goal.returns-clause-memory
returns-clause-memory g c = λ is.
    let P : List ℕ → Type 0 = λ t. Appends (g.L.Lines.printed c.args.lines.now) (g.L.Lines.printed c.say_line.new.lines) (printed_line t) in
    let first = subst P (c.as_str.ensures.value ∙ c.in_ok-line.ensures) c.in_ok-say_line.ensures.said in
    let some = c.say_later.ensures.memory is in
    some_both c.args.ctx.now c.args.at c.args.chunk.now _ _ _ first some.0 some.1
