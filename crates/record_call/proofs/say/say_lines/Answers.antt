use Rattle.std.proofs.Common.{rules, ℕ, List, subst, refl, arith}
use Rattle.std.proofs.lemmas.Option.{slice_get_read}
use Rattle.std.specs.Io.KnownBytes.{Appends}
use Rattle.rec_base.specs.Known.{AppendsFront, printed_line}
use Rattle.record_call.proofs.Said.{said_line, front_line}
use Rattle.record_call.proofs.say.say_lines.Goals as goal

pub returns-in-Err-clause-failed : goal.returns-in-Err-clause-failed
returns-in-Err-clause-failed g c =
    let P : List ℕ → Type 0 = λ t. AppendsFront (g.D.Lines.printed c.loop-line.dock) (g.D.Lines.printed c.say_line.new.dock) (printed_line t) in
    front_line _ _ _ c.args.lines.now c.loop-line.line-index c.line-item.result (slice_get_read c.args.lines.now _ c.loop-line.line-index c.line-item.result refl (omega (arith, c.loop-line-test.true)) c.line-item.is) c.loop-line.invariant.said (subst P c.as_str.ensures.value c.in-Err.ensures.err)

pub loop-line-preserved : goal.loop-line-preserved
loop-line-preserved g c =
    let P : List ℕ → Type 0 = λ t. Appends (g.D.Lines.printed c.loop-line.dock) (g.D.Lines.printed c.say_line.new.dock) (printed_line t) in
    record {
      said = said_line _ _ _ c.args.lines.now c.loop-line.line-index c.line-item.result (slice_get_read c.args.lines.now _ c.loop-line.line-index c.line-item.result refl (omega (arith, c.loop-line-test.true)) c.line-item.is) c.loop-line.invariant.said (subst P c.as_str.ensures.value c.in-Ok.ensures.ok);
      quiet = search rules;
      rest = search rules;
    }
