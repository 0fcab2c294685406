use Rattle.rec_base.specs.Asked.{AsksAll, AsksFront}
use Rattle.rec_base.specs.declared.asked.Asked.{Asked}
use Rattle.std.proofs.Common.{List, Option, sym, subst, Err, arith, inl, inr, ap, ◌∙◌, map}
use Rattle.std.specs.Prelude.{string_bytes}
use Rattle.report_model.specs.Shown.{printed_lines}
use Rattle.run_model.proofs.Errors.{handed, handed_back}
use Rattle.record_call.proofs.Records.{whole_cut, file_kept, complete_of, lines_are}
use Rattle.record_call.proofs.Orders.{is_write_or_say}
use Rattle.record_call.proofs.Said.{appends_from, appends_front_from, rose_from}
use Rattle.record_call.proofs.record.record.Goals as goal

pub returns-in_err-written-clause-failed : goal.returns-in_err-written-clause-failed
returns-in_err-written-clause-failed g c = λ e.
    c.in_err-written.ensures.failed (handed c.from_residual.result c.in_err-written.field-0.0 _ c.from_residual.ensures.1 e)

pub returns-in_err-lines-clause-memory : goal.returns-in_err-lines-clause-memory
returns-in_err-lines-clause-memory g c = λ _.
    let w = c.in_ok-written.ensures.written in
    inr (whole_cut g.D.Source.Source.left g.D.Source.Source.faults g.D.Source.Source.mark (g.D.Dock.contents c.args.dock.now) c.args.words.now _ _ _ _ w.fed w.chunks w.file)

pub returns-in-Ok-clause-recorded : goal.returns-in-Ok-clause-recorded
returns-in-Ok-clause-recorded g c =
    let w = c.in_ok-written.ensures.written in
    let lines = ap (λ t. map string_bytes t) c.deref.ensures.value ∙ lines_are w.fed w.chunks _ _ _ _ c.in_ok-lines.ensures w.told w.size w.chunk_count in (
      w.fed,
      w.chunks,
      file_kept g.D.Source.Source.left g.D.Source.Source.faults g.D.Source.Source.mark (g.D.Dock.contents c.args.dock.now) c.args.words.now _ _ _ _ _ _ w.fed w.chunks (g.met.D.Dock.say_keeps_target c.write_file.new.dock c.say_lines.new.dock c.say_lines.ensures.rest) (g.met.D.Dock.say_keeps_held c.write_file.new.dock c.say_lines.new.dock c.say_lines.ensures.rest) w.file,
      c.are_complete.ensures ∙ complete_of w.chunks w.fed _ w.told,
      appends_from _ _ _ _ _ c.in_ok-written.ensures.printed (ap printed_lines lines) c.in-Ok.ensures.said,
    )

pub returns-clause-not_said : goal.returns-clause-not_said
returns-clause-not_said g c = λ _.
    let w = c.in_ok-written.ensures.written in
    let lines = ap (λ t. map string_bytes t) c.deref.ensures.value ∙ lines_are w.fed w.chunks _ _ _ _ c.in_ok-lines.ensures w.told w.size w.chunk_count in (
      rose_from _ _ _ c.in_ok-written.ensures.print_faults c.in-Err.ensures.cause.failed,
      w.fed,
      w.chunks,
      file_kept g.D.Source.Source.left g.D.Source.Source.faults g.D.Source.Source.mark (g.D.Dock.contents c.args.dock.now) c.args.words.now _ _ _ _ _ _ w.fed w.chunks (g.met.D.Dock.say_keeps_target c.write_file.new.dock c.say_lines.new.dock c.say_lines.ensures.rest) (g.met.D.Dock.say_keeps_held c.write_file.new.dock c.say_lines.new.dock c.say_lines.ensures.rest) w.file,
      appends_front_from _ _ _ _ _ c.in_ok-written.ensures.printed (ap printed_lines lines) c.in-Err.ensures.failed,
    )

pub returns-in_err-lines-clause-numbers : goal.returns-in_err-lines-clause-numbers
returns-in_err-lines-clause-numbers g c = λ _.
    let w = c.in_ok-written.ensures.written in
    inr (inr (w.fed, w.chunks, w.file))

pub returns-in_err-written-clause-asks_all : goal.returns-in_err-written-clause-asks_all
returns-in_err-written-clause-asks_all g c = λ known.
    elim (is_write_or_say c.from_residual.result c.in_err-written.field-0.0 c.from_residual.ensures.1 known) [
      | inl wrote ↦ c.in_err-written.ensures.asks_all (λ _. ap Err wrote)
      | inr said ↦ absurd (c.in_err-written.ensures.no_say (ap Err said))
    ]

pub returns-in_err-written-clause-quiet : goal.returns-in_err-written-clause-quiet
returns-in_err-written-clause-quiet g c = λ other.
    c.in_err-written.ensures.quiet (λ f. other (handed_back c.from_residual.result c.in_err-written.field-0.0 _ c.from_residual.ensures.1 f))

pub returns-in_err-written-clause-writes : goal.returns-in_err-written-clause-writes
returns-in_err-written-clause-writes g c =
    let wrote = c.in_err-written.ensures.writes in
    record {
      later = wrote.later;
      rose = λ e. wrote.rose (handed c.from_residual.result c.in_err-written.field-0.0 _ c.from_residual.ensures.1 e);
      quiet = λ other. wrote.quiet (λ f. other (handed_back c.from_residual.result c.in_err-written.field-0.0 _ c.from_residual.ensures.1 f));
    }

pub returns-in_err-written-clause-says : goal.returns-in_err-written-clause-says
returns-in_err-written-clause-says g c =
    let same = c.in_err-written.ensures.print_faults in
    record {
      later = omega (arith, same);
      rose = λ e. absurd (c.in_err-written.ensures.no_say (handed c.from_residual.result c.in_err-written.field-0.0 _ c.from_residual.ensures.1 e));
      quiet = λ _. same;
    }

pub returns-in-Ok-clause-asks : goal.returns-in-Ok-clause-asks
returns-in-Ok-clause-asks g c =
    let a = c.in_ok-written.ensures.asks in
    (a.0, a.1, subst (λ (now : Option (List Asked)). AsksFront (g.D.Dock.asked c.args.dock.now) now a.0) (sym (g.met.D.Dock.say_keeps_asked c.write_file.new.dock c.say_lines.new.dock c.say_lines.ensures.rest)) a.2)

pub returns-in-Ok-clause-asks_all : goal.returns-in-Ok-clause-asks_all
returns-in-Ok-clause-asks_all g c = λ _.
    let a = c.in_ok-written.ensures.asks_all (λ e. absurd (cc e)) in
    (a.0, a.1, subst (λ (now : Option (List Asked)). AsksAll (g.D.Dock.asked c.args.dock.now) now a.0) (sym (g.met.D.Dock.say_keeps_asked c.write_file.new.dock c.say_lines.new.dock c.say_lines.ensures.rest)) a.2)

pub returns-clause-asks : goal.returns-clause-asks
returns-clause-asks g c =
    let a = c.in_ok-written.ensures.asks in
    (a.0, a.1, subst (λ (now : Option (List Asked)). AsksFront (g.D.Dock.asked c.args.dock.now) now a.0) (sym (g.met.D.Dock.say_keeps_asked c.write_file.new.dock c.say_lines.new.dock c.say_lines.ensures.rest)) a.2)

pub returns-clause-asks_all : goal.returns-clause-asks_all
returns-clause-asks_all g c = λ _.
    let a = c.in_ok-written.ensures.asks_all (λ e. absurd (cc e)) in
    (a.0, a.1, subst (λ (now : Option (List Asked)). AsksAll (g.D.Dock.asked c.args.dock.now) now a.0) (sym (g.met.D.Dock.say_keeps_asked c.write_file.new.dock c.say_lines.new.dock c.say_lines.ensures.rest)) a.2)

pub returns-clause-quiet : goal.returns-clause-quiet
returns-clause-quiet g c = λ _. g.met.D.Dock.say_keeps_open_faults c.write_file.new.dock c.say_lines.new.dock c.say_lines.ensures.rest ∙ c.in_ok-written.ensures.quiet (λ f. absurd (cc f))

pub returns-clause-writes : goal.returns-clause-writes
returns-clause-writes g c =
    let kept = g.met.D.Dock.say_keeps_write_faults c.write_file.new.dock c.say_lines.new.dock c.say_lines.ensures.rest ∙ c.in_ok-written.ensures.writes.quiet (λ f. absurd (cc f)) in
    record { later = omega (arith, kept); rose = λ e. absurd (cc e); quiet = λ _. kept }

pub returns-in-Ok-clause-writes : goal.returns-in-Ok-clause-writes
returns-in-Ok-clause-writes g c =
    let kept = g.met.D.Dock.say_keeps_write_faults c.write_file.new.dock c.say_lines.new.dock c.say_lines.ensures.rest ∙ c.in_ok-written.ensures.writes.quiet (λ f. absurd (cc f)) in
    record { later = omega (arith, kept); rose = λ e. absurd (cc e); quiet = λ _. kept }
