use Rattle.std.proofs.Common.{refl, inl, inr, subst}
use Rattle.std.specs.Io.KnownBytes.{Appends}
use Rattle.file_model.specs.declared.end.FileEnd.{FileEnd}
use Rattle.report_model.specs.Shown.{show_lines, printed_lines}
use Rattle.file_call.specs.Files.{IsFileOf}
use Rattle.file_call.proofs.Ends.{clean_end, torn_end, bad_end, read_end, limit_end}
use Rattle.file_call.proofs.Files.{read_failed, file_of, shown_from}
use Rattle.file_call.proofs.Kept.{appends_from, appends_front_from, rose_from}
use Rattle.file_call.proofs.show.show.Goals as goal

pub returns-in-Clean-clause-shown : goal.returns-in-Clean-clause-shown
returns-in-Clean-clause-shown g c =
    let s = c.in-Clean.ensures.shown refl in
    (s.0, s.1, clean_end s.1 s.2, file_of c.in-Ok.ensures.begun _ s.0 s.1 s.3, appends_from _ _ _ _ c.in-Ok.ensures.printed s.4)

pub returns-in-Torn-clause-shown : goal.returns-in-Torn-clause-shown
returns-in-Torn-clause-shown g c =
    let s = c.in-Torn.ensures.shown refl in
    (s.0, s.1, torn_end s.1 s.2, file_of c.in-Ok.ensures.begun _ s.0 s.1 s.3, appends_from _ _ _ _ c.in-Ok.ensures.printed s.4)

pub returns-in-Bad-clause-shown : goal.returns-in-Bad-clause-shown
returns-in-Bad-clause-shown g c =
    let s = c.in-Bad.ensures.shown refl in
    (s.0, s.1, bad_end s.1 s.2, file_of c.in-Ok.ensures.begun _ s.0 s.1 s.3, appends_from _ _ _ _ c.in-Ok.ensures.printed s.4)

pub returns-in-ReadFault-clause-read : goal.returns-in-ReadFault-clause-read
returns-in-ReadFault-clause-read g c = λ _.
    let s = c.in-ReadFault.ensures.shown refl in
    let F : FileEnd → Type 0 = λ e. IsFileOf g.D.Source.Source.left g.D.Source.Source.faults g.D.Source.Source.mark (g.D.Dock.contents c.args.dock.now) c.args.name.now s.0 e in
    let P : FileEnd → Type 0 = λ e. Appends (g.D.Lines.printed c.args.dock.now) (g.D.Lines.printed c.show_file.new.lines) (printed_lines (show_lines (s.0, e))) in
    let is = read_end s.1 s.2 in
    (s.0, subst F is (file_of c.in-Ok.ensures.begun _ s.0 s.1 s.3), subst P is (appends_from _ _ _ _ c.in-Ok.ensures.printed s.4))

pub returns-in-ReadFault-clause-read_cause : goal.returns-in-ReadFault-clause-read_cause
returns-in-ReadFault-clause-read_cause g c = λ _.
    let s = c.in-ReadFault.ensures.shown refl in
    read_failed g.D.Dock.input_mark (g.D.Dock.marks c.args.dock.now) g.met.D.Dock.mark_keeps_input_mark c.in-Ok.ensures.begun.entered c.in-Ok.ensures.marked c.show_file.new.reader.source s.3.marked (c.in-ReadFault.ensures.reads.rose refl) (s.3.taken, s.3.lost)

pub returns-in-SizeLimit-clause-size_limit : goal.returns-in-SizeLimit-clause-size_limit
returns-in-SizeLimit-clause-size_limit g c = λ _.
    let s = c.in-SizeLimit.ensures.shown refl in
    let F : FileEnd → Type 0 = λ e. IsFileOf g.D.Source.Source.left g.D.Source.Source.faults g.D.Source.Source.mark (g.D.Dock.contents c.args.dock.now) c.args.name.now s.0 e in
    let P : FileEnd → Type 0 = λ e. Appends (g.D.Lines.printed c.args.dock.now) (g.D.Lines.printed c.show_file.new.lines) (printed_lines (show_lines (s.0, e))) in
    let is = limit_end s.1 s.2 in
    (s.0, subst F is (file_of c.in-Ok.ensures.begun _ s.0 s.1 s.3), subst P is (appends_from _ _ _ _ c.in-Ok.ensures.printed s.4))

pub returns-in-PrintFault-clause-say : goal.returns-in-PrintFault-clause-say
returns-in-PrintFault-clause-say g c = λ _.
    let p = c.in-PrintFault.ensures.print refl in (
      rose_from _ _ _ c.in-Ok.ensures.print_faults p.0,
      elim p.1 [
        | inl f ↦ inl (f.1, shown_from c.in-Ok.ensures.begun _ f.0 f.1 f.2 f.3, appends_front_from _ _ _ _ c.in-Ok.ensures.printed f.4)
        | inr s ↦ inr (s.0, s.1, file_of c.in-Ok.ensures.begun _ s.0 s.1 s.2, appends_front_from _ _ _ _ c.in-Ok.ensures.printed s.3)
      ],
    )

pub returns-clause-memory : goal.returns-clause-memory
returns-clause-memory g c = λ _.
    let f = c.in-Memory.ensures.memory refl in
    inr (f.1, shown_from c.in-Ok.ensures.begun _ f.0 f.1 f.2 f.3, appends_from _ _ _ _ c.in-Ok.ensures.printed f.4)
