use Rattle.std.proofs.Common.{length, refl, sym, ap, ◌∙◌, subst, inl, inr, ℕ, nat_eq, map, Bool, true, false, List, [], ◌∷◌, ◌++◌, ◌==◌, ◌&&◌, None, ◌≡◌}
use Rattle.std.specs.Io.KnownBytes.{Appends}
use Rattle.std.proofs.KnownBytes.{Appends-nil}
use Rattle.report_model.specs.declared.note.Note.{Note}
use Rattle.report_model.specs.Shown.{printed_lines}
use Rattle.stream_check.specs.declared.kept.Kept.{Kept}
use Rattle.std.proofs.Math.Nat.{le_of_eq}
use Rattle.reading_model.specs.Outlook.{Answered, end}
use Rattle.file_model.specs.declared.end.FileEnd.{FileEnd}
use Rattle.file_model.specs.Reader.{file_kind}
use Rattle.file_reader.specs.FileInlet.{outlook}
use Rattle.report_model.specs.Check.{note_line}
use Rattle.report_model.specs.Notes.{notes_in, check_notes, note}
use Rattle.stream_report.specs.declared.fault.SayFault.{SayFault}
use Rattle.stream_report.proofs.Said.{rose_later}
use Rattle.stream_report.proofs.ShownEnds.{blamed_end, read_so}
use Rattle.stream_check.specs.declared.next.Step.{Step}
use Rattle.stream_check.specs.declared.next.Step.TheVariants as steps
use Rattle.file_model.specs.declared.end.FileEnd.TheVariants as ends
use Rattle.stream_check.specs.Ends.{end_by}
use Rattle.stream_check.specs.Telling.{Fails, last_lines, table_behind}
use Rattle.stream_check.proofs.SoFar.{count_all}
use Rattle.stream_check.proofs.Checking.{fits_here, checked_more, front_more, some_more, all_said, front_said, some_said, chunks_said}
use Rattle.stream_check.proofs.file.check_file.Goals as goal

-- the end of a step that has one
abbrev step_end : Step → FileEnd
step_end (steps.Chunk at chunk) = ends.ReadFault
step_end (steps.End e) = e
step_end steps.Memory = ends.ReadFault

none_stands : (b : Bool) (x : Note) → notes_in ((b && false, x) ∷ []) ≡ []
none_stands true x = refl
none_stands false x = refl

-- behind a read that failed there is no line
no_lines : (ledger : Bool) (ks : List Kept) (chunks notes : ℕ) → last_lines ledger ks chunks notes ends.ReadFault ≡ []
no_lines ledger ks chunks notes = ap (λ (l : List Note). map note_line ((l ++ []) ++ []) ++ []) (none_stands (chunks == 0) (note 1 None 4))

pub chunks-preserved : goal.chunks-preserved
chunks-preserved g c =
    let i = c.chunks.invariant in
    let k = i.checked in
    let e = c.in-Chunk.ensures in
    let f = fits_here _ c.chunks.reader.file c.read_next.new.reader.file c.chunks.survey _ _ _ _ _ c.chunks.chunks c.chunks.notes c.in-Chunk.at c.in-Chunk.chunk k e.chunk e.answer in
    record {
      checked = checked_more _ c.chunks.reader.file c.read_next.new.reader.file c.chunks.survey _ _ _ _ _ c.chunks.chunks c.chunks.notes c.in-Chunk.at c.in-Chunk.chunk k e.chunk e.answer _ c.in-Ok.count c.take_chunk.new.survey
          (c.in-Ok.ensures.told k.items k.knows f) (c.in-Ok.ensures.count k.items k.knows f) c.in-Ok.ensures.few (c.in-Ok.ensures.knows k.items k.knows f);
      limit = e.limit ∙ i.limit;
      marked = e.marked ∙ i.marked;
      read_quiet = e.cause.quiet (λ h. absurd (cc h.1)) ∙ i.read_quiet;
      quiet = c.in-Ok.ensures.cause.quiet (λ h. absurd (cc h)) ∙ i.quiet;
      rest = c.in-Ok.ensures.rest ∙ i.rest;
    }

pub returns-in-Err-Print-clause-print : goal.returns-in-Err-Print-clause-print
returns-in-Err-Print-clause-print g c = λ _.
    let i = c.chunks.invariant in
    let k = i.checked in
    let e = c.in-Chunk.ensures in
    let f = fits_here _ c.chunks.reader.file c.read_next.new.reader.file c.chunks.survey _ _ _ _ _ c.chunks.chunks c.chunks.notes c.in-Chunk.at c.in-Chunk.chunk k e.chunk e.answer in
    let P : SayFault → Type 0 = λ x. Fails x (g.L.Lines.printed c.chunks.lines) (g.L.Lines.printed c.take_chunk.new.lines) (g.L.Lines.print_faults c.chunks.lines) (g.L.Lines.print_faults c.take_chunk.new.lines)
    (map note_line (notes_in (table_behind (nat_eq c.chunks.chunks 0) k.items c.in-Chunk.at c.in-Chunk.chunk))) in
    let p = subst P c.in-Err-Print.field-0-is (c.in-Err-Print.ensures.told k.items k.knows f) in (
      rose_later _ _ _ (le_of_eq (sym i.quiet)) p.1,
      inl (front_more _ c.chunks.reader.file c.read_next.new.reader.file c.chunks.survey _ _ _ _ _ c.chunks.chunks c.chunks.notes c.in-Chunk.at c.in-Chunk.chunk k e.chunk e.answer _ p.0),
    )

pub returns-in-Err-Memory-clause-memory : goal.returns-in-Err-Memory-clause-memory
returns-in-Err-Memory-clause-memory g c = λ _.
    let i = c.chunks.invariant in
    let k = i.checked in
    let e = c.in-Chunk.ensures in
    let f = fits_here _ c.chunks.reader.file c.read_next.new.reader.file c.chunks.survey _ _ _ _ _ c.chunks.chunks c.chunks.notes c.in-Chunk.at c.in-Chunk.chunk k e.chunk e.answer in
    let P : SayFault → Type 0 = λ x. Fails x (g.L.Lines.printed c.chunks.lines) (g.L.Lines.printed c.take_chunk.new.lines) (g.L.Lines.print_faults c.chunks.lines) (g.L.Lines.print_faults c.take_chunk.new.lines)
    (map note_line (notes_in (table_behind (nat_eq c.chunks.chunks 0) k.items c.in-Chunk.at c.in-Chunk.chunk))) in
    let p = subst P c.in-Err-Memory.field-0-is (c.in-Err-Memory.ensures.told k.items k.knows f) in
    inl (some_more _ c.chunks.reader.file c.read_next.new.reader.file c.chunks.survey _ _ _ _ _ c.chunks.chunks c.chunks.notes c.in-Chunk.at c.in-Chunk.chunk k e.chunk e.answer _ p)

pub returns-in-End-ReadFault-clause-checked : goal.returns-in-End-ReadFault-clause-checked
returns-in-End-ReadFault-clause-checked g c = λ _.
    let i = c.chunks.invariant in
    let k = i.checked in
    let e = ends.ReadFault in
    let A : FileEnd → Type 0 =
    λ x. Answered file_kind (outlook c.chunks.reader.file) (outlook c.read_next.new.reader.file) (g.S.Source.left c.chunks.reader.source) (g.S.Source.left c.read_next.new.reader.source) (end x) in
    let P : List (List ℕ) → Type 0 = λ l. Appends (g.L.Lines.printed c.chunks.lines) (g.L.Lines.printed c.chunks.lines) (printed_lines l) in (
      k.items,
      e,
      refl,
      read_so _ _ _ _ _ _ _ c.chunks.reader.file c.read_next.new.reader.file k.items e k.begun (subst A c.in-End-ReadFault.field-0-is c.in-End-ReadFault.ensures.answer) i.marked c.in-End-ReadFault.ensures.marked i.read_quiet
          (blamed_end e _ _ (λ _. (k.begun.goes, ap (λ (x : FileEnd). steps.End x) c.in-End-ReadFault.field-0-is)) (λ _. refl) c.in-End-ReadFault.ensures.cause),
      all_said _ c.chunks.reader.file c.chunks.survey _ _ _ _ c.chunks.chunks c.chunks.notes k e _
          (subst P (sym (no_lines c.chunks.survey.ledger c.chunks.survey.streams.items c.chunks.chunks c.chunks.notes)) (Appends-nil _)),
    )

pub returns-in-End-clause-checked : goal.returns-in-End-clause-checked
returns-in-End-clause-checked g c = λ is.
    let i = c.chunks.invariant in
    let k = i.checked in
    let e = c.in-End.end in
    let s = c.finish.ensures.said is in (
      k.items,
      e,
      s.0 ∙ ap (end_by e c.chunks.chunks) (count_all k.items e c.chunks.survey.ledger c.chunks.survey.streams.items c.chunks.chunks c.chunks.notes k.knows.ledger k.knows.streams k.counted k.noted)
          ∙ ap (λ (n : ℕ). end_by e n (length (check_notes (k.items, e)))) k.counted,
      read_so _ _ _ _ _ _ _ c.chunks.reader.file c.read_next.new.reader.file k.items e k.begun c.in-End.ensures.answer i.marked c.in-End.ensures.marked i.read_quiet (blamed_end e _ _ (λ q. (k.begun.goes, ap (λ (x : FileEnd). steps.End x) q)) (λ h. ap step_end h.1) c.in-End.ensures.cause),
      all_said _ c.chunks.reader.file c.chunks.survey _ _ _ _ c.chunks.chunks c.chunks.notes k e _ s.1,
    )

pub returns-in-End-clause-print : goal.returns-in-End-clause-print
returns-in-End-clause-print g c = λ is.
    let i = c.chunks.invariant in
    let k = i.checked in
    let e = c.in-End.end in
    let p = c.finish.ensures.print is in (
      rose_later _ _ _ (le_of_eq (sym i.quiet)) p.1,
      inr (
        k.items,
        e,
        read_so _ _ _ _ _ _ _ c.chunks.reader.file c.read_next.new.reader.file k.items e k.begun c.in-End.ensures.answer i.marked c.in-End.ensures.marked i.read_quiet (blamed_end e _ _ (λ q. (k.begun.goes, ap (λ (x : FileEnd). steps.End x) q)) (λ h. ap step_end h.1) c.in-End.ensures.cause),
        front_said _ c.chunks.reader.file c.chunks.survey _ _ _ _ c.chunks.chunks c.chunks.notes k e _ p.0,
      ),
    )

pub returns-in-End-clause-memory : goal.returns-in-End-clause-memory
returns-in-End-clause-memory g c = λ is.
    let i = c.chunks.invariant in
    let k = i.checked in
    let e = c.in-End.end in
    inr (
      k.items,
      e,
      read_so _ _ _ _ _ _ _ c.chunks.reader.file c.read_next.new.reader.file k.items e k.begun c.in-End.ensures.answer i.marked c.in-End.ensures.marked i.read_quiet (blamed_end e _ _ (λ q. (k.begun.goes, ap (λ (x : FileEnd). steps.End x) q)) (λ h. ap step_end h.1) c.in-End.ensures.cause),
      some_said _ c.chunks.reader.file c.chunks.survey _ _ _ _ c.chunks.chunks c.chunks.notes k e _ (c.finish.ensures.memory is),
    )

pub returns-in-Memory-clause-memory : goal.returns-in-Memory-clause-memory
returns-in-Memory-clause-memory g c = λ _.
    inl (chunks_said _ c.chunks.reader.file c.chunks.survey _ _ _ _ c.chunks.chunks c.chunks.notes c.chunks.invariant.checked c.read_next.new.reader.file _ _ c.in-Memory.ensures.answer refl)
