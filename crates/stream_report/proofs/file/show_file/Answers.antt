use Rattle.std.proofs.Common.{refl, sym, ap, ◌∙◌, subst, inl, inr, ℕ, List, [], ◌∷◌, ◌++◌, take, Err}
use Rattle.std.proofs.Math.Nat.{le_of_eq}
use Rattle.std.specs.Io.KnownBytes.{Appends}
use Rattle.std.proofs.KnownBytes.{Appends-nil, Appends-trans}
use Rattle.file_model.specs.declared.end.FileEnd.TheVariants as end
use Rattle.file_reader.specs.FileInlet.{outlook}
use Rattle.chunk_grammar.specs.Chunk.{Context}
use Rattle.report_model.specs.Lines.{chunk_lines}
use Rattle.report_model.specs.Shown.{lines_of_chunks, printed_lines, AreFirstLines}
use Rattle.rec_base.specs.Known.{AppendsFront}
use Rattle.stream_report.proofs.Said.{rose_later}
use Rattle.stream_report.proofs.Showing.{begun_more, shown_more, front_more, all_lines, first_lines, fewer_lines, printed_both}
use Rattle.stream_report.proofs.ShownEnds.{blamed_end, read_so, all_said, front_said, chunks_said}
use Rattle.stream_report.proofs.file.show_file.Goals as goal

pub chunks-preserved : goal.chunks-preserved
chunks-preserved g c =
    let i = c.chunks.invariant in
    let P : Context → Type 0 = λ x. Appends (g.L.Lines.printed c.chunks.lines) (g.L.Lines.printed c.say_given.new.lines) (printed_lines (chunk_lines x c.in-Chunk.at c.in-Chunk.chunk)) in
    record {
      shown = shown_more _ c.chunks.reader.file c.next.new.self.file _ _ _ _ _ c.chunks.count c.in-Chunk.at c.in-Chunk.chunk i.shown c.in-Chunk.ensures.chunk c.in-Chunk.ensures.answer _ (subst P c.context.ensures c.in-Ok.ensures.said);
      limit = c.in-Chunk.ensures.limit ∙ i.limit;
      marked = c.in-Chunk.ensures.marked ∙ i.marked;
      read_quiet = c.in-Chunk.ensures.cause.quiet (λ h. absurd (cc h.1)) ∙ i.read_quiet;
      quiet = c.in-Ok.ensures.cause.quiet (λ h. absurd (cc h)) ∙ i.quiet;
      rest = c.in-Ok.ensures.rest ∙ i.rest;
    }

pub returns-in-Err-Print-clause-print : goal.returns-in-Err-Print-clause-print
returns-in-Err-Print-clause-print g c = λ _.
    let i = c.chunks.invariant in
    let p = c.in-Err-Print.ensures.print (ap Err c.in-Err-Print.field-0-is) in
    let P : Context → Type 0 = λ x. AppendsFront (g.L.Lines.printed c.chunks.lines) (g.L.Lines.printed c.say_given.new.lines) (printed_lines (chunk_lines x c.in-Chunk.at c.in-Chunk.chunk)) in
    let k = begun_more _ c.chunks.reader.file c.next.new.self.file _ _ _ _ _ c.chunks.count c.in-Chunk.at c.in-Chunk.chunk i.shown c.in-Chunk.ensures.chunk c.in-Chunk.ensures.answer in (
      rose_later _ _ _ (le_of_eq (sym i.quiet)) p.1,
      inl (
        k.taken,
        lines_of_chunks [] (i.shown.items ++ (c.in-Chunk.at, c.in-Chunk.chunk) ∷ []),
        k.lost,
        first_lines _ (outlook c.next.new.self.file) _ _ _ k,
        front_more _ c.chunks.reader.file c.next.new.self.file _ _ _ _ _ c.chunks.count c.in-Chunk.at c.in-Chunk.chunk i.shown c.in-Chunk.ensures.chunk c.in-Chunk.ensures.answer _ (subst P c.context.ensures p.0),
      ),
    )

pub returns-in-Err-Memory-clause-memory : goal.returns-in-Err-Memory-clause-memory
returns-in-Err-Memory-clause-memory g c = λ _.
    let i = c.chunks.invariant in
    let m = c.in-Err-Memory.ensures.memory (ap Err c.in-Err-Memory.field-0-is) in
    let reader = (outlook c.args.reader.now.file).coming in
    let before = lines_of_chunks [] i.shown.items in
    let lines : List (List ℕ) = chunk_lines c.next.new.self.file.context c.in-Chunk.at c.in-Chunk.chunk in
    let P : Context → Type 0 = λ x. Appends (g.L.Lines.printed c.chunks.lines) (g.L.Lines.printed c.say_given.new.lines) (printed_lines (take m.0 (chunk_lines x c.in-Chunk.at c.in-Chunk.chunk))) in
    let Q : List ℕ → Type 0 = λ t. Appends (g.L.Lines.printed c.args.lines.now) (g.L.Lines.printed c.say_given.new.lines) t in
    let k = begun_more _ c.chunks.reader.file c.next.new.self.file _ _ _ _ _ c.chunks.count c.in-Chunk.at c.in-Chunk.chunk i.shown c.in-Chunk.ensures.chunk c.in-Chunk.ensures.answer in
    let R : List (List ℕ) → Type 0 = λ l. AreFirstLines reader k.taken l in
    let all = all_lines _ c.chunks.reader.file c.next.new.self.file _ _ _ _ _ c.chunks.count c.in-Chunk.at c.in-Chunk.chunk i.shown c.in-Chunk.ensures.chunk c.in-Chunk.ensures.answer in (
      k.taken,
      before ++ take m.0 lines,
      k.lost,
      fewer_lines reader k.taken before lines m.0 (subst R all (first_lines reader (outlook c.next.new.self.file) _ _ _ k)),
      subst Q (sym (printed_both before (take m.0 lines))) (Appends-trans _ _ _ _ _ i.shown.said (subst P c.context.ensures m.1)),
    )

pub returns-in-End-clause-shown : goal.returns-in-End-clause-shown
returns-in-End-clause-shown g c = λ is.
    let i = c.chunks.invariant in
    let e = end.End c.in-End.at in
    let s = c.finish.ensures.said is in (
      i.shown.items,
      e,
      s.0,
      read_so _ _ _ _ _ _ _ c.chunks.reader.file c.next.new.self.file i.shown.items e i.shown.begun c.in-End.ensures.answer i.marked c.in-End.ensures.marked i.read_quiet (blamed_end e _ _ (λ q. absurd (cc q)) (λ h. absurd (cc h.1)) c.in-End.ensures.cause),
      all_said _ c.chunks.reader.file _ _ _ _ c.chunks.count i.shown e _ s.1,
    )

pub returns-in-End-clause-print : goal.returns-in-End-clause-print
returns-in-End-clause-print g c = λ is.
    let i = c.chunks.invariant in
    let e = end.End c.in-End.at in
    let p = c.finish.ensures.print is in (
      rose_later _ _ _ (le_of_eq (sym i.quiet)) p.1,
      inr (
        i.shown.items,
        e,
        read_so _ _ _ _ _ _ _ c.chunks.reader.file c.next.new.self.file i.shown.items e i.shown.begun c.in-End.ensures.answer i.marked c.in-End.ensures.marked i.read_quiet (blamed_end e _ _ (λ q. absurd (cc q)) (λ h. absurd (cc h.1)) c.in-End.ensures.cause),
        front_said _ c.chunks.reader.file _ _ _ _ c.chunks.count i.shown e _ p.0,
      ),
    )

pub returns-in-End-clause-memory : goal.returns-in-End-clause-memory
returns-in-End-clause-memory g c = λ is.
    chunks_said _ c.chunks.reader.file _ _ _ _ c.chunks.count c.chunks.invariant.shown c.next.new.self.file _ _ c.in-End.ensures.answer (c.finish.ensures.memory is)

pub returns-in-Torn-clause-shown : goal.returns-in-Torn-clause-shown
returns-in-Torn-clause-shown g c = λ is.
    let i = c.chunks.invariant in
    let e = end.Torn c.in-Torn.at c.in-Torn.left in
    let s = c.finish-in-Torn.ensures.said is in (
      i.shown.items,
      e,
      s.0,
      read_so _ _ _ _ _ _ _ c.chunks.reader.file c.next.new.self.file i.shown.items e i.shown.begun c.in-Torn.ensures.answer i.marked c.in-Torn.ensures.marked i.read_quiet (blamed_end e _ _ (λ q. absurd (cc q)) (λ h. absurd (cc h.1)) c.in-Torn.ensures.cause),
      all_said _ c.chunks.reader.file _ _ _ _ c.chunks.count i.shown e _ s.1,
    )

pub returns-in-Torn-clause-print : goal.returns-in-Torn-clause-print
returns-in-Torn-clause-print g c = λ is.
    let i = c.chunks.invariant in
    let e = end.Torn c.in-Torn.at c.in-Torn.left in
    let p = c.finish-in-Torn.ensures.print is in (
      rose_later _ _ _ (le_of_eq (sym i.quiet)) p.1,
      inr (
        i.shown.items,
        e,
        read_so _ _ _ _ _ _ _ c.chunks.reader.file c.next.new.self.file i.shown.items e i.shown.begun c.in-Torn.ensures.answer i.marked c.in-Torn.ensures.marked i.read_quiet (blamed_end e _ _ (λ q. absurd (cc q)) (λ h. absurd (cc h.1)) c.in-Torn.ensures.cause),
        front_said _ c.chunks.reader.file _ _ _ _ c.chunks.count i.shown e _ p.0,
      ),
    )

pub returns-in-Torn-clause-memory : goal.returns-in-Torn-clause-memory
returns-in-Torn-clause-memory g c = λ is.
    chunks_said _ c.chunks.reader.file _ _ _ _ c.chunks.count c.chunks.invariant.shown c.next.new.self.file _ _ c.in-Torn.ensures.answer (c.finish-in-Torn.ensures.memory is)

pub returns-in-Bad-clause-shown : goal.returns-in-Bad-clause-shown
returns-in-Bad-clause-shown g c = λ is.
    let i = c.chunks.invariant in
    let e = end.Bad c.in-Bad.at c.in-Bad.why in
    let s = c.finish-in-Bad.ensures.said is in (
      i.shown.items,
      e,
      s.0,
      read_so _ _ _ _ _ _ _ c.chunks.reader.file c.next.new.self.file i.shown.items e i.shown.begun c.in-Bad.ensures.answer i.marked c.in-Bad.ensures.marked i.read_quiet (blamed_end e _ _ (λ q. absurd (cc q)) (λ h. absurd (cc h.1)) c.in-Bad.ensures.cause),
      all_said _ c.chunks.reader.file _ _ _ _ c.chunks.count i.shown e _ s.1,
    )

pub returns-in-Bad-clause-print : goal.returns-in-Bad-clause-print
returns-in-Bad-clause-print g c = λ is.
    let i = c.chunks.invariant in
    let e = end.Bad c.in-Bad.at c.in-Bad.why in
    let p = c.finish-in-Bad.ensures.print is in (
      rose_later _ _ _ (le_of_eq (sym i.quiet)) p.1,
      inr (
        i.shown.items,
        e,
        read_so _ _ _ _ _ _ _ c.chunks.reader.file c.next.new.self.file i.shown.items e i.shown.begun c.in-Bad.ensures.answer i.marked c.in-Bad.ensures.marked i.read_quiet (blamed_end e _ _ (λ q. absurd (cc q)) (λ h. absurd (cc h.1)) c.in-Bad.ensures.cause),
        front_said _ c.chunks.reader.file _ _ _ _ c.chunks.count i.shown e _ p.0,
      ),
    )

pub returns-in-Bad-clause-memory : goal.returns-in-Bad-clause-memory
returns-in-Bad-clause-memory g c = λ is.
    chunks_said _ c.chunks.reader.file _ _ _ _ c.chunks.count c.chunks.invariant.shown c.next.new.self.file _ _ c.in-Bad.ensures.answer (c.finish-in-Bad.ensures.memory is)

pub returns-in-ReadFault-clause-shown : goal.returns-in-ReadFault-clause-shown
returns-in-ReadFault-clause-shown g c = λ _.
    let i = c.chunks.invariant in
    let e = end.ReadFault in (
      i.shown.items,
      e,
      refl,
      read_so _ _ _ _ _ _ _ c.chunks.reader.file c.next.new.self.file i.shown.items e i.shown.begun c.in-ReadFault.ensures.answer i.marked c.in-ReadFault.ensures.marked i.read_quiet (blamed_end e _ _ (λ _. (i.shown.begun.goes, refl)) (λ _. refl) c.in-ReadFault.ensures.cause),
      all_said _ c.chunks.reader.file _ _ _ _ c.chunks.count i.shown e _ (Appends-nil _),
    )

pub returns-in-SizeLimit-clause-shown : goal.returns-in-SizeLimit-clause-shown
returns-in-SizeLimit-clause-shown g c = λ _.
    let i = c.chunks.invariant in
    let e = end.SizeLimit in (
      i.shown.items,
      e,
      refl,
      read_so _ _ _ _ _ _ _ c.chunks.reader.file c.next.new.self.file i.shown.items e i.shown.begun c.in-SizeLimit.ensures.answer i.marked c.in-SizeLimit.ensures.marked i.read_quiet (blamed_end e _ _ (λ q. absurd (cc q)) (λ h. absurd (cc h.1)) c.in-SizeLimit.ensures.cause),
      all_said _ c.chunks.reader.file _ _ _ _ c.chunks.count i.shown e _ (Appends-nil _),
    )

pub returns-in-Memory-clause-memory : goal.returns-in-Memory-clause-memory
returns-in-Memory-clause-memory g c = λ _.
    chunks_said _ c.chunks.reader.file _ _ _ _ c.chunks.count c.chunks.invariant.shown c.next.new.self.file _ _ c.in-Memory.ensures.answer refl
