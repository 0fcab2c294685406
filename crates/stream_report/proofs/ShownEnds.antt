-- The end of a file, behind its chunks.
use Rattle.std.proofs.Common.{◌≡◌, ℕ, List, [], ◌++◌, length, Option, refl, sym, ap, ◌∙◌, subst, arith}
use Rattle.std.specs.Io.KnownBytes.{Appends, Consumes}
use Rattle.std.proofs.KnownBytes.{Appends-trans, Consumes-trans}
use Rattle.rec_base.specs.Causes.{Blames}
use Rattle.rec_base.specs.Known.{AppendsFront}
use Rattle.reading_model.specs.Outlook.{Got, end, at_fault, Answered}
use Rattle.reading_model.specs.Read.{Reader, IsRead}
use Rattle.piece_reader.specs.Steps.{Begun}
use Rattle.piece_reader.proofs.Ending.{fresh, ends_so}
use Rattle.file_model.specs.declared.end.FileEnd.{FileEnd}
use Rattle.file_model.specs.declared.end.FileEnd.TheVariants.{End, Torn, Bad, ReadFault, SizeLimit}
use Rattle.file_model.specs.Reader.{ChunkAt, file_kind}
use Rattle.file_reader.specs.FileInlet.{FileInlet, outlook}
use Rattle.report_model.specs.Shown.{lines_of_chunks, end_lines, show_lines, printed_lines, AreFirstLines}
use Rattle.stream_report.proofs.Said.{front_behind}
use Rattle.stream_report.proofs.Showing.{ShownSo, printed_both, first_lines, later_taken}

fault_alone : (e : FileEnd) → file_kind e ≡ at_fault → e ≡ ReadFault
fault_alone (End at) k = absurd cc
fault_alone (Torn at left) k = absurd cc
fault_alone (Bad at why) k = absurd cc
fault_alone ReadFault k = refl
fault_alone SizeLimit k = absurd cc

-- a read that failed is blamed on the end, by what a reader blames it on
pub blamed_end : {F : Type 0} (e : FileEnd) (a b : ℕ) → (e ≡ ReadFault → F) → (F → e ≡ ReadFault) → Blames F a b → Blames (e ≡ ReadFault) a b
blamed_end e a b to from h = record { later = h.later; rose = λ is. h.rose (to is); quiet = λ other. h.quiet (λ fault. other (from fault)) }

-- what the reader gave up to its end
pub read_so : {S M : Type 0} (left_of : S → Option (List ℕ)) (faults_of : S → ℕ) (mark_of : S → M) (reader : Reader ChunkAt FileEnd) (source mid last : S) (now new : FileInlet) (items : List ChunkAt) (e : FileEnd)
    → Begun (fresh reader) (outlook now) (left_of source) (left_of mid) items → Answered file_kind (outlook now) (outlook new) (left_of mid) (left_of last) (end e)
    → mark_of mid ≡ mark_of source → mark_of last ≡ mark_of mid → faults_of mid ≡ faults_of source → Blames (e ≡ ReadFault) (faults_of mid) (faults_of last)
    → IsRead left_of faults_of mark_of file_kind reader source last items e
read_so left_of faults_of mark_of reader source mid last now new items e k t marked marks still cause =
    let r = ends_so file_kind reader (outlook now) (outlook new) (left_of source) (left_of mid) (left_of last) items e k t in
    record {
      marked = marks ∙ marked;
      later = omega (arith, still, cause.later);
      taken = r.0;
      lost = r.1;
      ends = r.2;
      cause = λ is. let rose = cause.rose (fault_alone e is) in omega (arith, rose, still);
      quiet = λ other. cause.quiet (λ is. other (ap file_kind is)) ∙ still;
    }

module _ (reader : Reader ChunkAt FileEnd) (now : FileInlet) (a b printed printed' : Option (List ℕ)) (count : ℕ) (k : ShownSo reader now a b printed printed' count) where
  all_printed : (e : FileEnd) → printed_lines (show_lines (k.items, e)) ≡ printed_lines (lines_of_chunks [] k.items) ++ printed_lines (end_lines count e)
  all_printed e =
      printed_both (lines_of_chunks [] k.items) (end_lines (length k.items) e) ∙ ap (λ (n : ℕ). printed_lines (lines_of_chunks [] k.items) ++ printed_lines (end_lines n e)) (sym k.counted)

  -- all lines were said
  pub all_said : (e : FileEnd) (printed'' : Option (List ℕ)) → Appends printed' printed'' (printed_lines (end_lines count e)) → Appends printed printed'' (printed_lines (show_lines (k.items, e)))
  all_said e printed'' said = let P : List ℕ → Type 0 = λ t. Appends printed printed'' t in subst P (sym (all_printed e)) (Appends-trans printed printed' printed'' _ _ k.said said)

  -- a front of them was said
  pub front_said : (e : FileEnd) (printed'' : Option (List ℕ)) → AppendsFront printed' printed'' (printed_lines (end_lines count e)) → AppendsFront printed printed'' (printed_lines (show_lines (k.items, e)))
  front_said e printed'' said = let P : List ℕ → Type 0 = λ t. AppendsFront printed printed'' t in subst P (sym (all_printed e)) (front_behind printed printed' printed'' _ _ k.said said)

  -- the lines of the chunks were said, and no others
  pub chunks_said : {g : Got ChunkAt FileEnd} (new : FileInlet) (c printed'' : Option (List ℕ)) → Answered file_kind (outlook now) (outlook new) b c g → printed'' ≡ printed'
      → (taken : List ℕ) × (said : List (List ℕ)) × Consumes a c taken × AreFirstLines reader taken said × Appends printed printed'' (printed_lines said)
  chunks_said new c printed'' t same =
      let P : Option (List ℕ) → Type 0 = λ p. Appends printed p (printed_lines (lines_of_chunks [] k.items)) in (
        k.begun.taken ++ t.taken,
        lines_of_chunks [] k.items,
        Consumes-trans a b c k.begun.taken t.taken k.begun.lost t.lost,
        later_taken reader k.begun.taken t.taken (lines_of_chunks [] k.items) (first_lines reader (outlook now) a b k.items k.begun),
        subst P (sym same) k.said,
      )
