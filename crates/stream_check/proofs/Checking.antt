-- Chunks, one after the other, and what is noted of them.
use Rattle.std.proofs.Common.{◌≡◌, ℕ, ◌+◌, ◌*◌, ◌≤◌, false, List, [], ◌∷◌, ◌++◌, length, map, Option, nat_eq, refl, sym, ap, ◌∙◌, subst, append_assoc, arith}
use Rattle.std.proofs.lemmas.List.{length-append, map-append}
use Rattle.std.specs.Io.KnownBytes.{Appends, Consumes}
use Rattle.std.proofs.KnownBytes.{Appends-nil, Consumes-trans}
use Rattle.rec_base.specs.Known.{AppendsFront}
use Rattle.reading_model.specs.Outlook.{How, Outlook, Got, item, Answered}
use Rattle.reading_model.specs.Read.{Reader}
use Rattle.piece_reader.specs.Steps.{Begun}
use Rattle.piece_reader.proofs.Collecting.{begun_item}
use Rattle.piece_reader.proofs.Ending.{fresh, begun_fresh}
use Rattle.chunk_grammar.specs.declared.chunk.Chunk.{Chunk as ChunkValue}
use Rattle.chunk_grammar.specs.declared.chunk.Chunk.TheVariants.{FileHeader, StreamHeader, Samples, ClockOffset, Boundary, StreamFooter, Other}
use Rattle.chunk_grammar.specs.Chunk.{Context, context_after, IsContentText, IsChunkText}
use Rattle.file_model.specs.declared.end.FileEnd.{FileEnd}
use Rattle.file_model.specs.declared.next.Next.TheVariants as next
use Rattle.file_model.specs.Reader.{ChunkAt, file_kind}
use Rattle.file_reader.specs.FileInlet.{FileInlet, outlook, IsGiven}
use Rattle.stream_report.proofs.Said.{front_behind}
use Rattle.stream_report.proofs.Showing.{long_text, printed_both}
use Rattle.report_model.specs.Check.{note_line, check_lines, AreFirstCheckLines}
use Rattle.report_model.specs.Notes.{notes_in}
use Rattle.report_model.specs.Shown.{printed_lines}
use Rattle.stream_check.specs.declared.survey.Survey.{Survey}
use Rattle.stream_check.specs.Ends.{SaysSome}
use Rattle.stream_check.specs.Survey.{context_of, Knows, FitsIn}
use Rattle.stream_check.specs.Telling.{table_behind, last_lines}
use Rattle.stream_check.proofs.Grown.{context_more}
use Rattle.stream_check.proofs.Telling.{both_said}
use Rattle.stream_check.proofs.SoFar.{notes_so_far, lines_so_far, notes_more, lines_all, first_lines_are}

-- a chunk that has a text fits
fits_by : (ctx : Context) (c : ChunkValue) (b : List ℕ) → IsContentText ctx c b → FitsIn ctx c
fits_by ctx (FileHeader doc) b t = tt
fits_by ctx (StreamHeader id doc) b t = (t.1, t.2, t.3)
fits_by ctx (Samples id samples) b t = (t.1, t.2)
fits_by ctx (ClockOffset id time offset) b t = tt
fits_by ctx Boundary b t = tt
fits_by ctx (StreamFooter id doc) b t = (t.1, t.2)
fits_by ctx (Other tag body) b t = tt

pub fits : (ctx : Context) (c : ChunkValue) (u : List ℕ) → IsChunkText ctx c u → FitsIn ctx c
fits ctx c u text = fits_by ctx c text.content text.kind

-- these chunks were given and all their notes were said; all others are still to come
pub record CheckedSo (reader : Reader ChunkAt FileEnd) (now : FileInlet) (survey : Survey) (before left printed printed' : Option (List ℕ)) (chunks notes : ℕ) : Type 0 where
  pub items : List ChunkAt
  pub begun : Begun (fresh reader) (outlook now) before left items
  pub said : Appends printed printed' (printed_lines (lines_so_far items))
  pub knows : Knows items survey
  pub context : now.context ≡ context_of items
  pub counted : chunks ≡ length items
  pub few : 2 * chunks ≤ now.place
  pub noted : notes ≡ length (notes_so_far items)
  pub most : notes ≤ 7 * chunks

-- the first lines, whatever follows
pub first_lines : (reader : Reader ChunkAt FileEnd) (now : Outlook ChunkAt FileEnd) (a b : Option (List ℕ)) (items : List ChunkAt) (k : Begun (fresh reader) now a b items) → AreFirstCheckLines reader k.taken (lines_so_far items)
first_lines reader now a b items k = λ more how.
    let rest = now.coming more how in
    let first = first_lines_are items rest.0 rest.1 in
    (first.0, ap check_lines (k.same more how) ∙ first.1)

-- some of the first lines are first lines
fewer_lines : (reader : Reader ChunkAt FileEnd) (taken : List ℕ) (xs ys : List (List ℕ)) → AreFirstCheckLines reader taken (xs ++ ys) → AreFirstCheckLines reader taken xs
fewer_lines reader taken xs ys first = λ more how. let f = first more how in (ys ++ f.0, f.1 ∙ append_assoc xs ys f.0)

-- bytes that were taken behind them change no first line
later_taken : (reader : Reader ChunkAt FileEnd) (taken bytes : List ℕ) (lines : List (List ℕ)) → AreFirstCheckLines reader taken lines → AreFirstCheckLines reader (taken ++ bytes) lines
later_taken reader taken bytes lines first = λ more how.
    let f = first (bytes ++ more) how in
    (f.0, ap (λ (l : List ℕ). check_lines (reader l how)) (append_assoc taken bytes more) ∙ f.1)

-- the notes of one chunk more
module _ (reader : Reader ChunkAt FileEnd) (now new : FileInlet) (survey : Survey) (a b c printed printed' : Option (List ℕ)) (chunks notes at : ℕ) (chunk : ChunkValue) (k : CheckedSo reader now survey a b printed printed' chunks notes)
    (given : IsGiven now new (next.Chunk at chunk)) (answered : Answered file_kind (outlook now) (outlook new) b c (item (at, chunk))) where
  pub begun_more : Begun (fresh reader) (outlook new) a c (k.items ++ (at, chunk) ∷ [])
  begun_more = begun_item file_kind (fresh reader) (outlook now) (outlook new) a b c k.items (at, chunk) k.begun answered

  pub fits_here : FitsIn (context_of k.items) chunk
  fits_here = subst (λ (ctx : Context). FitsIn ctx chunk) k.context (fits now.context chunk new.last given.1)

  notes_are : notes_so_far (k.items ++ (at, chunk) ∷ []) ≡ notes_so_far k.items ++ notes_in (table_behind (nat_eq chunks 0) k.items at chunk)
  notes_are = notes_more k.items (at, chunk) ∙ ap (λ (n : ℕ). notes_so_far k.items ++ notes_in (table_behind (nat_eq n 0) k.items at chunk)) (sym k.counted)

  lines_are : lines_so_far (k.items ++ (at, chunk) ∷ []) ≡ lines_so_far k.items ++ map note_line (notes_in (table_behind (nat_eq chunks 0) k.items at chunk))
  lines_are = ap (map note_line) notes_are ∙ map-append note_line (notes_so_far k.items) (notes_in (table_behind (nat_eq chunks 0) k.items at chunk))

  pub checked_more : (printed'' : Option (List ℕ)) (n : ℕ) (survey' : Survey) → Appends printed' printed'' (printed_lines (map note_line (notes_in (table_behind (nat_eq chunks 0) k.items at chunk))))
      → n ≡ length (notes_in (table_behind (nat_eq chunks 0) k.items at chunk)) → n ≤ 7 → Knows (k.items ++ (at, chunk) ∷ []) survey' → CheckedSo reader new survey' a c printed printed'' (chunks + 1) (notes + n)
  checked_more printed'' n survey' said count few knows =
      let long = long_text now.context chunk new.last given.1 in
      record {
        items = k.items ++ (at, chunk) ∷ [];
        begun = begun_more;
        said = subst (λ (l : List (List ℕ)). Appends printed printed'' (printed_lines l)) (sym lines_are) (both_said printed printed' printed'' _ _ k.said said);
        knows = knows;
        context = given.4 ∙ ap (λ (x : Context). context_after x chunk) k.context ∙ sym (context_more k.items (at, chunk));
        counted = omega (arith, k.counted, length-append k.items ((at, chunk) ∷ []));
        few = omega (arith, k.few, given.2, long);
        noted = omega (arith, k.noted, count, ap length notes_are, length-append (notes_so_far k.items) (notes_in (table_behind (nat_eq chunks 0) k.items at chunk)));
        most = omega (arith, k.most, few);
      }

  -- a line of the chunk failed
  pub front_more : (printed'' : Option (List ℕ)) → AppendsFront printed' printed'' (printed_lines (map note_line (notes_in (table_behind (nat_eq chunks 0) k.items at chunk))))
      → (taken : List ℕ) × (said : List (List ℕ)) × Consumes a c taken × AreFirstCheckLines reader taken said × AppendsFront printed printed'' (printed_lines said)
  front_more printed'' said = (
    begun_more.taken,
    lines_so_far (k.items ++ (at, chunk) ∷ []),
    begun_more.lost,
    first_lines reader (outlook new) a c (k.items ++ (at, chunk) ∷ []) begun_more,
    subst (λ (t : List ℕ). AppendsFront printed printed'' t) (sym (ap printed_lines lines_are ∙ printed_both (lines_so_far k.items) (map note_line (notes_in (table_behind (nat_eq chunks 0) k.items at chunk))))) (front_behind printed printed' printed'' _ _ k.said said),
  )

  -- there was no memory for a line of the chunk
  pub some_more : (printed'' : Option (List ℕ)) → SaysSome printed' printed'' (map note_line (notes_in (table_behind (nat_eq chunks 0) k.items at chunk)))
      → (taken : List ℕ) × (said : List (List ℕ)) × Consumes a c taken × AreFirstCheckLines reader taken said × Appends printed printed'' (printed_lines said)
  some_more printed'' some =
      let parts : lines_so_far (k.items ++ (at, chunk) ∷ []) ≡ (lines_so_far k.items ++ some.0) ++ some.1 = lines_are ∙ ap (λ (l : List (List ℕ)). lines_so_far k.items ++ l) some.2 ∙ sym (append_assoc (lines_so_far k.items) some.0 some.1) in (
        begun_more.taken,
        lines_so_far k.items ++ some.0,
        begun_more.lost,
        fewer_lines reader begun_more.taken (lines_so_far k.items ++ some.0) some.1
            (subst (AreFirstCheckLines reader begun_more.taken) parts (first_lines reader (outlook new) a c (k.items ++ (at, chunk) ∷ []) begun_more)),
        both_said printed printed' printed'' (lines_so_far k.items) some.0 k.said some.3,
      )

pub begun_so : (reader : Reader ChunkAt FileEnd) (now : FileInlet) (survey : Survey) (a printed : Option (List ℕ)) → ((more : List ℕ) (how : How) → (outlook now).coming more how ≡ reader more how) → (outlook now).is_over ≡ false → now.context ≡ [] → Knows [] survey
    → CheckedSo reader now survey a a printed printed 0 0
begun_so reader now survey a printed all goes none knows =
    record {
      items = [];
      begun = begun_fresh reader (outlook now) a all goes;
      said = Appends-nil printed;
      knows = knows;
      context = none;
      counted = refl;
      few = omega arith;
      noted = refl;
      most = omega arith;
    }

-- ---- the end of the file

module _ (reader : Reader ChunkAt FileEnd) (now : FileInlet) (survey : Survey) (a b printed printed' : Option (List ℕ)) (chunks notes : ℕ) (k : CheckedSo reader now survey a b printed printed' chunks notes) where
  all_lines : (e : FileEnd) → check_lines (k.items, e) ≡ lines_so_far k.items ++ last_lines survey.ledger survey.streams.items chunks notes e
  all_lines e = lines_all k.items e survey.ledger survey.streams.items chunks notes k.knows.ledger k.knows.streams k.counted k.noted

  -- all lines were said
  pub all_said : (e : FileEnd) (printed'' : Option (List ℕ)) → Appends printed' printed'' (printed_lines (last_lines survey.ledger survey.streams.items chunks notes e)) → Appends printed printed'' (printed_lines (check_lines (k.items, e)))
  all_said e printed'' said = subst (λ (l : List (List ℕ)). Appends printed printed'' (printed_lines l)) (sym (all_lines e)) (both_said printed printed' printed'' _ _ k.said said)

  -- a front of them was said
  pub front_said : (e : FileEnd) (printed'' : Option (List ℕ)) → AppendsFront printed' printed'' (printed_lines (last_lines survey.ledger survey.streams.items chunks notes e)) → AppendsFront printed printed'' (printed_lines (check_lines (k.items, e)))
  front_said e printed'' said =
      subst (λ (t : List ℕ). AppendsFront printed printed'' t) (sym (ap printed_lines (all_lines e) ∙ printed_both (lines_so_far k.items) (last_lines survey.ledger survey.streams.items chunks notes e)))
      (front_behind printed printed' printed'' _ _ k.said said)

  -- some of the first of them were said
  pub some_said : (e : FileEnd) (printed'' : Option (List ℕ)) → SaysSome printed' printed'' (last_lines survey.ledger survey.streams.items chunks notes e) → SaysSome printed printed'' (check_lines (k.items, e))
  some_said e printed'' some = (
    lines_so_far k.items ++ some.0,
    some.1,
    all_lines e ∙ ap (λ (l : List (List ℕ)). lines_so_far k.items ++ l) some.2 ∙ sym (append_assoc (lines_so_far k.items) some.0 some.1),
    both_said printed printed' printed'' (lines_so_far k.items) some.0 k.said some.3,
  )

  -- the notes of the chunks were said, and no others
  pub chunks_said : {g : Got ChunkAt FileEnd} (new : FileInlet) (c printed'' : Option (List ℕ)) → Answered file_kind (outlook now) (outlook new) b c g → printed'' ≡ printed'
      → (taken : List ℕ) × (said : List (List ℕ)) × Consumes a c taken × AreFirstCheckLines reader taken said × Appends printed printed'' (printed_lines said)
  chunks_said new c printed'' t same = (
    k.begun.taken ++ t.taken,
    lines_so_far k.items,
    Consumes-trans a b c k.begun.taken t.taken k.begun.lost t.lost,
    later_taken reader k.begun.taken t.taken (lines_so_far k.items) (first_lines reader (outlook now) a b k.items k.begun),
    subst (λ (p : Option (List ℕ)). Appends printed p (printed_lines (lines_so_far k.items))) (sym same) k.said,
  )
