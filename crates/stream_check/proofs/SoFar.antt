-- What is noted of the first chunks of a file, and of the rest.
use Rattle.std.proofs.Common.{◌≡◌, ℕ, suc, ◌+◌, ◌&&◌, ◌==◌, Bool, true, false, not, List, [], ◌∷◌, ◌++◌, length, map, Option, Some, None, nat_eq, nat_lt, refl, sym, ap, ◌∙◌, ◌<◌, subst, append_assoc, append-nil, arith, if◌then◌else◌, inl, inr}
use Rattle.std.specs.List.{flat_map}
use Rattle.std.proofs.lemmas.List.{map-append, length-append}
use Rattle.std.proofs.lemmas.Bool.{cases_Bool, ltb-true}
use Rattle.std.proofs.lemmas.Bool.Decides.{nat_tests}
use Rattle.chunk_grammar.specs.declared.chunk.Chunk.{Chunk}
use Rattle.file_model.specs.declared.end.FileEnd.{FileEnd}
use Rattle.file_model.specs.Reader.{ChunkAt}
use Rattle.report_model.specs.declared.note.Note.{Note}
use Rattle.report_model.specs.Check.{note_line, sum_lines, check_lines}
use Rattle.report_model.specs.GoodRows.{has_ledger}
use Rattle.report_model.specs.Notes.{Table, notes_in, note, chunks_in, is_file_header, chunk_table, chunk_notes, is_stopped, end_notes, headers_in, first_footer, tells_another, stream_table, stream_notes, footer_table, sample_count, lost_count, check_notes}
use Rattle.shape_pattern.specs.declared.footer.Element.{Element}
use Rattle.shape_pattern.specs.declared.footer.Element.TheVariants.{SampleCount, Overruns}
use Rattle.shape_pattern.specs.Number.{number_in, number_behind, number_front, closing, opening}
use Rattle.xdf_model.specs.Shape.{behind_first, digits_front}
use Rattle.std.specs.Str.Parse.{digits_value}
use Rattle.std.specs.List.{starts_with}
use Rattle.std.specs.Prelude.{drop, ◌^◌}
use Rattle.stream_check.specs.declared.kept.Kept.{Kept}
use Rattle.stream_check.specs.Kept.{stilled}
use Rattle.stream_check.specs.Survey.{kept_of}
use Rattle.stream_check.specs.Telling.{kept_table, kept_notes, last_notes, last_lines, table_behind}
use Rattle.stream_check.proofs.Telling.{notes_both}
use Rattle.stream_check.proofs.Grown.{notes_push}

-- the notes of these chunks, which begin a file
abbrev pub notes_so_far : List ChunkAt → List Note
notes_so_far [] = []
notes_so_far (c ∷ more) = notes_in ((not (is_file_header c.1), note 1 None 4) ∷ []) ++ chunk_notes [] (c ∷ more)

abbrev pub lines_so_far : List ChunkAt → List (List ℕ)
lines_so_far items = map note_line (notes_so_far items)

not_none : (n : ℕ) → nat_eq (suc n) 0 ≡ false
not_none n = grind (arith, nat_tests)

-- one chunk more
pub notes_more : (items : List ChunkAt) (x : ChunkAt) → notes_so_far (items ++ x ∷ []) ≡ notes_so_far items ++ notes_in (table_behind (nat_eq (length items) 0) items x.0 x.1)
notes_more [] x =
    ap (λ (l : List Note). notes_in ((not (is_file_header x.1), note 1 None 4) ∷ []) ++ l) (append-nil (notes_in (chunk_table [] x)))
    ∙ sym (notes_both ((not (is_file_header x.1), note 1 None 4) ∷ []) (chunk_table [] x))
notes_more (y ∷ items) x =
    ap (λ (l : List Note). notes_in ((not (is_file_header y.1), note 1 None 4) ∷ []) ++ l) (notes_push [] (y ∷ items) x)
    ∙ sym (append_assoc (notes_in ((not (is_file_header y.1), note 1 None 4) ∷ [])) (chunk_notes [] (y ∷ items)) (notes_in (chunk_table (chunks_in (y ∷ items)) x)))
    ∙ ap (λ (b : Bool). notes_so_far (y ∷ items) ++ notes_in (table_behind b (y ∷ items) x.0 x.1)) (sym (not_none (length items)))

-- ---- what is noted of the streams

some_inside : (d n : ℕ) → Some d ≡ Some n → d ≡ n
some_inside d n e = cc

small_if : (b : Bool) (d n : ℕ) → (if b && nat_lt d (2 ^ 64) then Some d else None) ≡ Some n → n < 2 ^ 64
small_if true d n e = elim (cases_Bool (nat_lt d (2 ^ 64))) [
  | inl t ↦ let same : Some d ≡ Some n = sym (ap (λ (b : Bool). if b then Some d else None) t) ∙ e in subst (λ (x : ℕ). x < 2 ^ 64) (some_inside d n same) (ltb-true d (2 ^ 64) t)
  | inr f ↦ absurd (let no_number : None ≡ Some n = sym (ap (λ (b : Bool). if b then Some d else None) f) ∙ e in cc)
]
small_if false d n e = absurd cc

small_number : (close b : List ℕ) (n : ℕ) → number_front close b ≡ Some n → n < 2 ^ 64
small_number close b n e = small_if (nat_lt 0 (length (digits_front b)) && nat_lt (length (digits_front b)) 21 && starts_with nat_eq (drop (length (digits_front b)) b) close) (digits_value 10 (digits_front b)) n e

small_behind : (close : List ℕ) (b : Option (List ℕ)) (n : ℕ) → number_behind close b ≡ Some n → n < 2 ^ 64
small_behind close None n e = absurd cc
small_behind close (Some b) n e = small_number close b n e

small : (element : Element) (doc : List ℕ) (n : ℕ) → number_in element doc ≡ Some n → n < 2 ^ 64
small element doc n e = small_behind (closing element) (behind_first (opening element) doc) n e

still_same : (m n : ℕ) → m < 2 ^ 64 → nat_eq m (stilled n) ≡ nat_eq m n
still_same m n lt = grind (arith, nat_tests)

tells_same : (told : Option ℕ) (n : ℕ) → ((m : ℕ) → told ≡ Some m → m < 2 ^ 64) → tells_another told (stilled n) ≡ tells_another told n
tells_same None n below = refl
tells_same (Some m) n below = let lt = below m refl in ap not (still_same m n lt)

one_table : (items : List ChunkAt) (h : ℕ × ℕ) (f : Option (ℕ × List ℕ)) → first_footer h.1 items ≡ f → kept_table (has_ledger (chunks_in items)) (kept_of items h) ≡ footer_table items h f
one_table items h None e = rw e refl
one_table items h (Some f) e =
    rw e (ap (λ (b : Bool). (b, note 3 (Some h.1) f.0) ∷ (has_ledger (chunks_in items) && not (h.1 == 0) && tells_another (number_in Overruns f.1) (stilled (lost_count h.1 items)), note 4 (Some h.1) f.0) ∷ [])
    (tells_same (number_in SampleCount f.1) (sample_count h.1 items) (small SampleCount f.1))
    ∙ ap (λ (b : Bool). (tells_another (number_in SampleCount f.1) (sample_count h.1 items), note 3 (Some h.1) f.0) ∷ (has_ledger (chunks_in items) && not (h.1 == 0) && b, note 4 (Some h.1) f.0) ∷ [])
    (tells_same (number_in Overruns f.1) (lost_count h.1 items) (small Overruns f.1)))

all_tables : (items : List ChunkAt) (hs : List (ℕ × ℕ)) → kept_notes (has_ledger (chunks_in items)) (map (kept_of items) hs) ≡ flat_map (λ h. notes_in (stream_table items h)) hs
all_tables items [] = refl
all_tables items (h ∷ hs) =
    ap (λ (t : Table). notes_in t ++ kept_notes (has_ledger (chunks_in items)) (map (kept_of items) hs)) (one_table items h (first_footer h.1 items) refl)
    ∙ ap (λ (l : List Note). notes_in (stream_table items h) ++ l) (all_tables items hs)

-- ---- all notes

module _ (items : List ChunkAt) (e : FileEnd) (ledger : Bool) (ks : List Kept) (has : ledger ≡ has_ledger (chunks_in items)) (are : ks ≡ map (kept_of items) (headers_in items)) where
  streams_are : kept_notes ledger ks ≡ flat_map (λ h. notes_in (stream_table items h)) (headers_in items)
  streams_are = ap (λ (b : Bool). kept_notes b ks) has ∙ ap (kept_notes (has_ledger (chunks_in items))) are ∙ all_tables items (headers_in items)

  known_are : (if is_stopped e then [] else kept_notes ledger ks) ≡ stream_notes items e
  known_are = ap (λ (l : List Note). if is_stopped e then [] else l) streams_are

pub notes_all : (items : List ChunkAt) (e : FileEnd) (ledger : Bool) (ks : List Kept) → ledger ≡ has_ledger (chunks_in items) → ks ≡ map (kept_of items) (headers_in items) → notes_so_far items ++ last_notes ledger ks (length items) e ≡ check_notes (items, e)
notes_all [] e ledger ks has are =
    ap (λ (l : List Note). notes_in ((not (is_stopped e), note 1 None 4) ∷ []) ++ end_notes e ++ l) (known_are [] e ledger ks has are)
    ∙ append_assoc (notes_in ((not (is_stopped e), note 1 None 4) ∷ [])) (end_notes e) (stream_notes [] e)
notes_all (y ∷ items) e ledger ks has are =
    ap (λ (b : Bool). notes_so_far (y ∷ items) ++ (notes_in ((b && not (is_stopped e), note 1 None 4) ∷ []) ++ end_notes e ++ (if is_stopped e then [] else kept_notes ledger ks))) (not_none (length items))
    ∙ ap (λ (l : List Note). notes_so_far (y ∷ items) ++ (end_notes e ++ l)) (known_are (y ∷ items) e ledger ks has are)
    ∙ append_assoc (notes_in ((not (is_file_header y.1), note 1 None 4) ∷ [])) (chunk_notes [] (y ∷ items)) (end_notes e ++ stream_notes (y ∷ items) e)

-- all lines: those of the chunks, and those behind them
pub lines_all : (items : List ChunkAt) (e : FileEnd) (ledger : Bool) (ks : List Kept) (chunks notes : ℕ) → ledger ≡ has_ledger (chunks_in items) → ks ≡ map (kept_of items) (headers_in items) → chunks ≡ length items → notes ≡ length (notes_so_far items)
    → check_lines (items, e) ≡ lines_so_far items ++ last_lines ledger ks chunks notes e
lines_all items e ledger ks chunks notes has are counted noted =
    let last : ℕ → List Note = λ n. last_notes ledger ks n e in
    let all = notes_all items e ledger ks has are in
    let total : length (check_notes (items, e)) ≡ notes + length (last chunks) =
    sym (ap length all) ∙ length-append (notes_so_far items) (last (length items)) ∙ ap (λ (n : ℕ). n + length (last (length items))) (sym noted) ∙ ap (λ (n : ℕ). notes + length (last n)) (sym counted) in
    let front : map note_line (check_notes (items, e)) ≡ lines_so_far items ++ map note_line (last chunks) =
    sym (ap (map note_line) all) ∙ map-append note_line (notes_so_far items) (last (length items)) ∙ ap (λ (n : ℕ). lines_so_far items ++ map note_line (last n)) (sym counted) in
    ap (λ (l : List (List ℕ)). l ++ sum_lines (length items) (length (check_notes (items, e))) e) front
    ∙ ap (λ (n : ℕ). (lines_so_far items ++ map note_line (last chunks)) ++ sum_lines n (length (check_notes (items, e))) e) (sym counted)
    ∙ ap (λ (n : ℕ). (lines_so_far items ++ map note_line (last chunks)) ++ sum_lines chunks n e) total
    ∙ append_assoc (lines_so_far items) (map note_line (last chunks)) (sum_lines chunks (notes + length (last chunks)) e)

-- how many notes there are in all
pub count_all : (items : List ChunkAt) (e : FileEnd) (ledger : Bool) (ks : List Kept) (chunks notes : ℕ) → ledger ≡ has_ledger (chunks_in items) → ks ≡ map (kept_of items) (headers_in items) → chunks ≡ length items → notes ≡ length (notes_so_far items)
    → notes + length (last_notes ledger ks chunks e) ≡ length (check_notes (items, e))
count_all items e ledger ks chunks notes has are counted noted =
    ap (λ (n : ℕ). notes + length (last_notes ledger ks n e)) counted ∙ ap (λ (n : ℕ). n + length (last_notes ledger ks (length items) e)) noted
    ∙ sym (length-append (notes_so_far items) (last_notes ledger ks (length items) e)) ∙ ap length (notes_all items e ledger ks has are)

-- ---- the first notes, whatever chunks follow

notes_append : (before : List Chunk) (items rest : List ChunkAt) → chunk_notes before (items ++ rest) ≡ chunk_notes before items ++ chunk_notes (before ++ chunks_in items) rest
notes_append before [] rest = ap (λ (l : List Chunk). chunk_notes l rest) (sym (append-nil before))
notes_append before (c ∷ items) rest =
    ap (λ (l : List Note). notes_in (chunk_table before c) ++ l) (notes_append (before ++ c.1 ∷ []) items rest)
    ∙ sym (append_assoc (notes_in (chunk_table before c)) (chunk_notes (before ++ c.1 ∷ []) items) (chunk_notes ((before ++ c.1 ∷ []) ++ chunks_in items) rest))
    ∙ ap (λ (l : List Chunk). (notes_in (chunk_table before c) ++ chunk_notes (before ++ c.1 ∷ []) items) ++ chunk_notes l rest) (append_assoc before (c.1 ∷ []) (chunks_in items))

first_notes_are : (items rest : List ChunkAt) (e : FileEnd) → (more : List Note) × (check_notes (items ++ rest, e) ≡ notes_so_far items ++ more)
first_notes_are [] rest e = (check_notes (rest, e), refl)
first_notes_are (y ∷ items) rest e =
    let f : List Note = notes_in ((not (is_file_header y.1), note 1 None 4) ∷ []) in
    let c : List Note = chunk_notes [] (y ∷ items) in
    let r : List Note = chunk_notes (chunks_in (y ∷ items)) rest in
    let s : List Note = end_notes e ++ stream_notes ((y ∷ items) ++ rest) e in (
      r ++ s,
      ap (λ (l : List Note). f ++ (l ++ s)) (notes_append [] (y ∷ items) rest) ∙ ap (λ (l : List Note). f ++ l) (append_assoc c r s) ∙ sym (append_assoc f c (r ++ s)),
    )

pub first_lines_are : (items rest : List ChunkAt) (e : FileEnd) → (more : List (List ℕ)) × (check_lines (items ++ rest, e) ≡ lines_so_far items ++ more)
first_lines_are items rest e =
    let n = first_notes_are items rest e in
    let s : List (List ℕ) = sum_lines (length (items ++ rest)) (length (check_notes (items ++ rest, e))) e in (
      map note_line n.0 ++ s,
      ap (λ (l : List Note). map note_line l ++ s) n.1 ∙ ap (λ (l : List (List ℕ)). l ++ s) (map-append note_line (notes_so_far items) n.0) ∙ append_assoc (lines_so_far items) (map note_line n.0) s,
    )
