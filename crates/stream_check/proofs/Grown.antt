-- One chunk more.
use Rattle.std.proofs.Common.{◌≡◌, ℕ, ◌+◌, ◌||◌, Bool, List, [], ◌∷◌, ◌++◌, length, Option, Some, None, refl, sym, ap, ◌∙◌, append_assoc, append-nil, ◌==◌, if◌then◌else◌}
use Rattle.std.specs.List.{list_any}
use Rattle.std.proofs.lemmas.List.{map_push, length-append}
use Rattle.std.proofs.lemmas.List.Recursion.{or_push}
use Rattle.std.proofs.lemmas.List.Elements.{filter_map-append}
use Rattle.xdf_model.specs.Sample.{Sample}
use Rattle.chunk_grammar.specs.declared.chunk.Chunk.{Chunk}
use Rattle.chunk_grammar.specs.declared.chunk.Chunk.TheVariants.{FileHeader, StreamHeader, Samples, ClockOffset, Boundary, StreamFooter, Other}
use Rattle.chunk_grammar.specs.Chunk.{Context, context_after}
use Rattle.chunk_grammar.specs.Standing.{context_after_all}
use Rattle.recording_model.specs.declared.row.Row.{Row}
use Rattle.recording_model.specs.Ledger.{stream_samples}
use Rattle.file_model.specs.Reader.{ChunkAt}
use Rattle.report_model.specs.declared.note.Note.{Note}
use Rattle.report_model.specs.GoodRows.{rows_after, rows_of_chunks, good_rows}
use Rattle.report_model.specs.Notes.{chunks_in, notes_in, chunk_table, chunk_notes, headers_in, header_of, footer_of, or_else, first_footer, sample_count}
use Rattle.stream_check.specs.Survey.{context_of}

pub any_push : {X : Type 0} (p : X → Bool) (xs : List X) (y : X) → list_any p (xs ++ y ∷ []) ≡ (list_any p xs || p y)
any_push p xs y = or_push (list_any p) p refl (λ _ _. refl) xs y

pub chunks_more : (items : List ChunkAt) (x : ChunkAt) → chunks_in (items ++ x ∷ []) ≡ chunks_in items ++ x.1 ∷ []
chunks_more items x = map_push (λ (c : ChunkAt). c.1) items x

context_push : (ctx : Context) (cs : List Chunk) (c : Chunk) → context_after_all ctx (cs ++ c ∷ []) ≡ context_after (context_after_all ctx cs) c
context_push ctx [] c = refl
context_push ctx (x ∷ cs) c = context_push (context_after ctx x) cs c

pub context_more : (items : List ChunkAt) (x : ChunkAt) → context_of (items ++ x ∷ []) ≡ context_after (context_of items) x.1
context_more items x = ap (context_after_all []) (chunks_more items x) ∙ context_push [] (chunks_in items) x.1

samples_push : (id : ℕ) (cs : List Chunk) (c : Chunk) → stream_samples id (cs ++ c ∷ []) ≡ stream_samples id cs ++ stream_samples id (c ∷ [])
samples_push id [] c = refl
samples_push id (Samples stream ss ∷ cs) c =
    ap (λ (l : List Sample). (if stream == id then ss else []) ++ l) (samples_push id cs c)
    ∙ sym (append_assoc (if stream == id then ss else []) (stream_samples id cs) (stream_samples id (c ∷ [])))
samples_push id (FileHeader doc ∷ cs) c = samples_push id cs c
samples_push id (StreamHeader stream doc ∷ cs) c = samples_push id cs c
samples_push id (ClockOffset stream time offset ∷ cs) c = samples_push id cs c
samples_push id (Boundary ∷ cs) c = samples_push id cs c
samples_push id (StreamFooter stream doc ∷ cs) c = samples_push id cs c
samples_push id (Other tag body ∷ cs) c = samples_push id cs c

pub count_more : (id : ℕ) (items : List ChunkAt) (x : ChunkAt) → sample_count id (items ++ x ∷ []) ≡ sample_count id items + length (stream_samples id (x.1 ∷ []))
count_more id items x =
    ap (λ (cs : List Chunk). length (stream_samples id cs)) (chunks_more items x)
    ∙ ap length (samples_push id (chunks_in items) x.1)
    ∙ length-append (stream_samples id (chunks_in items)) (stream_samples id (x.1 ∷ []))

or_else_assoc : {A : Type 0} (a b c : Option A) → or_else a (or_else b c) ≡ or_else (or_else a b) c
or_else_assoc None b c = refl
or_else_assoc (Some x) b c = refl

or_else_none : {A : Type 0} (a : Option A) → or_else a None ≡ a
or_else_none None = refl
or_else_none (Some x) = refl

pub footer_more : (id : ℕ) (items : List ChunkAt) (x : ChunkAt) → first_footer id (items ++ x ∷ []) ≡ or_else (first_footer id items) (footer_of id x.0 x.1)
footer_more id [] x = or_else_none (footer_of id x.0 x.1)
footer_more id (c ∷ items) x =
    ap (or_else (footer_of id c.0 c.1)) (footer_more id items x) ∙ or_else_assoc (footer_of id c.0 c.1) (first_footer id items) (footer_of id x.0 x.1)

rows_push : (before : List Chunk) (good : List Row) (cs : List Chunk) (c : Chunk) → rows_of_chunks before good (cs ++ c ∷ []) ≡ rows_after (before ++ cs) (rows_of_chunks before good cs) c
rows_push before good [] c = ap (λ (l : List Chunk). rows_after l good c) (sym (append-nil before))
rows_push before good (x ∷ cs) c =
    rows_push (before ++ x ∷ []) (rows_after before good x) cs c
    ∙ ap (λ (l : List Chunk). rows_after l (rows_of_chunks (before ++ x ∷ []) (rows_after before good x) cs) c) (append_assoc before (x ∷ []) cs)

pub rows_more : (items : List ChunkAt) (x : ChunkAt) → good_rows (chunks_in (items ++ x ∷ [])) ≡ rows_after (chunks_in items) (good_rows (chunks_in items)) x.1
rows_more items x = ap good_rows (chunks_more items x) ∙ rows_push [] [] (chunks_in items) x.1

pub notes_push : (before : List Chunk) (items : List ChunkAt) (x : ChunkAt) → chunk_notes before (items ++ x ∷ []) ≡ chunk_notes before items ++ notes_in (chunk_table (before ++ chunks_in items) x)
notes_push before [] x =
    append-nil (notes_in (chunk_table before x)) ∙ ap (λ (l : List Chunk). notes_in (chunk_table l x)) (sym (append-nil before))
notes_push before (c ∷ items) x =
    ap (λ (l : List Note). notes_in (chunk_table before c) ++ l) (notes_push (before ++ c.1 ∷ []) items x)
    ∙ sym (append_assoc (notes_in (chunk_table before c)) (chunk_notes (before ++ c.1 ∷ []) items) (notes_in (chunk_table ((before ++ c.1 ∷ []) ++ chunks_in items) x)))
    ∙ ap (λ (l : List Chunk). (notes_in (chunk_table before c) ++ chunk_notes (before ++ c.1 ∷ []) items) ++ notes_in (chunk_table l x)) (append_assoc before (c.1 ∷ []) (chunks_in items))

pub headers_more : (items : List ChunkAt) (x : ChunkAt) → headers_in (items ++ x ∷ []) ≡ headers_in items ++ headers_in (x ∷ [])
headers_more items x = filter_map-append (λ (c : ChunkAt). header_of c.0 c.1) items (x ∷ [])
