-- What calls say, by how they end.
use Rattle.std.specs.Prelude.{ℕ, ◌+◌, length, map, Bool, not, List, [], ◌∷◌, ◌++◌, ◌==◌, ◌&&◌, Option, Some, None, Result, Ok, Err, true, if◌then◌else◌}
use Rattle.std.specs.List.{flat_map}
use Rattle.std.specs.Io.KnownBytes.{Appends}
use Rattle.rec_base.specs.Causes.{Rose}
use Rattle.rec_base.specs.Known.{AppendsFront}
use Rattle.chunk_grammar.specs.declared.chunk.Chunk.{Chunk}
use Rattle.file_model.specs.declared.end.FileEnd.{FileEnd}
use Rattle.file_model.specs.Reader.{ChunkAt}
use Rattle.stream_report.specs.declared.fault.SayFault.{SayFault}
use Rattle.stream_report.specs.declared.fault.SayFault.TheVariants.{Print, Memory}
use Rattle.report_model.specs.declared.note.Note.{Note}
use Rattle.report_model.specs.Notes.{Table, notes_in, note, is_stopped, end_notes, tells_another, is_file_header, is_unversioned, stream_of, has_broken_document, has_broken_text, is_unknown, chunk_table, chunks_in}
use Rattle.report_model.specs.Check.{note_line, sum_lines}
use Rattle.report_model.specs.Shown.{printed_lines}
use Rattle.stream_check.specs.declared.kept.Kept.{Kept}
use Rattle.stream_check.specs.declared.kept.Footer.{Footer}
use Rattle.stream_check.specs.Ends.{SaysSome}

-- a front of the lines was said, and a line failed; or some of the first, each whole
abbrev pub Fails : SayFault → Option (List ℕ) → Option (List ℕ) → ℕ → ℕ → List (List ℕ) → Type 0
Fails Print old new before now lines = AppendsFront old new (printed_lines lines) × Rose before now
Fails Memory old new before now lines = SaysSome old new lines

-- all lines were said, unless it failed
abbrev pub Tells : {T : Type 0} → Result T SayFault → Option (List ℕ) → Option (List ℕ) → ℕ → ℕ → List (List ℕ) → Type 0
Tells (Ok x) old new before now lines = Appends old new (printed_lines lines)
Tells (Err e) old new before now lines = Fails e old new before now lines

-- what is noted of a stream by what is kept of it
abbrev pub table_by : Bool → Kept → Option Footer → Table
table_by ledger k None = (true, note 2 (Some k.id) k.at) ∷ []
table_by ledger k (Some footer) =
    (tells_another footer.samples k.samples, note 3 (Some k.id) footer.at)
    ∷ (ledger && not (k.id == 0) && tells_another footer.overruns k.lost, note 4 (Some k.id) footer.at)
    ∷ []

abbrev pub kept_table : Bool → Kept → Table
kept_table ledger k = table_by ledger k k.footer

abbrev pub kept_notes : Bool → List Kept → List Note
kept_notes ledger ks = flat_map (λ k. notes_in (kept_table ledger k)) ks

-- the notes behind those of the chunks
abbrev pub last_notes : Bool → List Kept → ℕ → FileEnd → List Note
last_notes ledger ks chunks end =
    notes_in ((chunks == 0 && not (is_stopped end), note 1 None 4) ∷ []) ++ end_notes end ++ (if is_stopped end then [] else kept_notes ledger ks)

-- the lines behind the notes of the chunks, where so many notes came before
abbrev pub last_lines : Bool → List Kept → ℕ → ℕ → FileEnd → List (List ℕ)
last_lines ledger ks chunks notes end =
    map note_line (last_notes ledger ks chunks end) ++ sum_lines chunks (notes + length (last_notes ledger ks chunks end)) end

-- what is noted of a chunk, and before the first one that the file doesn't begin with its header
abbrev pub table_with : Bool → ℕ → Chunk → Bool → Bool → Table
table_with first at c repeated bad =
    (first && not (is_file_header c), note 1 None 4)
    ∷ (is_unversioned c, note 10 (stream_of c) at)
    ∷ (repeated, note 11 (stream_of c) at)
    ∷ (has_broken_document c, note 5 (stream_of c) at)
    ∷ (has_broken_text c, note 6 (stream_of c) at)
    ∷ (bad, note 12 (stream_of c) at)
    ∷ (is_unknown c, note 9 (stream_of c) at)
    ∷ []

-- the same behind these chunks
abbrev pub table_behind : Bool → List ChunkAt → ℕ → Chunk → Table
table_behind first items at c = (first && not (is_file_header c), note 1 None 4) ∷ chunk_table (chunks_in items) (at, c)
