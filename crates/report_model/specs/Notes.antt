-- What is to be noted of a file, by what a reader of it is given. The numbers of the notes are this project's own.
use Rattle.std.specs.Prelude.{ℕ, ◌==◌, ◌&&◌, Bool, true, false, not, List, [], ◌∷◌, ◌++◌, length, map, Option, Some, None, is_some, if◌then◌else◌, codes}
use Rattle.std.specs.Option.{option_map_or}
use Rattle.std.specs.List.{list_any, filter_map, flat_map}
use Rattle.std.specs.Str.{is_utf8}
use Rattle.xdf_model.specs.Shape.{behind_first}
use Rattle.xdf_model.specs.Sample.{Value, number, text}
use Rattle.shape_pattern.specs.declared.footer.Element.TheVariants.{SampleCount, Overruns}
use Rattle.shape_pattern.specs.Number.{number_in}
use Rattle.chunk_grammar.specs.declared.chunk.Chunk.{Chunk}
use Rattle.chunk_grammar.specs.declared.chunk.Chunk.TheVariants.{FileHeader, StreamHeader, Samples, ClockOffset, StreamFooter, Other}
use Rattle.chunk_grammar.specs.Standing.{context_after_all}
use Rattle.recording_model.specs.Ledger.{stream_samples}
use Rattle.reading_model.specs.Outlook.{All}
use Rattle.file_model.specs.declared.end.FileEnd.{FileEnd}
use Rattle.file_model.specs.declared.end.FileEnd.TheVariants.{End, Torn, Bad, ReadFault, SizeLimit}
use Rattle.file_model.specs.Reader.{ChunkAt}
use Rattle.report_model.specs.declared.note.Note.{Note}
use Rattle.report_model.specs.GoodRows.{has_ledger, good_rows, has_bad_row, lost_among}

-- a table of notes, each with the condition under which it is made
abbrev pub Table : Type 0
Table = List (Bool × Note)

-- the notes whose conditions hold, in the table's order
abbrev pub notes_in : Table → List Note
notes_in [] = []
notes_in (row ∷ rows) = if row.0 then row.1 ∷ notes_in rows else notes_in rows

abbrev pub note : ℕ → Option ℕ → ℕ → Note
note n id at = record { number = n; id = id; at = at }

-- the chunks without their places
abbrev pub chunks_in : List ChunkAt → List Chunk
chunks_in items = map (λ c. c.1) items

-- ---- of a chunk

-- the stream that a chunk names
abbrev pub stream_of : Chunk → Option ℕ
stream_of (StreamHeader id doc) = Some id
stream_of (Samples id samples) = Some id
stream_of (ClockOffset id time offset) = Some id
stream_of (StreamFooter id doc) = Some id
stream_of _ = None

abbrev pub document_of : Chunk → Option (List ℕ)
document_of (FileHeader doc) = Some doc
document_of (StreamHeader id doc) = Some doc
document_of (StreamFooter id doc) = Some doc
document_of _ = None

abbrev pub is_file_header : Chunk → Bool
is_file_header (FileHeader doc) = true
is_file_header _ = false

abbrev pub is_footer_of : ℕ → Chunk → Bool
is_footer_of id (StreamFooter stream doc) = stream == id
is_footer_of id _ = false

-- the version that is known (XDF, "FileHeader chunk")
abbrev pub version_element : List ℕ
version_element = codes "<version>1.0</version>"

-- a file header whose document doesn't hold the known version
abbrev pub is_unversioned : Chunk → Bool
is_unversioned (FileHeader doc) = not (is_some (behind_first version_element doc))
is_unversioned _ = false

-- a file header behind another, or a footer behind another of the same stream
abbrev pub is_repeated : List Chunk → Chunk → Bool
is_repeated before (FileHeader doc) = list_any is_file_header before
is_repeated before (StreamFooter id doc) = list_any (is_footer_of id) before
is_repeated before _ = false

-- a document that isn't UTF-8
abbrev pub has_broken_document : Chunk → Bool
has_broken_document c = option_map_or (λ doc. not (is_utf8 doc)) (document_of c) false

abbrev pub is_broken : Value → Bool
is_broken (number n) = false
is_broken (text t) = not (is_utf8 t)

-- samples of which one has a text that isn't UTF-8
abbrev pub has_broken_text : Chunk → Bool
has_broken_text (Samples id samples) = list_any (λ s. list_any is_broken s.values) samples
has_broken_text _ = false

-- samples of a ledger of which one is no good row
abbrev pub has_bad_sample : List Chunk → Chunk → Bool
has_bad_sample before (Samples id samples) =
    has_ledger before && id == 0 && has_bad_row (context_after_all [] before) (good_rows before) samples
has_bad_sample before _ = false

-- a chunk of a kind that XDF 1.0 doesn't have
abbrev pub is_unknown : Chunk → Bool
is_unknown (Other tag body) = true
is_unknown _ = false

-- what is noted of a chunk behind these
abbrev pub chunk_table : List Chunk → ChunkAt → Table
chunk_table before c =
    (is_unversioned c.1, note 10 (stream_of c.1) c.0)
    ∷ (is_repeated before c.1, note 11 (stream_of c.1) c.0)
    ∷ (has_broken_document c.1, note 5 (stream_of c.1) c.0)
    ∷ (has_broken_text c.1, note 6 (stream_of c.1) c.0)
    ∷ (has_bad_sample before c.1, note 12 (stream_of c.1) c.0)
    ∷ (is_unknown c.1, note 9 (stream_of c.1) c.0)
    ∷ []

-- what is noted of each chunk, in order
abbrev pub chunk_notes : List Chunk → List ChunkAt → List Note
chunk_notes before [] = []
chunk_notes before (c ∷ more) = notes_in (chunk_table before c) ++ chunk_notes (before ++ c.1 ∷ []) more

-- ---- of the whole file

-- a read failed, or the file is too long: what stands behind isn't known
abbrev pub is_stopped : FileEnd → Bool
is_stopped (End at) = false
is_stopped (Torn at left) = false
is_stopped (Bad at why) = false
is_stopped ReadFault = true
is_stopped SizeLimit = true

-- the first chunk is no file header, or it is known that there is none
abbrev pub lacks_header : List ChunkAt → FileEnd → Bool
lacks_header [] end = not (is_stopped end)
lacks_header (c ∷ more) end = not (is_file_header c.1)

abbrev pub first_table : All ChunkAt FileEnd → Table
first_table all = (lacks_header all.0 all.1, note 1 None 4) ∷ []

-- a torn chunk, or a place at which no chunk stands
abbrev pub end_notes : FileEnd → List Note
end_notes (End at) = []
end_notes (Torn at left) = note 7 None at ∷ []
end_notes (Bad at why) = note 8 None at ∷ []
end_notes ReadFault = []
end_notes SizeLimit = []

-- ---- of a stream

abbrev pub header_of : ℕ → Chunk → Option (ℕ × ℕ)
header_of at (StreamHeader id doc) = Some (at, id)
header_of at _ = None

-- the place and the stream of each stream header, in order
abbrev pub headers_in : List ChunkAt → List (ℕ × ℕ)
headers_in items = filter_map (λ c. header_of c.0 c.1) items

abbrev pub footer_of : ℕ → ℕ → Chunk → Option (ℕ × List ℕ)
footer_of id at (StreamFooter stream doc) = if stream == id then Some (at, doc) else None
footer_of id at _ = None

abbrev pub or_else : {A : Type 0} → Option A → Option A → Option A
or_else (Some x) other = Some x
or_else None other = other

-- the place and the document of a stream's first footer
abbrev pub first_footer : ℕ → List ChunkAt → Option (ℕ × List ℕ)
first_footer id [] = None
first_footer id (c ∷ more) = or_else (footer_of id c.0 c.1) (first_footer id more)

-- a number is told, and it is another than this
abbrev pub tells_another : Option ℕ → ℕ → Bool
tells_another None n = false
tells_another (Some told) n = not (told == n)

-- how many samples of a stream the file holds
abbrev pub sample_count : ℕ → List ChunkAt → ℕ
sample_count id items = length (stream_samples id (chunks_in items))

-- how many positions of a stream the ledger's good rows name
abbrev pub lost_count : ℕ → List ChunkAt → ℕ
lost_count id items = lost_among id (good_rows (chunks_in items))

-- what is noted of a stream by its first footer: there is none, or it tells another number of samples than there are, or, where there is a
-- ledger and the stream isn't it, another number of lost positions than the ledger
abbrev pub footer_table : List ChunkAt → ℕ × ℕ → Option (ℕ × List ℕ) → Table
footer_table items h None = (true, note 2 (Some h.1) h.0) ∷ []
footer_table items h (Some footer) =
    (tells_another (number_in SampleCount footer.1) (sample_count h.1 items), note 3 (Some h.1) footer.0)
    ∷ (has_ledger (chunks_in items) && not (h.1 == 0) && tells_another (number_in Overruns footer.1) (lost_count h.1 items), note 4 (Some h.1) footer.0)
    ∷ []

abbrev pub stream_table : List ChunkAt → ℕ × ℕ → Table
stream_table items h = footer_table items h (first_footer h.1 items)

-- what is noted of the streams, in the order of their headers, where the whole file is known
abbrev pub stream_notes : List ChunkAt → FileEnd → List Note
stream_notes items end = if is_stopped end then [] else flat_map (λ h. notes_in (stream_table items h)) (headers_in items)

-- what is noted of a file
abbrev pub check_notes : All ChunkAt FileEnd → List Note
check_notes all = notes_in (first_table all) ++ (chunk_notes [] all.0 ++ (end_notes all.1 ++ stream_notes all.0 all.1))
