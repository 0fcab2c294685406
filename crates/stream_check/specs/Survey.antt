-- What is kept of a file, by the chunks that came.
use Rattle.std.specs.Prelude.{◌≡◌, ℕ, List, [], map, ⊤, Option, Some, None, Ok}
use Rattle.std.specs.Option.{option_map}
use Rattle.std.specs.List.{list_any}
use Rattle.xdf_model.specs.declared.types.Shape.{Shape}
use Rattle.xdf_model.specs.Shape.{shape_in}
use Rattle.shape_pattern.specs.declared.footer.Element.TheVariants.{SampleCount, Overruns}
use Rattle.shape_pattern.specs.Number.{number_in}
use Rattle.chunk_grammar.specs.declared.chunk.Chunk.{Chunk}
use Rattle.chunk_grammar.specs.declared.chunk.Chunk.TheVariants.{StreamHeader, Samples, StreamFooter}
use Rattle.chunk_grammar.specs.Chunk.{Context, shape_of}
use Rattle.chunk_grammar.specs.Standing.{context_after_all}
use Rattle.recording_model.specs.declared.row.Row.{Row}
use Rattle.file_model.specs.Reader.{ChunkAt}
use Rattle.report_model.specs.GoodRows.{has_ledger, good_rows, lost_among}
use Rattle.report_model.specs.Notes.{chunks_in, is_file_header, headers_in, first_footer, sample_count}
use Rattle.stream_check.specs.declared.kept.Kept.{Kept}
use Rattle.stream_check.specs.declared.kept.Footer.{Footer}
use Rattle.stream_check.specs.declared.survey.Survey.{Survey}
use Rattle.stream_check.specs.Kept.{stilled, end_among}

abbrev pub footer_view : ℕ × List ℕ → Footer
footer_view f = record { at = f.0; samples = number_in SampleCount f.1; overruns = number_in Overruns f.1 }

-- what is kept of the stream with this header, by its samples, its good rows and its footer
abbrev pub kept_by : ℕ → List Row → Option (ℕ × List ℕ) → ℕ × ℕ → Kept
kept_by samples good footer h =
    record { id = h.1; at = h.0; samples = stilled samples; lost = stilled (lost_among h.1 good); end = end_among h.1 good; footer = option_map footer_view footer }

abbrev pub kept_of : List ChunkAt → ℕ × ℕ → Kept
kept_of items h = kept_by (sample_count h.1 items) (good_rows (chunks_in items)) (first_footer h.1 items) h

abbrev pub context_of : List ChunkAt → Context
context_of items = context_after_all [] (chunks_in items)

-- nothing came of a stream
pub record IsFresh (id : ℕ) (items : List ChunkAt) : Type 0 where
  pub samples : sample_count id items ≡ 0
  pub lost : lost_among id (good_rows (chunks_in items)) ≡ 0
  pub end : end_among id (good_rows (chunks_in items)) ≡ 0
  pub footer : first_footer id items ≡ None

-- what is kept is that of these chunks; their headers are those of the context, and nothing came of a stream without one
pub record Knows (items : List ChunkAt) (s : Survey) : Type 0 where
  pub streams : s.streams.items ≡ map (kept_of items) (headers_in items)
  pub begun : s.begun ≡ list_any is_file_header (chunks_in items)
  pub ledger : s.ledger ≡ has_ledger (chunks_in items)
  pub ids : map (λ h. h.1) (headers_in items) ≡ map (λ c. c.0) (context_of items)
  pub fresh : (id : ℕ) → shape_of (context_of items) id ≡ None → IsFresh id items

-- the chunk may stand behind chunks that leave this context
abbrev pub FitsIn : Context → Chunk → Type 0
FitsIn ctx (StreamHeader id doc) = (shape_of ctx id ≡ None) × (shape : Shape) × (shape_in doc ≡ Ok shape)
FitsIn ctx (Samples id samples) = (shape : Shape) × (shape_of ctx id ≡ Some shape)
FitsIn ctx (StreamFooter id doc) = (shape : Shape) × (shape_of ctx id ≡ Some shape)
FitsIn ctx _ = ⊤
