-- What a drill records, and what it says of it. This project's own.
use Rattle.std.specs.Prelude.{◌≡◌, ℕ, ◌+◌, List, [], ◌∷◌, ◌++◌, length, map, slice_get, Option, None, codes}
use Rattle.std.specs.Option.{option_map_or}
use Rattle.std.specs.Fmt.{decimal}
use Rattle.std.specs.Io.KnownBytes.{Appends}
use Rattle.rec_base.specs.Known.{AppendsFront, printed_line}
use Rattle.reading_model.specs.Outlook.{ended}
use Rattle.chunk_grammar.specs.declared.chunk.Chunk.{Chunk}
use Rattle.chunk_grammar.specs.Chunk.{IsFileText, least_file_text}
use Rattle.recording_model.specs.declared.stream.StreamDoc.{StreamDoc}
use Rattle.recording_model.specs.Ledger.{stream_samples}
use Rattle.recording_model.specs.Recording.{IsRecording, lost_in}
use Rattle.turns_model.specs.Turns.{turn_batches}
use Rattle.report_model.specs.Notes.{check_notes}
use Rattle.run_model.specs.declared.report.FeedReport.{FeedReport}
use Rattle.run_model.specs.declared.feed.FeedSource.{FeedSource}
use Rattle.drill_feeds.specs.Drill.{drill_bytes, drill_document, drill_samples, drill_shape}
use Rattle.stream_check.specs.Ends.{told_count}
use Rattle.file_call.specs.Files.{file_chunks}

-- the most samples that wait in a ring, and the most that a turn takes of a feed
abbrev pub drill_ring : ℕ
drill_ring = 64

abbrev pub drill_batch : ℕ
drill_batch = 100

abbrev pub drill_ids : List ℕ
drill_ids = 1 ∷ 2 ∷ 3 ∷ []

abbrev pub drill_stream : ℕ → StreamDoc
drill_stream id = record { id = id; doc = drill_document id; shape = drill_shape id }

abbrev pub drill_streams : List StreamDoc
drill_streams = map drill_stream drill_ids

-- a feed of the drill of this number: no uid and no count is asked for
abbrev pub drill_source : ℕ → ℕ → FeedSource (List ℕ)
drill_source number id = record { source = drill_bytes number id; uid = None; limit = None }

abbrev pub drill_sources : ℕ → List (FeedSource (List ℕ))
drill_sources number = map (drill_source number) drill_ids

-- the samples that the file has of all three streams, and those that its ledger says were lost of them
abbrev pub all_kept : List Chunk → ℕ
all_kept cs = length (stream_samples 1 cs) + length (stream_samples 2 cs) + length (stream_samples 3 cs)

abbrev pub all_lost : List Chunk → ℕ
all_lost cs = lost_in 1 cs + lost_in 2 cs + lost_in 3 cs

-- the chunks are the recording by turns of the three feeds, and these are its numbers: the bytes and chunks of its file, the samples that are
-- kept and lost of all three, and the notes of a check of the file
pub record IsDrilled (number bytes chunks kept lost notes : ℕ) : Type 0 where
  pub cs : List Chunk
  pub recording : IsRecording drill_streams (turn_batches drill_ring drill_batch (map (drill_samples number) drill_ids)) cs
  pub text : IsFileText cs (least_file_text cs)
  pub byte_count : bytes ≡ length (least_file_text cs)
  pub chunk_count : chunks ≡ told_count (length cs)
  pub kept_count : kept ≡ told_count (all_kept cs)
  pub lost_count : lost ≡ told_count (all_lost cs)
  pub note_count : notes ≡ told_count (length (check_notes (file_chunks (least_file_text cs) ended)))

abbrev pub drill_line : ℕ → ℕ → ℕ → ℕ → ℕ → ℕ → List ℕ
drill_line number bytes chunks kept lost notes =
    codes "drill " ++ (decimal number ++ (codes " bytes " ++ (decimal bytes ++ (codes " chunks " ++ (decimal chunks
    ++ (codes " kept " ++ (decimal kept ++ (codes " lost " ++ (decimal lost ++ (codes " notes " ++ decimal notes))))))))))

-- the line of a drill of this number was said; or a front of it
pub record IsDrillSaid (number : ℕ) (printed printed' : Option (List ℕ)) : Type 0 where
  pub bytes : ℕ
  pub chunks : ℕ
  pub kept : ℕ
  pub lost : ℕ
  pub notes : ℕ
  pub is : IsDrilled number bytes chunks kept lost notes
  pub said : Appends printed printed' (printed_line (drill_line number bytes chunks kept lost notes))

pub record IsDrillCut (number : ℕ) (printed printed' : Option (List ℕ)) : Type 0 where
  pub bytes : ℕ
  pub chunks : ℕ
  pub kept : ℕ
  pub lost : ℕ
  pub notes : ℕ
  pub is : IsDrilled number bytes chunks kept lost notes
  pub said : AppendsFront printed printed' (printed_line (drill_line number bytes chunks kept lost notes))

-- what is told of the feed at a place
abbrev pub kept_at : List FeedReport → ℕ → ℕ
kept_at reports place = option_map_or (λ r. r.kept) (slice_get reports place) 0

abbrev pub lost_at : List FeedReport → ℕ → ℕ
lost_at reports place = option_map_or (λ r. r.lost) (slice_get reports place) 0
