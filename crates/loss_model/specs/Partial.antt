-- What a recording that was stopped still holds of its feeds. This project's own.
use Rattle.std.specs.Prelude.{◌≡◌, ◌⊎◌, ℕ, ◌^◌, ◌<◌, List, [], ◌++◌, length, Some, slice_get}
use Rattle.xdf_model.specs.Sample.{Sample}
use Rattle.chunk_grammar.specs.declared.chunk.Chunk.{Chunk}
use Rattle.chunk_grammar.specs.Chunk.{magic, least_file_text}
use Rattle.chunk_grammar.specs.Standing.{context_after_all, IsFront}
use Rattle.file_model.specs.Cut.{IsEndOrTorn}
use Rattle.recording_model.specs.declared.stream.StreamDoc.{StreamDoc}
use Rattle.recording_model.specs.Batch.{Batch}
use Rattle.recording_model.specs.Recording.{IsRecording}
use Rattle.loss_model.specs.Loss.{entries_at, AreOf, IsFeedPrefix}

-- the chunks begin a recording of the streams that has no sample but those of these feeds, whose positions a row can tell; and they hold the first
-- samples of each feed without those that their ledger names
pub record BeginsRecording (streams : List StreamDoc) (lists : List (List Sample)) (cs : List Chunk) : Type 0 where
  pub batches : List Batch
  pub chunks : List Chunk
  pub recording : IsRecording streams batches chunks
  pub more : List Chunk
  pub begins : chunks ≡ cs ++ more
  pub entries : (place : ℕ) (samples : List Sample) → slice_get lists place ≡ Some samples → AreOf samples (entries_at place batches) × (length samples < 2 ^ 62)
  pub each : (place : ℕ) (stream : StreamDoc) (samples : List Sample) → slice_get streams place ≡ Some stream → slice_get lists place ≡ Some samples
      → IsFeedPrefix samples cs stream.id

-- whole chunks with the least widths, which begin a recording of the feeds, and behind them nothing or a torn chunk
pub record HasBegun (streams : List StreamDoc) (lists : List (List Sample)) (b : List ℕ) : Type 0 where
  pub cs : List Chunk
  pub rest : List ℕ
  pub front : IsFront b cs rest
  pub least : b ≡ least_file_text cs ++ rest
  pub ends : IsEndOrTorn (context_after_all [] cs) rest
  pub begins : BeginsRecording streams lists cs

-- the bytes begin the magic
abbrev pub BeginsMagic : List ℕ → Type 0
BeginsMagic b = (more : List ℕ) × (magic ≡ b ++ more)

-- what a recording of these feeds as these streams holds, wherever it was stopped
abbrev pub IsPartialRecording : List StreamDoc → List (List Sample) → List ℕ → Type 0
IsPartialRecording streams lists b = BeginsMagic b ⊎ HasBegun streams lists b
