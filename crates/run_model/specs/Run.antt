-- What a run made of its feeds, by turns or by threads. This project's own.
use Rattle.std.specs.Prelude.{◌≡◌, ℕ, ◌-◌, ◌≤◌, List, [], length, map, slice_get, Option, Some}
use Rattle.std.specs.List.{AllByRecursion}
use Rattle.reading_model.specs.Read.{Reader, IsRead}
use Rattle.xdf_model.specs.Sample.{Sample}
use Rattle.chunk_grammar.specs.declared.chunk.Chunk.{Chunk}
use Rattle.chunk_grammar.specs.Chunk.{IsFileText, least_file_text}
use Rattle.inlet_model.specs.declared.end.FeedEnd.{FeedEnd}
use Rattle.inlet_model.specs.Inlet.{feed_counted, feed_kind}
use Rattle.ring_model.specs.Ring.{RingState, IsReached}
use Rattle.recording_model.specs.declared.stream.StreamDoc.{StreamDoc}
use Rattle.recording_model.specs.Ledger.{stream_samples, ledger_rows}
use Rattle.recording_model.specs.Batch.{Entry, Batch}
use Rattle.recording_model.specs.Recording.{IsRecording, lost_in}
use Rattle.plan_model.specs.declared.plan.Mode.{Mode}
use Rattle.plan_model.specs.declared.plan.Mode.TheVariants.{Threads, Turns}
use Rattle.turns_model.specs.Turns.{turn_batches}
use Rattle.loss_model.specs.Loss.{IsFeedWhole, entries_at, lost_positions}
use Rattle.run_model.specs.declared.feed.FeedSource.{FeedSource}
use Rattle.run_model.specs.declared.report.FeedReport.{FeedReport}
use Rattle.run_model.specs.Rings.{ring_entry}

-- the most bytes of a feed that count: 2 to the 40
abbrev pub byte_limit : ℕ
byte_limit = 1_099_511_627_776

-- a feed with its stream: the source as it was given and its last value, the samples that were received, and how the feed ended
pub record Fed (S : Type 0) : Type 0 where
  pub stream : StreamDoc
  pub feed : FeedSource S
  pub last : S
  pub samples : List Sample
  pub end : FeedEnd

-- the samples in some bytes of a feed of this stream and its end, where the input goes on so behind them
abbrev pub feed_of : {S : Type 0} → StreamDoc → FeedSource S → Reader Sample FeedEnd
feed_of stream feed b how = feed_counted feed.uid stream.shape feed.limit byte_limit b how

-- a ring of a capacity took these samples in and is empty again: it gave these entries, and dropped those at these positions
pub record HasRing (capacity : ℕ) (samples : List Sample) (entries : List Entry) (lost : List ℕ) : Type 0 where
  pub state : RingState Sample
  pub reached : IsReached capacity state
  pub puts : state.puts ≡ samples
  pub queue : state.queue ≡ []
  pub taken : map ring_entry state.taken ≡ entries
  pub dropped : map (λ e. e.position) state.dropped ≡ lost

-- the feed was read to its end, its stream has all its samples without those that the ledger names, and its ring dropped just these, which are
-- no more than those that a ring of this capacity can't hold at once
pub record IsFed {S M : Type 0} (left_of : S → Option (List ℕ)) (faults_of : S → ℕ) (mark_of : S → M) (ring : ℕ) (batches : List Batch) (chunks : List Chunk) (place : ℕ) (x : Fed S) : Type 0 where
  pub read : IsRead left_of faults_of mark_of feed_kind (feed_of x.stream x.feed) x.feed.source x.last x.samples x.end
  pub whole : IsFeedWhole x.samples chunks x.stream.id
  pub dropped : HasRing ring x.samples (entries_at place batches) (lost_positions (ledger_rows x.stream.id chunks) (length x.samples))
  pub few : lost_in x.stream.id chunks ≤ length x.samples - ring

-- which batches a run may have: by turns those of the turns and no others; by threads any of at most so many entries each
abbrev pub AreBatchesOf : Mode → ℕ → ℕ → List (List Sample) → List Batch → Type 0
AreBatchesOf Turns ring batch lists batches = batches ≡ turn_batches ring batch lists
AreBatchesOf Threads ring batch lists batches = AllByRecursion (λ b. length b.entries ≤ batch) batches

-- the chunks are the recording of such batches of these feeds, and each feed was fed so
pub record IsRun {S M : Type 0} (left_of : S → Option (List ℕ)) (faults_of : S → ℕ) (mark_of : S → M) (mode : Mode) (ring batch : ℕ) (streams : List StreamDoc) (feeds : List (FeedSource S)) (fed : List (Fed S)) (chunks : List Chunk) : Type 0 where
  pub each_stream : map (λ x. x.stream) fed ≡ streams
  pub each_feed : map (λ x. x.feed) fed ≡ feeds
  pub batches : List Batch
  pub are : AreBatchesOf mode ring batch (map (λ x. x.samples) fed) batches
  pub recording : IsRecording streams batches chunks
  pub text : IsFileText chunks (least_file_text chunks)
  pub each : (place : ℕ) (x : Fed S) → slice_get fed place ≡ Some x → IsFed left_of faults_of mark_of ring batches chunks place x

-- what is reported of a feed: how many samples were received, how many are in the file, and how many the ledger names
abbrev pub report_of : {S : Type 0} → List Chunk → Fed S → FeedReport
report_of chunks x = record {
  id = x.stream.id;
  received = length x.samples;
  kept = length (stream_samples x.stream.id chunks);
  lost = lost_in x.stream.id chunks;
  end = x.end;
}
