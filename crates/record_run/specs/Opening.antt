-- A recorder that is open: what it was made of, before anything is read.
use Rattle.std.specs.Prelude.{◌≡◌, ℕ, ◌≤◌, false, List, [], length, map, slice_get, None, Some}
use Rattle.reading_model.specs.Outlook.{How}
use Rattle.feed_samples.specs.Inlet.{outlook}
use Rattle.ring_model.specs.Ring.{new_ring}
use Rattle.inlet_ring.specs.Lone.{StandsFor}
use Rattle.recording_model.specs.declared.stream.StreamDoc.{StreamDoc}
use Rattle.record_writer.specs.Desk.{DeskState, new_place}
use Rattle.record_writer.specs.Standing.{IsReady}
use Rattle.run_model.specs.declared.feed.FeedSource.{FeedSource}
use Rattle.run_model.specs.Run.{feed_of}
use Rattle.thread_run.specs.Opening.{ThreadsView, AreThreadsFor}
use Rattle.record_run.specs.Inlets.{InletView}

-- the inlet has read nothing of this feed, whose samples become this stream
pub record IsNewInlet {S : Type 0} (ring : ℕ) (stream : StreamDoc) (feed : FeedSource S) (x : InletView S) : Type 0 where
  pub all : (more : List ℕ) (how : How) → (outlook x.inlet).coming more how ≡ feed_of stream feed more how
  pub goes : (outlook x.inlet).is_over ≡ false
  pub id : x.id ≡ stream.id
  pub shape : x.inlet.shape ≡ stream.shape
  pub source : x.source ≡ feed.source
  pub end : x.end ≡ None
  pub drops : x.drops ≡ 0
  pub capacity : x.ring.capacity ≡ ring
  pub pushes : x.ring.pushes ≡ 0
  pub queue : x.ring.queue ≡ []
  pub stands : StandsFor x.ring new_ring

-- the feeds of a recording by turns, as contracts see them: their inlets, what the writer keeps, and how many samples a turn reads of a feed
pub record TurnsView (S : Type 0) : Type 0 where
  pub inlets : List (InletView S)
  pub desk : DeskState
  pub batch : ℕ

-- they are to be recorded as these streams, with rings and batches of these sizes
pub record AreTurnsFor {S : Type 0} (ring batch : ℕ) (streams : List StreamDoc) (feeds : List (FeedSource S)) (r : TurnsView S) : Type 0 where
  pub low : 1 ≤ ring
  pub some : 1 ≤ batch
  pub same_batch : r.batch ≡ batch
  pub ready : IsReady streams r.desk
  pub places : r.desk.places ≡ map new_place streams
  pub feed_count : length feeds ≡ length streams
  pub inlet_count : length r.inlets ≡ length streams
  pub each : (place : ℕ) (stream : StreamDoc) (feed : FeedSource S) (x : InletView S) → slice_get streams place ≡ Some stream → slice_get feeds place ≡ Some feed
      → slice_get r.inlets place ≡ Some x → IsNewInlet ring stream feed x

-- they are some feeds
pub record AreTurns {S : Type 0} (r : TurnsView S) : Type 0 where
  pub ring : ℕ
  pub batch : ℕ
  pub streams : List StreamDoc
  pub feeds : List (FeedSource S)
  pub is : AreTurnsFor ring batch streams feeds r

-- the feeds of a recording by threads, what the writer keeps, and how many samples a batch may have
pub record ThreadsRoom (S : Type 0) : Type 0 where
  pub feeds : ThreadsView S
  pub desk : DeskState
  pub batch : ℕ

-- they are some feeds
pub record AreThreads {S : Type 0} (r : ThreadsRoom S) : Type 0 where
  pub ring : ℕ
  pub streams : List StreamDoc
  pub feeds : List (FeedSource S)
  pub are : AreThreadsFor ring r.batch streams feeds r.desk r.feeds
