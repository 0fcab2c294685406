-- Feeds that are to be recorded by threads: what they were made of, before anything is read. This project's own.
use Rattle.std.specs.Prelude.{◌≡◌, ℕ, ◌≤◌, false, List, [], length, map, slice_get, Some}
use Rattle.halt_word.specs.Ends.{RaiserView, LookerListView}
use Rattle.reading_model.specs.Outlook.{How}
use Rattle.feed_samples.specs.Inlet.{outlook}
use Rattle.recording_model.specs.declared.stream.StreamDoc.{StreamDoc}
use Rattle.record_writer.specs.Desk.{DeskState, new_place}
use Rattle.record_writer.specs.Standing.{IsReady}
use Rattle.run_model.specs.declared.feed.FeedSource.{FeedSource}
use Rattle.run_model.specs.Run.{byte_limit, feed_of}
use Rattle.thread_run.specs.declared.work.Work.{Work}
use Rattle.thread_run.specs.declared.lane.CountedHead.{CountedHead}

-- nothing was read of this feed, whose samples become this stream, and nothing passed its lane, whose ring is of this capacity
pub record IsNewLane {S : Type 0} (ring : ℕ) (stream : StreamDoc) (feed : FeedSource S) (work : Work S) (head : CountedHead) : Type 0 where
  pub all : (more : List ℕ) (how : How) → (outlook work.reader.inlet).coming more how ≡ feed_of stream feed more how
  pub goes : (outlook work.reader.inlet).is_over ≡ false
  pub received : work.reader.inlet.received ≡ 0
  pub counted : work.reader.inlet.byte_limit ≡ byte_limit
  pub id : work.id ≡ stream.id
  pub source : work.reader.source ≡ feed.source
  pub reader_shape : work.reader.inlet.shape ≡ stream.shape
  pub shape : work.tail.lane.shape ≡ stream.shape
  pub capacity : work.tail.lane.capacity ≡ ring
  pub puts : work.tail.puts ≡ []
  pub dropped : work.tail.dropped ≡ []
  pub lane : head.head.lane ≡ work.tail.lane
  pub taken : head.head.taken ≡ []
  pub kept : head.kept ≡ 0

-- the word isn't raised, each inlet has a looker of it that has seen nothing, and the list has room for them all
pub record IsNewHalt {S : Type 0} (works : List (Work S)) (raiser : RaiserView) (lookers : LookerListView) : Type 0 where
  pub down : raiser.raised ≡ false
  pub same : lookers.word ≡ raiser.word
  pub none : lookers.lookers ≡ []
  pub room : length works ≤ lookers.room
  pub each : (place : ℕ) (work : Work S) → slice_get works place ≡ Some work → (work.looker.word ≡ raiser.word) × (work.looker.saw ≡ false)

-- the feeds, as contracts see them: what each inlet is to do, the other ends of the lanes, and the halt word
pub record ThreadsView (S : Type 0) : Type 0 where
  pub works : List (Work S)
  pub heads : List CountedHead
  pub raiser : RaiserView
  pub lookers : LookerListView

-- these feeds are to be recorded as these streams, with rings and batches of these sizes, by a writer that keeps this
pub record AreThreadsFor {S : Type 0} (ring batch : ℕ) (streams : List StreamDoc) (feeds : List (FeedSource S)) (desk : DeskState) (v : ThreadsView S) : Type 0 where
  pub low : 1 ≤ ring
  pub some : 1 ≤ batch
  pub ready : IsReady streams desk
  pub places : desk.places ≡ map new_place streams
  pub feed_count : length feeds ≡ length streams
  pub work_count : length v.works ≡ length streams
  pub head_count : length v.heads ≡ length streams
  pub each : (place : ℕ) (stream : StreamDoc) (feed : FeedSource S) (work : Work S) (head : CountedHead) → slice_get streams place ≡ Some stream → slice_get feeds place ≡ Some feed
      → slice_get v.works place ≡ Some work → slice_get v.heads place ≡ Some head → IsNewLane ring stream feed work head
  pub halt : IsNewHalt v.works v.raiser v.lookers
