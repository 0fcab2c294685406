-- A feed whose inlet has ended, and what becomes of its lane. This project's own.
use Rattle.std.specs.Prelude.{◌≡◌, ℕ, false, List, [], length, map, slice_get, Option, Some, None}
use Rattle.ring_model.specs.Ring.{IsReached}
use Rattle.thread_ring.specs.Ends.{AreFew}
use Rattle.recording_model.specs.declared.stream.StreamDoc.{StreamDoc}
use Rattle.recording_model.specs.Batch.{Batch}
use Rattle.loss_model.specs.Loss.{entries_at}
use Rattle.record_writer.specs.Desk.{DeskState}
use Rattle.record_writer.specs.Standing.{StandsFor}
use Rattle.run_model.specs.Rings.{ring_entry}
use Rattle.thread_run.specs.declared.work.Work.{Work}
use Rattle.thread_run.specs.Work.{HasWorked}
use Rattle.thread_run.specs.Rounds.{AreShort, Given}
use Rattle.thread_run.specs.Lanes.{Counts, IsSameLane}
use Rattle.thread_run.specs.declared.lane.CountedHead.{CountedHead}
use Rattle.thread_run.specs.declared.work.Worked.{Worked}
use Rattle.thread_run.specs.declared.settle.Joined.{Joined}

-- both ends of the lane met, and what came of the inlet stays
pub record IsJoined {S : Type 0} (before : Worked S) (head : CountedHead) (after : Joined S) : Type 0 where
  pub id : after.id ≡ before.id
  pub reader : after.reader ≡ before.reader
  pub done : after.done ≡ before.done
  pub capacity : after.lane.last.capacity ≡ before.tail.lane.capacity
  pub shape : after.lane.last.shape ≡ head.head.lane.shape
  pub puts : after.lane.last.state.puts ≡ before.tail.puts
  pub taken : after.lane.last.state.taken ≡ head.head.taken
  pub kept : after.lane.kept ≡ head.kept
  pub reached : IsReached after.lane.last.capacity after.lane.last.state
  pub few : AreFew after.lane.last.capacity after.lane.last.state.puts after.lane.last.state.dropped

abbrev pub given_in : {S : Type 0} → Joined S → Given
given_in s = record { shape = s.lane.last.shape; taken = s.lane.last.state.taken; kept = s.lane.kept }

-- only entries were taken of its lane, and what was put into it is as before
pub record IsSameFeed {S : Type 0} (before after : Joined S) : Type 0 where
  pub id : after.id ≡ before.id
  pub reader : after.reader ≡ before.reader
  pub done : after.done ≡ before.done
  pub lane : IsSameLane before.lane.last after.lane.last
  pub reached : IsReached after.lane.last.capacity after.lane.last.state

-- each lane is one that can be come to
abbrev pub AreReached : {S : Type 0} → List (Joined S) → Type 0
AreReached {S = S} all = (p : ℕ) (s : Joined S) → slice_get all p ≡ Some s → IsReached s.lane.last.capacity s.lane.last.state

-- the lane took in what the inlet had put, is empty again, and dropped no more than a ring of its capacity must
pub record IsSettled {S : Type 0} (before : Worked S) (after : Joined S) : Type 0 where
  pub id : after.id ≡ before.id
  pub reader : after.reader ≡ before.reader
  pub done : after.done ≡ before.done
  pub capacity : after.lane.last.capacity ≡ before.tail.lane.capacity
  pub puts : after.lane.last.state.puts ≡ before.tail.puts
  pub reached : IsReached after.lane.last.capacity after.lane.last.state
  pub empty : after.lane.last.state.queue ≡ []
  pub few : AreFew after.lane.last.capacity after.lane.last.state.puts after.lane.last.state.dropped
  pub counted : Counts after.lane.kept after.lane.last.state.taken

-- so it is of every feed, and what was taken of its lane is what the batches have of it
pub record AreSettled {S : Type 0} (batch : ℕ) (streams : List StreamDoc) (base held : Option (List ℕ)) (desk : DeskState) (batches : List Batch) (worked : List (Worked S)) (all : List (Joined S)) : Type 0 where
  pub written : StandsFor streams base held desk batches None
  pub short : AreShort batch batches
  pub closed : desk.count ≡ 0
  pub whole : desk.broken ≡ false
  pub count : length all ≡ length worked
  pub each : (place : ℕ) (w : Worked S) (s : Joined S) → slice_get worked place ≡ Some w → slice_get all place ≡ Some s → IsSettled w s × (map ring_entry s.lane.last.state.taken ≡ entries_at place batches)

-- each inlet handed back what it owes of its work
pub record AreWorked {S M : Type 0} (left_of : S → Option (List ℕ)) (faults_of : S → ℕ) (mark_of : S → M) (works : List (Work S)) (worked : List (Worked S)) : Type 0 where
  pub count : length worked ≡ length works
  pub each : (place : ℕ) (w : Work S) (r : Worked S) → slice_get works place ≡ Some w → slice_get worked place ≡ Some r → HasWorked left_of faults_of mark_of w r
