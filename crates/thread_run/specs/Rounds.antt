-- What holds between two rounds over the lanes. This project's own.
use Rattle.std.specs.Prelude.{◌≡◌, ℕ, ◌≤◌, false, List, length, map, slice_get, Option, Some, None}
use Rattle.std.specs.List.{AllByRecursion}
use Rattle.xdf_model.specs.declared.types.Shape.{Shape}
use Rattle.xdf_model.specs.Sample.{Sample, size_of}
use Rattle.ring_model.specs.declared.entry.Entry.{Entry as RingEntry}
use Rattle.recording_model.specs.declared.stream.StreamDoc.{StreamDoc}
use Rattle.recording_model.specs.Batch.{Batch}
use Rattle.loss_model.specs.Loss.{entries_at, behind_last}
use Rattle.record_writer.specs.Desk.{DeskState, next_at, shapes_of}
use Rattle.record_writer.specs.Standing.{StandsFor, IsCut}
use Rattle.run_model.specs.Putting.{AreFirst}
use Rattle.run_model.specs.Rings.{ring_entry}
use Rattle.feed_lane.specs.Lanes.{Lane}
use Rattle.thread_run.specs.declared.lane.CountedHead.{CountedHead}
use Rattle.thread_run.specs.Lanes.{Counts}

-- no batch has more than so many entries
abbrev pub AreShort : ℕ → List Batch → Type 0
AreShort batch batches = AllByRecursion (λ b. length b.entries ≤ batch) batches

-- what a lane gave: the shape of its samples, what was taken of it, and how many of these were written
pub record Given : Type 0 where
  pub shape : Shape
  pub taken : List (RingEntry Sample)
  pub kept : ℕ

abbrev pub given_by : CountedHead → Given
given_by h = record { shape = h.head.lane.shape; taken = h.head.taken; kept = h.kept }

-- what was taken of the lane at a place is what the batches have of it and was counted, and its samples are of the stream's shape
pub record IsDrawn (desk : DeskState) (batches : List Batch) (place : ℕ) (lane : Given) : Type 0 where
  pub taken : map ring_entry lane.taken ≡ entries_at place batches
  pub next : next_at desk place ≡ behind_last (map ring_entry lane.taken)
  pub shape : slice_get (shapes_of desk) place ≡ Some lane.shape
  pub counted : Counts lane.kept lane.taken

-- so it is of every lane, and what was written stands for these batches
pub record AreDrawn (batch : ℕ) (streams : List StreamDoc) (base held : Option (List ℕ)) (desk : DeskState) (batches : List Batch) (lanes : List Given) : Type 0 where
  pub written : StandsFor streams base held desk batches None
  pub short : AreShort batch batches
  pub count : length lanes ≡ length desk.places
  pub closed : desk.count ≡ 0
  pub whole : desk.broken ≡ false
  pub each : (place : ℕ) (lane : Given) → slice_get lanes place ≡ Some lane → IsDrawn desk batches place lane

-- a writer failed: what is held is cut off in the recording of some batches, whose entries come first of those that were taken of each lane
pub record IsCutOf (streams : List StreamDoc) (base held : Option (List ℕ)) (lanes : List Given) : Type 0 where
  pub some : List Batch
  pub cut : IsCut streams base held some
  pub each : (place : ℕ) (lane : Given) → slice_get lanes place ≡ Some lane → AreFirst (entries_at place some) (map ring_entry lane.taken)

-- which lanes the heads are of
abbrev pub lanes_of : List CountedHead → List Lane
lanes_of heads = map (λ h. h.head.lane) heads

-- every lane is one of numbers
abbrev pub AreOfNumbers : List Given → Type 0
AreOfNumbers lanes = (place : ℕ) (lane : Given) → slice_get lanes place ≡ Some lane → 1 ≤ size_of lane.shape.format
