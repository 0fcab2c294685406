-- One sample's way from a ring to the writer. This project's own.
use Rattle.std.specs.Prelude.{◌≡◌, ◌≢◌, ℕ, ◌+◌, ◌<◌, ◌≤◌, ◌^◌, ◌==◌, List, ◌++◌, map, sum_by, slice_get, Option, Some, false, if◌then◌else◌}
use Rattle.xdf_model.specs.declared.types.Shape.{Shape}
use Rattle.xdf_model.specs.Sample.{Sample, FitsShape}
use Rattle.feed_model.specs.Feed.{text_size, text_limit}
use Rattle.ring_model.specs.declared.entry.Entry.{Entry as RingEntry}
use Rattle.recording_model.specs.declared.stream.StreamDoc.{StreamDoc}
use Rattle.recording_model.specs.Batch.{Entry, Batch}
use Rattle.loss_model.specs.Loss.{entries_at}
use Rattle.record_writer.specs.Desk.{DeskState, next_at, shapes_of}
use Rattle.record_writer.specs.Standing.{StandsFor, with_entry}
use Rattle.run_model.specs.Rings.{ring_entry}

-- the writer takes this sample at this position of the stream at a place, whose shape this is
abbrev pub IsTakenAt : DeskState → ℕ → Shape → RingEntry Sample → Type 0
IsTakenAt desk place shape e = (e.position < 2 ^ 41) × (next_at desk place ≤ e.position) × (slice_get (shapes_of desk) place ≡ Some shape) × FitsShape shape e.value × (sum_by text_size e.value.values ≤ text_limit)

-- a sample was put to the writer
pub record IsOnePut (place position : ℕ) (s : Sample) (before after : DeskState) (held_before held_after : Option (List ℕ)) : Type 0 where
  pub put : (streams : List StreamDoc) (base : Option (List ℕ)) (batches : List Batch) (current : Option Batch) → StandsFor streams base held_before before batches current
      → StandsFor streams base held_after after batches (Some (with_entry place current position s))
  pub next : (p : ℕ) → next_at after p ≡ (if p == place then position + 1 else next_at before p)
  pub shapes : shapes_of after ≡ shapes_of before
  pub place_is : after.place ≡ place
  pub whole : after.broken ≡ false

-- some entries come first of all
abbrev pub AreFirst : List Entry → List Entry → Type 0
AreFirst es all = (left : List Entry) × (all ≡ es ++ left)

-- of the stream at a place a writer failed behind the first of the entries that were taken beyond some; of every other, behind what it had
pub record IsCutAt (place : ℕ) (first now : List (RingEntry Sample)) (before some : List Batch) : Type 0 where
  pub put : List Entry
  pub left : List Entry
  pub taken : map ring_entry now ≡ map ring_entry first ++ (put ++ left)
  pub here : entries_at place some ≡ entries_at place before ++ put
  pub others : (p : ℕ) → p ≢ place → entries_at p some ≡ entries_at p before
