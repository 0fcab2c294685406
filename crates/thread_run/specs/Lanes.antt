-- What was taken out of a lane and written. This project's own.
use Rattle.std.specs.Prelude.{◌≡◌, ◌≢◌, ℕ, ◌≤◌, false, List, ◌++◌, length, map, Option, None}
use Rattle.std.specs.List.{AllByRecursion}
use Rattle.xdf_model.specs.Sample.{Sample}
use Rattle.ring_model.specs.declared.entry.Entry.{Entry as RingEntry}
use Rattle.recording_model.specs.declared.stream.StreamDoc.{StreamDoc}
use Rattle.recording_model.specs.Batch.{Entry, Batch}
use Rattle.loss_model.specs.Loss.{entries_at, behind_last}
use Rattle.record_writer.specs.Desk.{DeskState, capped, next_at, shapes_of, IsFreeFor}
use Rattle.record_writer.specs.Standing.{StandsFor}
use Rattle.run_model.specs.Rings.{ring_entry}
use Rattle.run_model.proofs.Batches.{open_of}
use Rattle.feed_lane.specs.Lanes.{LastView}

-- so many entries were taken and put, as the batch that is open now
pub record AreGathered (place n : ℕ) (first now : List (RingEntry Sample)) (before after : DeskState) (base_held held : Option (List ℕ)) : Type 0 where
  pub put : List Entry
  pub count : length put ≡ n
  pub taken : map ring_entry now ≡ map ring_entry first ++ put
  pub stands : (streams : List StreamDoc) (base : Option (List ℕ)) (batches : List Batch) → StandsFor streams base base_held before batches None → StandsFor streams base held after batches (open_of place put)
  pub free : IsFreeFor after place
  pub whole : after.broken ≡ false
  pub next_here : next_at after place ≡ behind_last (map ring_entry now)
  pub next_else : (p : ℕ) → p ≢ place → next_at after p ≡ next_at before p
  pub shapes : shapes_of after ≡ shapes_of before

-- batches of a place, each of at most so many entries
abbrev pub AreShortOf : ℕ → ℕ → List Batch → Type 0
AreShortOf batch place bs = AllByRecursion (λ b. (b.place ≡ place) × (length b.entries ≤ batch)) bs

-- what was taken beside what had been was written as such batches, and no batch is open
pub record AreWritten (batch place : ℕ) (first now : List (RingEntry Sample)) (before after : DeskState) (base_held held : Option (List ℕ)) : Type 0 where
  pub bs : List Batch
  pub short : AreShortOf batch place bs
  pub taken : map ring_entry now ≡ map ring_entry first ++ entries_at place bs
  pub put : (streams : List StreamDoc) (base : Option (List ℕ)) (batches : List Batch) → StandsFor streams base base_held before batches None → StandsFor streams base held after (batches ++ bs) None
  pub next_here : next_at after place ≡ behind_last (map ring_entry now)
  pub next_else : (p : ℕ) → p ≢ place → next_at after p ≡ next_at before p
  pub shapes : shapes_of after ≡ shapes_of before
  pub closed : after.count ≡ 0
  pub whole : after.broken ≡ false

-- a number counts these entries, and stands still at the end of its type
abbrev pub Counts : ℕ → List (RingEntry Sample) → Type 0
Counts n taken = n ≡ capped (length taken)

-- a lane of which only entries were taken
pub record IsSameLane (before after : LastView) : Type 0 where
  pub capacity : after.capacity ≡ before.capacity
  pub shape : after.shape ≡ before.shape
  pub puts : after.state.puts ≡ before.state.puts
