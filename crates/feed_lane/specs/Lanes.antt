-- The ends of a lane as contracts see them, and one sample's way into it and out of it. This project's own.
use Rattle.std.specs.Prelude.{◌≡◌, ℕ, Bool, true, false, List, [], ◌∷◌, ◌++◌, Option}
use Rattle.atomic_table.specs.Seated.{TableId}
use Rattle.xdf_model.specs.declared.types.Shape.{Shape}
use Rattle.xdf_model.specs.Sample.{Sample}
use Rattle.ring_model.specs.declared.entry.Entry.{Entry as RingEntry}
use Rattle.ring_model.specs.Ring.{RingState}
use Rattle.feed_samples.specs.declared.step.FeedStep.{FeedStep}
use Rattle.feed_samples.specs.declared.step.FeedStep.TheVariants as step
use Rattle.feed_lane.specs.declared.step.LaneStep.{LaneStep}
use Rattle.feed_lane.specs.declared.step.LaneStep.TheVariants as lane
use Rattle.record_writer.specs.Desk.{DeskState}
use Rattle.run_model.specs.Putting.{IsOnePut}

-- which lane an end is of: its ring and, with numbers, the pool of its blocks; how many samples the ring holds at most; and their shape
pub record Lane : Type 0 where
  pub ring : TableId
  pub pool : Option TableId
  pub capacity : ℕ
  pub shape : Shape

-- the end that puts, with what it put and what was dropped for that
pub record TailView : Type 0 where
  pub lane : Lane
  pub puts : List Sample
  pub dropped : List (RingEntry Sample)

-- the end that takes, with what it took
pub record HeadView : Type 0 where
  pub lane : Lane
  pub taken : List (RingEntry Sample)

-- both ends in one: the whole state
pub record LastView : Type 0 where
  pub capacity : ℕ
  pub shape : Shape
  pub state : RingState Sample

-- what the reader answered was put
abbrev pub IsPutTo : TailView → TailView → FeedStep → LaneStep → Type 0
IsPutTo old new (step.Sample s) lane.Sample = new.puts ≡ old.puts ++ s ∷ []
IsPutTo old new (step.Sample s) (lane.End e) = ⊥
IsPutTo old new (step.Sample s) lane.Memory = ⊥
IsPutTo old new (step.End e) lane.Sample = ⊥
IsPutTo old new (step.End e) (lane.End f) = (e ≡ f) × (new.puts ≡ old.puts)
IsPutTo old new (step.End e) lane.Memory = ⊥
IsPutTo old new step.Memory lane.Sample = ⊥
IsPutTo old new step.Memory (lane.End e) = ⊥
IsPutTo old new step.Memory lane.Memory = new.puts ≡ old.puts

-- a sample was taken and put to the writer, or nothing was done
abbrev pub IsPutOut : HeadView → HeadView → ℕ → DeskState → DeskState → Option (List ℕ) → Option (List ℕ) → Bool → Type 0
IsPutOut old new place before after held_before held_after true = (e : RingEntry Sample) × (new.taken ≡ old.taken ++ e ∷ []) × IsOnePut place e.position e.value before after held_before held_after
IsPutOut old new place before after held_before held_after false = (new ≡ old) × (after ≡ before) × (held_after ≡ held_before)

-- the entry was taken, and nothing else changed
pub record IsOneLess (old new : LastView) (e : RingEntry Sample) : Type 0 where
  pub capacity : new.capacity ≡ old.capacity
  pub shape : new.shape ≡ old.shape
  pub puts : new.state.puts ≡ old.state.puts
  pub dropped : new.state.dropped ≡ old.state.dropped
  pub taken : new.state.taken ≡ old.state.taken ++ e ∷ []

-- the oldest of what is left was put to the writer, or nothing is left
abbrev pub IsLessBy : LastView → LastView → ℕ → DeskState → DeskState → Option (List ℕ) → Option (List ℕ) → Bool → Type 0
IsLessBy old new place before after held_before held_after true = (e : RingEntry Sample) × IsOneLess old new e × IsOnePut place e.position e.value before after held_before held_after
IsLessBy old new place before after held_before held_after false = (old.state.queue ≡ []) × (new ≡ old) × (after ≡ before) × (held_after ≡ held_before)
