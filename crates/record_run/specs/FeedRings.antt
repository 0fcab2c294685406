-- The ring of a feed, and one sample's way into it.
use Rattle.std.specs.Prelude.{◌≡◌, ℕ, ◌+◌, ◌*◌, ◌≤◌, [], ◌∷◌, ◌++◌, if◌then◌else◌}
use Rattle.xdf_model.specs.declared.types.Shape.{Shape}
use Rattle.xdf_model.specs.Sample.{Sample, size_of}
use Rattle.feed_samples.specs.declared.step.FeedStep.{FeedStep}
use Rattle.feed_samples.specs.declared.step.FeedStep.TheVariants as step
use Rattle.ring_model.specs.Ring.{RingState, RingRun}
use Rattle.ring_model.specs.declared.entry.Entry.{Entry as RingEntry}
use Rattle.inlet_ring.specs.Lone.{Lone, StandsFor as RingStandsFor, is_full, with_room, push_events, take_events}
use Rattle.std.specs.Prelude.{slice_get, length, drop, Option, Some, List, Bool, true, false}
use Rattle.record_writer.specs.Desk.{DeskState}
use Rattle.run_model.specs.Putting.{IsOnePut}
use Rattle.record_run.specs.declared.ring.Rooms.{Rooms}
use Rattle.record_run.specs.declared.ring.Rooms.TheVariants.{Numbers, Texts}
use Rattle.record_run.specs.declared.ring.Given.{Given}
use Rattle.record_run.specs.declared.ring.Given.TheVariants as given

-- the shape of the samples, and the ring of them
pub record FeedRingView : Type 0 where
  pub shape : Shape
  pub lone : Lone Sample

abbrev pub lone_in : Rooms → Lone Sample
lone_in (Numbers r) = r.ring
lone_in (Texts r) = r

-- numbers are in blocks that are as long as the longest text of a sample, none of which is lent
abbrev pub AreRoomsFor : Shape → Rooms → Type 0
AreRoomsFor shape (Numbers r) = (r.shape ≡ shape) × (1 ≤ size_of shape.format) × (shape.count ≤ 4096) × (r.size ≡ 9 + shape.count * size_of shape.format) × (r.lent ≡ 0)
AreRoomsFor shape (Texts r) = size_of shape.format ≡ 0

-- how many entries the next push drops
abbrev pub dropped_by : Lone Sample → ℕ
dropped_by ring = if is_full ring then 1 else 0

-- a push of a sample
pub record IsPush (old new : Lone Sample) (s : Sample) : Type 0 where
  pub queue : new.queue ≡ with_room old ++ record { position = old.pushes; value = s } ∷ []
  pub pushes : new.pushes ≡ old.pushes + 1
  pub capacity : new.capacity ≡ old.capacity
  pub steps : (a : RingState Sample) → RingStandsFor old a → (b : RingState Sample) × RingRun old.capacity a (push_events old s) b × RingStandsFor new b

-- the oldest entry was taken
pub record IsTake (old new : Lone Sample) (e : RingEntry Sample) : Type 0 where
  pub oldest : slice_get old.queue 0 ≡ Some e
  pub queue : new.queue ≡ drop 1 old.queue
  pub pushes : new.pushes ≡ old.pushes
  pub capacity : new.capacity ≡ old.capacity
  pub steps : (a : RingState Sample) → RingStandsFor old a → (b : RingState Sample) × RingRun old.capacity a (take_events old.queue) b × RingStandsFor new b

-- what the reader answered went into the ring
abbrev pub IsPut : Lone Sample → Lone Sample → FeedStep → Given → Type 0
IsPut old new (step.Sample s) (given.Sample drops) = IsPush old new s × (drops ≡ dropped_by old)
IsPut old new (step.Sample s) (given.End e) = ⊥
IsPut old new (step.Sample s) given.Memory = ⊥
IsPut old new (step.End e) (given.Sample drops) = ⊥
IsPut old new (step.End e) (given.End f) = (e ≡ f) × (new ≡ old)
IsPut old new (step.End e) given.Memory = ⊥
IsPut old new step.Memory (given.Sample drops) = ⊥
IsPut old new step.Memory (given.End e) = ⊥
IsPut old new step.Memory given.Memory = new ≡ old

-- the oldest sample of a ring was put, or there is none
abbrev pub IsOut : Lone Sample → Lone Sample → ℕ → DeskState → DeskState → Option (List ℕ) → Option (List ℕ) → Bool → Type 0
IsOut old new place before after held_before held_after true = (e : RingEntry Sample) × IsTake old new e × IsOnePut place e.position e.value before after held_before held_after
IsOut old new place before after held_before held_after false = (old.queue ≡ []) × (new ≡ old) × (after ≡ before) × (held_after ≡ held_before)

-- nothing was put into a ring
abbrev pub IsNoFuller : Lone Sample → Lone Sample → Type 0
IsNoFuller old new = (new.capacity ≡ old.capacity) × (new.pushes ≡ old.pushes) × (length new.queue ≤ length old.queue)
