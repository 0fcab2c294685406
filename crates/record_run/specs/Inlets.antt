-- An inlet: the reader of a feed with the ring behind it, and what a turn does to it.
use Rattle.std.specs.Prelude.{◌≡◌, ℕ, ◌+◌, ◌-◌, ◌≤◌, List, [], ◌∷◌, ◌++◌, length, map, slice_get, Option, None, Some}
use Rattle.std.specs.List.{AllByRecursion}
use Rattle.std.specs.Io.KnownBytes.{Consumes}
use Rattle.rec_base.specs.Causes.{Blames}
use Rattle.reading_model.specs.Outlook.{at_fault}
use Rattle.reading_model.specs.Read.{Reader, EndsSo}
use Rattle.piece_reader.specs.Steps.{Begun}
use Rattle.piece_reader.proofs.Ending.{fresh}
use Rattle.xdf_model.specs.declared.types.Shape.{Shape}
use Rattle.xdf_model.specs.Sample.{Sample, size_of}
use Rattle.inlet_model.specs.declared.end.FeedEnd.{FeedEnd}
use Rattle.inlet_model.specs.Inlet.{feed_kind}
use Rattle.feed_samples.specs.Inlet.{InletState, outlook}
use Rattle.ring_model.specs.Ring.{RingState}
use Rattle.inlet_ring.specs.Lone.{Lone, StandsFor}
use Rattle.recording_model.specs.Batch.{Batch, entries_from}
use Rattle.turns_model.specs.Turns.{batch_of}
use Rattle.turns_laws.specs.Slabs.{last_of}
use Rattle.record_writer.specs.Desk.{DeskState, next_at, shapes_of}
use Rattle.run_model.specs.Run.{byte_limit}
use Rattle.run_model.specs.Fitting.{IsFitting}
use Rattle.run_model.specs.Rings.{ring_entry}

-- an inlet, as contracts of this crate see it: the id of its stream, its source, how far that is read, the end if it was met, its ring, and how
-- many entries that dropped
pub record InletView (S : Type 0) : Type 0 where
  pub id : ℕ
  pub source : S
  pub inlet : InletState
  pub end : Option FeedEnd
  pub ring : Lone Sample
  pub drops : ℕ

-- these samples were given of a source, of which no read failed, and no end yet; or the end too
abbrev pub HasGiven : {S : Type 0} → (S → Option (List ℕ)) → (S → ℕ) → Reader Sample FeedEnd → S → InletView S → List Sample → Option FeedEnd → Type 0
HasGiven left_of faults_of reader first x given None = Begun (fresh reader) (outlook x.inlet) (left_of first) (left_of x.source) given × (faults_of x.source ≡ faults_of first)
HasGiven left_of faults_of reader first x given (Some e) =
    ((taken : List ℕ) × Consumes (left_of first) (left_of x.source) taken × EndsSo (feed_kind e) reader taken (left_of x.source) given e)
    × Blames (feed_kind e ≡ at_fault) (faults_of first) (faults_of x.source)

-- the counts of an inlet fit each other
pub record IsKept (inlet : InletState) (ring : Lone Sample) (drops : ℕ) : Type 0 where
  pub low : 1 ≤ ring.capacity
  pub received : inlet.received ≡ ring.pushes
  pub counted : inlet.byte_limit ≡ byte_limit
  pub bounded : ring.pushes ≤ byte_limit
  pub within : drops + length ring.queue ≤ ring.pushes
  pub few : drops ≤ ring.pushes - ring.capacity

-- a pass of a turn read some more samples, at most `batch`, and put them into the ring that was empty
pub record IsFilled {S M : Type 0} (left_of : S → Option (List ℕ)) (faults_of : S → ℕ) (mark_of : S → M) (batch : ℕ) (x y : InletView S) : Type 0 where
  pub more : List Sample
  pub count : length more ≤ batch
  pub all : y.end ≡ None → length more ≡ batch
  pub marked : mark_of y.source ≡ mark_of x.source
  pub given : (reader : Reader Sample FeedEnd) (first : S) (given : List Sample)
      → HasGiven left_of faults_of reader first x given x.end → HasGiven left_of faults_of reader first y (given ++ more) y.end
  pub over : (e : FeedEnd) → x.end ≡ Some e → (y.end ≡ Some e) × (more ≡ [])
  pub id : y.id ≡ x.id
  pub shape : y.inlet.shape ≡ x.inlet.shape
  pub capacity : y.ring.capacity ≡ x.ring.capacity
  pub pushes : y.ring.pushes ≡ x.ring.pushes + length more
  pub bounded : y.ring.pushes ≤ byte_limit
  pub few : y.drops ≤ y.ring.pushes - y.ring.capacity
  pub queue : map ring_entry y.ring.queue ≡ last_of x.ring.capacity (entries_from x.ring.pushes more)
  pub fits : AllByRecursion (IsFitting x.inlet.shape) more
  pub states : (s : RingState Sample) → StandsFor x.ring s → (t : RingState Sample) × StandsFor y.ring t
      × (t.puts ≡ s.puts ++ more) × (t.taken ≡ s.taken) × (length t.dropped + x.drops ≡ length s.dropped + y.drops)

-- a pass of a turn took all entries of the ring out
pub record IsDrained {S : Type 0} (x y : InletView S) : Type 0 where
  pub id : y.id ≡ x.id
  pub source : y.source ≡ x.source
  pub inlet : y.inlet ≡ x.inlet
  pub end : y.end ≡ x.end
  pub drops : y.drops ≡ x.drops
  pub queue : y.ring.queue ≡ []
  pub pushes : y.ring.pushes ≡ x.ring.pushes
  pub capacity : y.ring.capacity ≡ x.ring.capacity
  pub states : (s : RingState Sample) → StandsFor x.ring s → (t : RingState Sample) × StandsFor y.ring t
      × (t.puts ≡ s.puts) × (t.taken ≡ s.taken ++ x.ring.queue) × (t.dropped ≡ s.dropped)

-- the entries that wait in the ring have consecutive positions from `next` or later on, and the writer takes them
pub record AreWaiting {S : Type 0} (shape : Shape) (next : ℕ) (x : InletView S) : Type 0 where
  pub first : ℕ
  pub samples : List Sample
  pub queue : map ring_entry x.ring.queue ≡ entries_from first samples
  pub low : next ≤ first
  pub high : first + length samples ≤ x.ring.pushes
  pub fits : AllByRecursion (IsFitting shape) samples

-- so it is of every inlet, each at its place
abbrev pub AreWaitingAll : {S : Type 0} → DeskState → List (InletView S) → Type 0
AreWaitingAll {S = S} d inlets = (p : ℕ) (x : InletView S) → slice_get inlets p ≡ Some x
    → (slice_get (shapes_of d) p ≡ Some x.inlet.shape) × AreWaiting x.inlet.shape (next_at d p) x

-- every feed is one of numbers
abbrev pub AreNumeric : {S : Type 0} → List (InletView S) → Type 0
AreNumeric {S = S} inlets = (p : ℕ) (x : InletView S) → slice_get inlets p ≡ Some x → 1 ≤ size_of x.inlet.shape.format

-- the batches of what waits in the rings of the inlets from a place on
abbrev pub waiting_batches : {S : Type 0} → ℕ → List (InletView S) → List Batch
waiting_batches place [] = []
waiting_batches place (x ∷ more) = batch_of place (map ring_entry x.ring.queue) ++ waiting_batches (place + 1) more
