-- A run between two turns.
use Rattle.std.specs.Prelude.{◌≡◌, ℕ, ◌-◌, ◌*◌, ◌≤◌, List, [], length, map, slice_get, Option, None, Some}
use Rattle.xdf_model.specs.Sample.{Sample}
use Rattle.ring_model.specs.Ring.{RingState}
use Rattle.inlet_ring.specs.Lone.{StandsFor as RingStandsFor}
use Rattle.inlet_model.specs.declared.end.FeedEnd.{FeedEnd}
use Rattle.inlet_model.specs.declared.end.FeedEnd.TheVariants.{Whole}
use Rattle.recording_model.specs.declared.stream.StreamDoc.{StreamDoc}
use Rattle.turns_model.specs.Turns.{first_turns}
use Rattle.loss_model.specs.Loss.{behind_last}
use Rattle.record_writer.specs.Desk.{DeskState, next_at, shapes_of}
use Rattle.record_writer.specs.Standing.{StandsFor}
use Rattle.run_model.specs.declared.feed.FeedSource.{FeedSource}
use Rattle.run_model.specs.declared.report.FeedReport.{FeedReport}
use Rattle.run_model.specs.Run.{byte_limit, feed_of}
use Rattle.run_model.specs.Rings.{ring_entry}
use Rattle.record_run.specs.Kept.{kept_up_to}
use Rattle.record_run.specs.Inlets.{InletView, HasGiven}

-- so many turns were made, in which a feed gave these samples: its ring is empty, and gave what is kept of them
pub record IsTurned {S M : Type 0} (left_of : S → Option (List ℕ)) (faults_of : S → ℕ) (mark_of : S → M) (ring batch turns : ℕ) (stream : StreamDoc) (feed : FeedSource S) (samples : List Sample) (x : InletView S) : Type 0 where
  pub given : HasGiven left_of faults_of (feed_of stream feed) feed.source x samples x.end
  pub marked : mark_of x.source ≡ mark_of feed.source
  pub id : x.id ≡ stream.id
  pub shape : x.inlet.shape ≡ stream.shape
  pub capacity : x.ring.capacity ≡ ring
  pub queue : x.ring.queue ≡ []
  pub pushes : x.ring.pushes ≡ length samples
  pub bounded : length samples ≤ byte_limit
  pub few : x.drops ≤ length samples - ring
  pub aligned : x.end ≡ None → length samples ≡ turns * batch
  pub short : length samples ≤ turns * batch
  pub state : RingState Sample
  pub stands : RingStandsFor x.ring state
  pub puts : state.puts ≡ samples
  pub taken : map ring_entry state.taken ≡ kept_up_to ring batch samples turns
  pub drops : length state.dropped ≡ x.drops
  pub behind : behind_last (kept_up_to ring batch samples turns) ≡ length samples

-- so it is of all feeds, and what was written stands for the batches of these turns
pub record AreTurned {S M : Type 0} (left_of : S → Option (List ℕ)) (faults_of : S → ℕ) (mark_of : S → M) (ring batch turns : ℕ) (streams : List StreamDoc) (feeds : List (FeedSource S)) (base held : Option (List ℕ)) (desk : DeskState) (lists : List (List Sample)) (inlets : List (InletView S)) : Type 0 where
  pub feed_count : length feeds ≡ length streams
  pub list_count : length lists ≡ length streams
  pub inlet_count : length inlets ≡ length streams
  pub written : StandsFor streams base held desk (first_turns ring batch lists turns) None
  pub next : (p : ℕ) (x : InletView S) → slice_get inlets p ≡ Some x → next_at desk p ≤ x.ring.pushes
  pub shapes : shapes_of desk ≡ map (λ s. s.shape) streams
  pub each : (p : ℕ) (stream : StreamDoc) (feed : FeedSource S) (samples : List Sample) (x : InletView S) → slice_get streams p ≡ Some stream → slice_get feeds p ≡ Some feed
      → slice_get lists p ≡ Some samples → slice_get inlets p ≡ Some x → IsTurned left_of faults_of mark_of ring batch turns stream feed samples x

-- every feed has ended
abbrev pub HaveEnded : {S : Type 0} → List (InletView S) → Type 0
HaveEnded {S = S} inlets = (p : ℕ) (x : InletView S) → slice_get inlets p ≡ Some x → (e : FeedEnd) × (x.end ≡ Some e)

abbrev pub end_or : Option FeedEnd → FeedEnd
end_or None = Whole
end_or (Some e) = e

-- what an inlet reports of its feed
abbrev pub report_in : {S : Type 0} → InletView S → FeedReport
report_in x = record { id = x.id; received = x.ring.pushes; kept = x.ring.pushes - x.drops; lost = x.drops; end = end_or x.end }
