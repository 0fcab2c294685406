-- A block that is put to the writer, told as the sample whose text it holds.
use Rattle.std.proofs.Common.{◌≡◌, ℕ, ◌+◌, ◌==◌, false, List, [], ◌∷◌, ◌++◌, map, Option, Some, Result, Ok, Err, sym, ap, subst, if◌then◌else◌}
use Rattle.std.specs.Prelude.{slice_get, OnErr}
use Rattle.xdf_model.specs.declared.types.Shape.{Shape}
use Rattle.xdf_model.specs.Sample.{Sample, FitsShape, least_sample_text}
use Rattle.ring_model.specs.declared.entry.Entry.{Entry as RingEntry}
use Rattle.recording_model.specs.declared.stream.StreamDoc.{StreamDoc}
use Rattle.recording_model.specs.Batch.{Batch}
use Rattle.record_writer.specs.declared.place.Place.{Place}
use Rattle.record_writer.specs.declared.fault.WriterFault.{WriterFault}
use Rattle.record_writer.specs.declared.fault.WriterFault.TheVariants as fault
use Rattle.record_writer.specs.Desk.{DeskState, next_at, shapes_of, IsFreeFor}
use Rattle.record_writer.specs.Standing.{StandsFor, IsCut, closed, with_entry}
use Rattle.sample_pool.specs.Block.{BlockValue}
use Rattle.sample_ring.specs.Seen.{sample_in, IsFull}
use Rattle.run_model.specs.Putting.{IsOnePut, IsCutAt}
use Rattle.run_model.proofs.Batches.{place_at, cut_with, cut_text}
use Rattle.feed_lane.specs.Kinds.{longest}

module _ (place position : ℕ) (shape : Shape) (b : BlockValue) (before after : DeskState) (held_before held : Option (List ℕ)) where
  pub block_put : slice_get (shapes_of before) place ≡ Some shape → IsFull shape (longest shape) b
      → ((streams : List StreamDoc) (base : Option (List ℕ)) (batches : List Batch) (current : Option Batch) (sample : Sample) (x : Place) → StandsFor streams base held_before before batches current
      → slice_get before.places place ≡ Some x → b.bytes ≡ least_sample_text x.shape sample → FitsShape x.shape sample → StandsFor streams base held after batches (Some (with_entry place current position sample)))
      → ((p : ℕ) → next_at after p ≡ (if p == place then position + 1 else next_at before p)) → shapes_of after ≡ shapes_of before → after.place ≡ place → after.broken ≡ false
      → IsOnePut place position (sample_in shape b.bytes) before after held_before held
  block_put is_shape full puts next shapes here whole =
      let x = place_at before.places place shape is_shape in
      let s = sample_in shape b.bytes in
      let L : Shape → Type 0 = λ t. b.bytes ≡ least_sample_text t s in
      let F : Shape → Type 0 = λ t. FitsShape t s in
      record {
        put = λ streams base batches current st. puts streams base batches current s x.0 st x.1 (subst L (sym x.2) full.1) (subst F (sym x.2) full.2.0);
        next = next;
        shapes = shapes;
        place_is = here;
        whole = whole;
      }

  pub block_cut : (taken now : List (RingEntry Sample)) → now ≡ taken ++ record { position = position; value = sample_in shape b.bytes } ∷ [] → IsFreeFor before place
      → slice_get (shapes_of before) place ≡ Some shape → IsFull shape (longest shape) b
      → ((streams : List StreamDoc) (base : Option (List ℕ)) (batches : List Batch) (current : Option Batch) (sample : Sample) (x : Place) → StandsFor streams base held_before before batches current
      → slice_get before.places place ≡ Some x → b.bytes ≡ least_sample_text x.shape sample → FitsShape x.shape sample → IsCut streams base held (closed batches (Some (with_entry place current position sample))))
      → (streams : List StreamDoc) (base : Option (List ℕ)) (batches : List Batch) (current : Option Batch) → StandsFor streams base held_before before batches current
      → (some : List Batch) × IsCut streams base held some × IsCutAt place taken now (closed batches current) some
  block_cut taken now one free is_shape full cuts streams base batches current st =
      let x = place_at before.places place shape is_shape in
      let s = sample_in shape b.bytes in
      let e : RingEntry Sample = record { position = position; value = s } in
      let L : Shape → Type 0 = λ t. b.bytes ≡ least_sample_text t s in
      let F : Shape → Type 0 = λ t. FitsShape t s in (
        closed batches (Some (with_entry place current position s)),
        cuts streams base batches current s x.0 st x.1 (subst L (sym x.2) full.1) (subst F (sym x.2) full.2.0),
        cut_with place e streams base held_before before batches current st free taken now one,
      )

-- a text that fits the shape fits the stream
pub text_fits : (places : List Place) (place : ℕ) (shape : Shape) (s : Sample) → slice_get (map (λ (x : Place). x.shape) places) place ≡ Some shape → FitsShape shape s
    → (x : Place) → slice_get places place ≡ Some x → FitsShape x.shape s
text_fits places place shape s is_shape fits x at =
    let y = place_at places place shape is_shape in
    let same : y.0 ≡ x = cc (y.1, at) in
    subst (λ (z : Place). FitsShape z.shape s) same (subst (λ (t : Shape). FitsShape t s) (sym y.2) fits)

-- a front of a recording's file is held where a put failed
pub text_cut : {R : Type 0} (place : ℕ) (e : RingEntry Sample) (taken now : List (RingEntry Sample)) (before : DeskState) (held_before held : Option (List ℕ)) (r : Result R WriterFault) → now ≡ taken ++ e ∷ [] → IsFreeFor before place
    → ((streams : List StreamDoc) (base : Option (List ℕ)) (batches : List Batch) (current : Option Batch) → StandsFor streams base held_before before batches current → r ≡ Err fault.WriteFault
    → IsCut streams base held (closed batches (Some (with_entry place current e.position e.value))))
    → (r ≡ Err fault.Memory → held ≡ held_before)
    → (streams : List StreamDoc) (base : Option (List ℕ)) (batches : List Batch) (current : Option Batch) → StandsFor streams base held_before before batches current
    → OnErr r ((some : List Batch) × IsCut streams base held some × IsCutAt place taken now (closed batches current) some)
text_cut place e taken now before held_before held (Ok v) one free cut memory streams base batches current st = tt
text_cut place e taken now before held_before held (Err f) one free cut memory streams base batches current st =
    cut_text place e taken now before held_before held f one free (λ ss b bs c at is. cut ss b bs c at (ap Err is)) (λ is. memory (ap Err is)) streams base batches current st
