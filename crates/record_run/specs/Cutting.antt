-- What a pass of a turn that failed has written.
use Rattle.std.specs.Prelude.{◌≡◌, ℕ, List, ◌++◌, map, slice_get, Option, Some}
use Rattle.recording_model.specs.declared.stream.StreamDoc.{StreamDoc}
use Rattle.recording_model.specs.Batch.{Batch}
use Rattle.loss_model.specs.Loss.{entries_at}
use Rattle.record_writer.specs.Standing.{IsCut}
use Rattle.run_model.specs.Putting.{AreFirst}
use Rattle.run_model.specs.Rings.{ring_entry}
use Rattle.record_run.specs.Inlets.{InletView}

-- the writer failed at some batches: of each stream these hold first ones of what was written before and of what waited in its ring behind it
pub record IsCutQueues {S : Type 0} (streams : List StreamDoc) (base held : Option (List ℕ)) (inlets : List (InletView S)) (batches : List Batch) : Type 0 where
  pub some : List Batch
  pub cut : IsCut streams base held some
  pub each : (place : ℕ) (x : InletView S) → slice_get inlets place ≡ Some x → AreFirst (entries_at place some) (entries_at place batches ++ map ring_entry x.ring.queue)
