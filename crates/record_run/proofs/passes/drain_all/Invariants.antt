use Rattle.std.proofs.Common.{◌≡◌, ℕ, ◌<◌, ◌≤◌, List, ◌++◌, false, length, take, slice_get, Some, None, Option}
use Rattle.recording_model.specs.declared.stream.StreamDoc.{StreamDoc}
use Rattle.recording_model.specs.Batch.{Batch}
use Rattle.record_writer.specs.Desk.{next_at, shapes_of}
use Rattle.record_writer.specs.Standing.{StandsFor}
use Rattle.record_run.specs.Inlets.{InletView, IsDrained, waiting_batches}
use Rattle.record_run.proofs.passes.drain_all.Given as goal

abbrev pub invariant-loop-place : goal.invariant-loop-place
invariant-loop-place g l = record {
  same_reference : l.writer.sink.ghost_name ≡ l.fn.writer.sink.ghost_name;
  count : length l.inlets ≡ length l.fn.inlets;
  done : (p : ℕ) (x y : InletView g.row.S.Denot) → p < l.place → slice_get l.fn.inlets p ≡ Some x → slice_get l.inlets p ≡ Some y → IsDrained x y;
  todo : (p : ℕ) → l.place ≤ p → slice_get l.inlets p ≡ slice_get l.fn.inlets p;
  closed : l.writer.room.desk.count ≡ 0;
  whole : l.writer.room.desk.broken ≡ false;
  shapes : shapes_of l.writer.room.desk ≡ shapes_of l.fn.writer.room.desk;
  put : (streams : List StreamDoc) (base : Option (List ℕ)) (batches : List Batch)
      → StandsFor streams base (g.K.Sink.held l.fn.writer.sink.now) l.fn.writer.room.desk batches None
      → StandsFor streams base (g.K.Sink.held l.writer.sink.now) l.writer.room.desk (batches ++ waiting_batches 0 (take l.place l.fn.inlets)) None;
  next : (p : ℕ) (x : InletView g.row.S.Denot) → p < l.place → slice_get l.fn.inlets p ≡ Some x → next_at l.writer.room.desk p ≤ x.ring.pushes;
  low : (p : ℕ) → l.place ≤ p → next_at l.writer.room.desk p ≡ next_at l.fn.writer.room.desk p;
  quiet : g.K.Sink.write_faults l.writer.sink.now ≡ g.K.Sink.write_faults l.fn.writer.sink.now;
  rest : g.K.Sink.rest l.writer.sink.now ≡ g.K.Sink.rest l.fn.writer.sink.now;
}
