use Rattle.std.proofs.Common.{◌≡◌, ◌≤◌, ℕ, List, false, length, slice_get, Some, None}
use Rattle.xdf_model.specs.Sample.{Sample}
use Rattle.recording_model.specs.declared.stream.StreamDoc.{StreamDoc}
use Rattle.run_model.specs.declared.feed.FeedSource.{FeedSource}
use Rattle.record_run.specs.Inlets.{InletView}
use Rattle.record_run.specs.Opening.{AreTurnsFor}
use Rattle.record_run.specs.Turning.{AreTurned}
use Rattle.record_run.proofs.turns.take_turns.Given as goal

abbrev pub invariant-loop : goal.invariant-loop
invariant-loop g l = record {
  same_reference : l.writer.sink.ghost_name ≡ l.fn.writer.sink.ghost_name;
  turned : (ring : ℕ) (streams : List StreamDoc) (feeds : List (FeedSource g.row.S.Denot)) → AreTurnsFor ring l.batch streams feeds (record { inlets = l.fn.inlets; desk = l.fn.writer.room.desk; batch = l.batch })
      → (lists : List (List Sample)) × AreTurned g.S.Source.left g.S.Source.faults g.S.Source.mark ring l.batch l.counter streams feeds (g.K.Sink.held l.fn.writer.sink.now) (g.K.Sink.held l.writer.sink.now) l.writer.room.desk lists l.inlets;
  count : length l.inlets ≡ length l.fn.inlets;
  closed : l.writer.room.desk.count ≡ 0;
  whole : l.writer.room.desk.broken ≡ false;
  waits : 1 ≤ l.counter → (p : ℕ) × (x : InletView g.row.S.Denot) × (slice_get l.inlets p ≡ Some x) × (x.end ≡ None);
  quiet : g.K.Sink.write_faults l.writer.sink.now ≡ g.K.Sink.write_faults l.fn.writer.sink.now;
  rest : g.K.Sink.rest l.writer.sink.now ≡ g.K.Sink.rest l.fn.writer.sink.now;
}
