use Rattle.std.proofs.Common.{◌≡◌, ℕ, ◌<◌, List, [], Option, length, map, slice_get, Some}
use Rattle.recording_model.specs.declared.stream.StreamDoc.{StreamDoc}
use Rattle.recording_model.specs.Batch.{Batch}
use Rattle.thread_run.specs.declared.settle.Joined.{Joined}
use Rattle.thread_run.specs.Rounds.{AreDrawn}
use Rattle.thread_run.specs.Settled.{IsSameFeed, given_in}
use Rattle.thread_run.proofs.settle.empty_all.Given as goal

abbrev pub invariant-loop-place : goal.invariant-loop-place
invariant-loop-place g l = record {
  drawn : (streams : List StreamDoc) (base : Option (List ℕ)) (batches : List Batch) → AreDrawn l.batch streams base (g.K.Sink.held l.fn.writer.sink.now) l.fn.writer.room.desk batches (map given_in l.fn.joined)
      → (more : List Batch) × AreDrawn l.batch streams base (g.K.Sink.held l.writer.sink.now) l.writer.room.desk more (map given_in l.joined);
  count : length l.joined ≡ length l.fn.joined;
  same : (p : ℕ) (before after : Joined g.row.S.Denot) → slice_get l.fn.joined p ≡ Some before → slice_get l.joined p ≡ Some after → IsSameFeed before after × (after.lane.last.state.dropped ≡ before.lane.last.state.dropped);
  empty : (p : ℕ) (after : Joined g.row.S.Denot) → p < l.place → slice_get l.joined p ≡ Some after → after.lane.last.state.queue ≡ [];
  same_reference : l.writer.sink.ghost_name ≡ l.fn.writer.sink.ghost_name;
  quiet : g.K.Sink.write_faults l.writer.sink.now ≡ g.K.Sink.write_faults l.fn.writer.sink.now;
  rest : g.K.Sink.rest l.writer.sink.now ≡ g.K.Sink.rest l.fn.writer.sink.now;
}
