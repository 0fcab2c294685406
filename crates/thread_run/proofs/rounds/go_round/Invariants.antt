use Rattle.std.proofs.Common.{◌≡◌, ℕ, List, map, Option, length}
use Rattle.recording_model.specs.declared.stream.StreamDoc.{StreamDoc}
use Rattle.recording_model.specs.Batch.{Batch}
use Rattle.thread_run.specs.Rounds.{AreDrawn, given_by, lanes_of}
use Rattle.thread_run.proofs.rounds.go_round.Given as goal

abbrev pub invariant-loop-place : goal.invariant-loop-place
invariant-loop-place g l = record {
  drawn : (streams : List StreamDoc) (base : Option (List ℕ)) (batches : List Batch) → AreDrawn l.batch streams base (g.K.Sink.held l.fn.writer.sink.now) l.fn.writer.room.desk batches (map given_by l.fn.heads)
      → (more : List Batch) × AreDrawn l.batch streams base (g.K.Sink.held l.writer.sink.now) l.writer.room.desk more (map given_by l.heads);
  count : length l.heads ≡ length l.fn.heads;
  lanes : lanes_of l.heads ≡ lanes_of l.fn.heads;
  same_reference : l.writer.sink.ghost_name ≡ l.fn.writer.sink.ghost_name;
  quiet : g.K.Sink.write_faults l.writer.sink.now ≡ g.K.Sink.write_faults l.fn.writer.sink.now;
  rest : g.K.Sink.rest l.writer.sink.now ≡ g.K.Sink.rest l.fn.writer.sink.now;
}
