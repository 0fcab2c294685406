use Rattle.std.proofs.Common.{◌≡◌}
use Rattle.thread_run.specs.Lanes.{AreGathered}
use Rattle.thread_run.proofs.lane.gather.Given as goal

abbrev pub invariant-loop-count : goal.invariant-loop-count
invariant-loop-count g l = record {
  gathered : AreGathered l.place l.count l.fn.head.taken l.head.taken l.fn.writer.room.desk l.writer.room.desk (g.K.Sink.held l.fn.writer.sink.now) (g.K.Sink.held l.writer.sink.now);
  lane : l.head.lane ≡ l.fn.head.lane;
  same_reference : l.writer.sink.ghost_name ≡ l.fn.writer.sink.ghost_name;
  quiet : g.K.Sink.write_faults l.writer.sink.now ≡ g.K.Sink.write_faults l.fn.writer.sink.now;
  rest : g.K.Sink.rest l.writer.sink.now ≡ g.K.Sink.rest l.fn.writer.sink.now;
}
