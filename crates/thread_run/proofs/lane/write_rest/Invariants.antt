use Rattle.std.proofs.Common.{◌≡◌}
use Rattle.ring_model.specs.Ring.{IsReached}
use Rattle.thread_run.specs.Lanes.{IsSameLane, AreWritten, Counts}
use Rattle.thread_run.proofs.lane.write_rest.Given as goal

abbrev pub invariant-loop : goal.invariant-loop
invariant-loop g l = record {
  written : AreWritten l.batch l.place l.fn.lane.last.state.taken l.lane.last.state.taken l.fn.writer.room.desk l.writer.room.desk (g.K.Sink.held l.fn.writer.sink.now) (g.K.Sink.held l.writer.sink.now);
  same : IsSameLane l.fn.lane.last l.lane.last;
  dropped : l.lane.last.state.dropped ≡ l.fn.lane.last.state.dropped;
  reached : IsReached l.lane.last.capacity l.lane.last.state;
  counted : Counts l.lane.kept l.lane.last.state.taken;
  same_reference : l.writer.sink.ghost_name ≡ l.fn.writer.sink.ghost_name;
  quiet : g.K.Sink.write_faults l.writer.sink.now ≡ g.K.Sink.write_faults l.fn.writer.sink.now;
  rest : g.K.Sink.rest l.writer.sink.now ≡ g.K.Sink.rest l.fn.writer.sink.now;
}
