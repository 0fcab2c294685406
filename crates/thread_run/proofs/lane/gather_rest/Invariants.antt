use Rattle.std.proofs.Common.{◌≡◌}
use Rattle.ring_model.specs.Ring.{IsReached}
use Rattle.thread_run.specs.Lanes.{AreGathered, IsSameLane}
use Rattle.thread_run.proofs.lane.gather_rest.Given as goal

abbrev pub invariant-loop-count : goal.invariant-loop-count
invariant-loop-count g l = record {
  gathered : AreGathered l.place l.count l.fn.last.state.taken l.last.state.taken l.fn.writer.room.desk l.writer.room.desk (g.K.Sink.held l.fn.writer.sink.now) (g.K.Sink.held l.writer.sink.now);
  same : IsSameLane l.fn.last l.last;
  dropped : l.last.state.dropped ≡ l.fn.last.state.dropped;
  reached : IsReached l.last.capacity l.last.state;
  same_reference : l.writer.sink.ghost_name ≡ l.fn.writer.sink.ghost_name;
  quiet : g.K.Sink.write_faults l.writer.sink.now ≡ g.K.Sink.write_faults l.fn.writer.sink.now;
  rest : g.K.Sink.rest l.writer.sink.now ≡ g.K.Sink.rest l.fn.writer.sink.now;
}
