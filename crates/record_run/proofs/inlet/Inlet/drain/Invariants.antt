use Rattle.std.proofs.Common.{◌≡◌, length}
use Rattle.record_run.specs.Inlets.{InletView, IsKept}
use Rattle.record_run.proofs.Draining.{Draining}
use Rattle.record_run.proofs.inlet.Inlet.drain.Given as goal

abbrev pub invariant-entries : goal.invariant-entries
invariant-entries g l =
    let x = l.self-inside in
    let now : InletView g.row.S.Denot = record { id = x.id; source = x.reader.source; inlet = x.reader.inlet; end = x.end; ring = x.ring.lone; drops = x.drops } in
    record {
      kept : IsKept x.reader.inlet x.ring.lone x.drops;
      own : x.ring.shape ≡ l.fn.self.inlet.shape;
      reads : x.ring.shape ≡ x.reader.inlet.shape;
      draining : Draining l.place l.fn.self now l.fn.writer.room.desk l.writer.room.desk (g.K.Sink.held l.fn.writer.sink.now) (g.K.Sink.held l.writer.sink.now);
      same_reference : l.writer.sink.ghost_name ≡ l.fn.writer.sink.ghost_name;
      quiet : g.K.Sink.write_faults l.writer.sink.now ≡ g.K.Sink.write_faults l.fn.writer.sink.now;
      rest : g.K.Sink.rest l.writer.sink.now ≡ g.K.Sink.rest l.fn.writer.sink.now;
    }

abbrev pub decreases-entries : goal.decreases-entries
decreases-entries g l = length l.self-inside.ring.lone.queue
