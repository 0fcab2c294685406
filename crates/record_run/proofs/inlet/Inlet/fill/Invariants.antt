use Rattle.std.proofs.Common.{◌≡◌, [], None}
use Rattle.record_run.specs.Inlets.{InletView, IsKept}
use Rattle.record_run.proofs.Filling.{Filling}
use Rattle.record_run.proofs.inlet.Inlet.fill.Given as goal

abbrev pub invariant-loop : goal.invariant-loop
invariant-loop g l =
    let x = l.self-inside in
    let now : InletView g.row.S.Denot = record { id = x.id; source = x.reader.source; inlet = x.reader.inlet; end = x.end; ring = x.ring.lone; drops = x.drops } in
    record {
      kept : IsKept x.reader.inlet x.ring.lone x.drops;
      shape : x.ring.shape ≡ x.reader.inlet.shape;
      same : x.reader.inlet.shape ≡ l.fn.self.inlet.shape;
      goes : x.end ≡ None;
      filling : l.fn.self.ring.queue ≡ [] → Filling g.S.Source.left g.S.Source.faults g.S.Source.mark l.fn.self now l.counter;
    }
