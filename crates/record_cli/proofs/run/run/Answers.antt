use Rattle.record_cli.specs.Shown.{Shown}
use Rattle.record_cli.proofs.run.run.Goals as goal

pub returns : goal.returns
returns g c =
    let mid = c.answer-status.new.dock in
    let answered : Shown _ = record { contents = g.D.Dock.contents mid; marks = g.D.Dock.marks mid; asked = g.D.Dock.asked mid; target = g.D.Dock.target mid; held = g.D.Sink.held mid; printed = g.D.Lines.printed mid; opens = g.D.Dock.open_faults mid; writes = g.D.Sink.write_faults mid; says = g.D.Lines.print_faults mid } in
    (answered, c.answer-status.result, c.answer-status.ensures, c.settle.ensures)
