use Rattle.std.proofs.Common.{◌≡◌, take, map}
use Rattle.std.specs.Prelude.{string_bytes}
use Rattle.std.specs.Io.KnownBytes.{Appends}
use Rattle.report_model.specs.Shown.{printed_lines}
use Rattle.record_call.proofs.say.say_lines.Given as goal

abbrev pub invariant-loop-line : goal.invariant-loop-line
invariant-loop-line g l = record {
  said : Appends (g.D.Lines.printed l.initial.dock) (g.D.Lines.printed l.dock) (printed_lines (take l.line-index (map string_bytes l.lines)));
  quiet : g.D.Lines.print_faults l.dock ≡ g.D.Lines.print_faults l.initial.dock;
  rest : g.D.Lines.rest l.dock ≡ g.D.Lines.rest l.initial.dock;
}
