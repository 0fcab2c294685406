use Rattle.std.proofs.Common.{◌≡◌, ◌≤◌, ◌*◌, length, map, take}
use Rattle.std.specs.Io.KnownBytes.{Appends}
use Rattle.report_model.specs.Check.{note_line}
use Rattle.report_model.specs.Shown.{printed_lines}
use Rattle.stream_check.specs.Telling.{kept_notes}
use Rattle.stream_check.proofs.last.say_streams.Given as goal

abbrev pub invariant-loop-kept : goal.invariant-loop-kept
invariant-loop-kept g l = record {
  said : Appends (g.L.Lines.printed l.initial.lines) (g.L.Lines.printed l.lines) (printed_lines (map note_line (kept_notes l.ledger (take l.kept-index l.streams))));
  counted : l.count ≡ length (kept_notes l.ledger (take l.kept-index l.streams));
  few : l.count ≤ 2 * l.kept-index;
  quiet : g.L.Lines.print_faults l.lines ≡ g.L.Lines.print_faults l.initial.lines;
  rest : g.L.Lines.rest l.lines ≡ g.L.Lines.rest l.initial.lines;
}
