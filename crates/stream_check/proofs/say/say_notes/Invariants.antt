use Rattle.std.proofs.Common.{◌≡◌, ◌≤◌, length, map, take}
use Rattle.std.specs.Io.KnownBytes.{Appends}
use Rattle.report_model.specs.Check.{note_line}
use Rattle.report_model.specs.Notes.{notes_in}
use Rattle.report_model.specs.Shown.{printed_lines}
use Rattle.stream_check.proofs.say.say_notes.Given as goal

abbrev pub invariant-loop-row : goal.invariant-loop-row
invariant-loop-row g l = record {
  said : Appends (g.L.Lines.printed l.initial.lines) (g.L.Lines.printed l.lines) (printed_lines (map note_line (notes_in (take l.row-index l.table))));
  counted : l.count ≡ length (notes_in (take l.row-index l.table));
  few : l.count ≤ l.row-index;
  quiet : g.L.Lines.print_faults l.lines ≡ g.L.Lines.print_faults l.initial.lines;
  rest : g.L.Lines.rest l.lines ≡ g.L.Lines.rest l.initial.lines;
}
