use Rattle.std.proofs.Common.{◌≡◌, map, take}
use Rattle.std.specs.Prelude.{string_bytes}
use Rattle.record_call.specs.Lines.{feed_line}
use Rattle.record_call.proofs.lines.make_lines.Given as goal

abbrev pub invariant-loop-i : goal.invariant-loop-i
invariant-loop-i l = map string_bytes l.lines.items ≡ map feed_line (take l.i l.written.reports)
