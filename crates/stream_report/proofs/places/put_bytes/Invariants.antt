use Rattle.std.proofs.Common.{◌≡◌, ◌*◌, length, take}
use Rattle.std.specs.List.{flat_map}
use Rattle.report_model.specs.Lines.{hex_digits}
use Rattle.stream_report.proofs.places.put_bytes.Given as goal

abbrev pub invariant-loop-i : goal.invariant-loop-i
invariant-loop-i l = record {
  room : length l.out ≡ 2 * length l.bytes;
  digits : take (2 * l.i) l.out ≡ flat_map (hex_digits 2) (take l.i l.bytes);
}
