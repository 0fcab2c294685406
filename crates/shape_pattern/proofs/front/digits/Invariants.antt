use Rattle.std.proofs.Common.{◌≡◌, ◌+◌, drop, take, length}
use Rattle.std.specs.Str.Parse.{AllDigits}
use Rattle.xdf_model.specs.Shape.{digits_front}
use Rattle.shape_pattern.proofs.front.digits.Given as goal

abbrev pub invariant-loop-i : goal.invariant-loop-i
invariant-loop-i l = record {
  count : length (digits_front l.text) ≡ l.i + length (digits_front (drop l.i l.text));
  digits : AllDigits 10 (take l.i l.text);
}
