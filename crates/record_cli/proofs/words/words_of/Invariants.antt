use Rattle.std.proofs.Common.{◌≡◌, ◌-◌, ◌≤◌, drop, length, map, string_bytes, take}
use Rattle.record_cli.proofs.words.words_of.Given as goal

abbrev pub invariant-loop-i : goal.invariant-loop-i
invariant-loop-i l = record {
  past : 1 ≤ l.i;
  words : l.words.items ≡ drop 1 (map string_bytes (take l.i l.args));
}

abbrev pub decreases-loop-i : goal.decreases-loop-i
decreases-loop-i l = length l.args - l.i
