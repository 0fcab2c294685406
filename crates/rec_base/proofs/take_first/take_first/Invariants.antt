use Rattle.std.proofs.Common.{◌≡◌, ◌++◌, drop, take}
use Rattle.rec_base.specs.Files.{first_at, without_first}
use Rattle.rec_base.proofs.take_first.take_first.Given as goal

abbrev pub invariant-loop-i : goal.invariant-loop-i
invariant-loop-i l = record {
  first : first_at l.files.items l.name ≡ first_at (drop l.i l.files.items) l.name;
  others : without_first l.files.items l.name ≡ take l.i l.files.items ++ without_first (drop l.i l.files.items) l.name;
  same : l.files.items ≡ l.initial.files.items;
}
