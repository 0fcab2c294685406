use Rattle.std.proofs.Common.{◌≡◌, ◌++◌, map, take, drop}
use Rattle.std.specs.List.{list_any}
use Rattle.stream_check.specs.Kept.{rowed, takes}
use Rattle.stream_check.proofs.kept.take_row.Given as goal

abbrev pub invariant-loop-kept : goal.invariant-loop-kept
invariant-loop-kept l = record {
  kept : l.streams ≡ map (rowed l.row) (take l.kept-index l.fn.streams) ++ drop l.kept-index l.fn.streams;
  taken : l.taken ≡ list_any (takes l.row) (take l.kept-index l.fn.streams);
}
