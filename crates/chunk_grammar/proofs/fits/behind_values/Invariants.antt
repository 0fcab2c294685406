use Rattle.std.proofs.Common.{◌≡◌, ◌+◌, length}
use Rattle.std.specs.List.{flat_map, AllByRecursion}
use Rattle.xdf_model.specs.Sample.{FitsValue, least_value_text}
use Rattle.chunk_grammar.proofs.fits.behind_values.Given as goal

abbrev pub invariant-loop-value : goal.invariant-loop-value
invariant-loop-value l = record {
  fits : AllByRecursion (FitsValue l.size) l.rest;
  room : l.left + length (flat_map (least_value_text l.size) l.fn.values) ≡ l.room + length (flat_map (least_value_text l.size) l.rest);
}

abbrev pub decreases-loop-value : goal.decreases-loop-value
decreases-loop-value l = length l.rest
