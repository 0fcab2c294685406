use Rattle.std.proofs.Common.{◌≡◌, ◌+◌, length}
use Rattle.std.specs.List.{flat_map, AllByRecursion}
use Rattle.xdf_model.specs.Sample.{FitsValue, least_value_text}
use Rattle.sample_values.proofs.size.texts_size.Given as goal

abbrev pub invariant-loop-value : goal.invariant-loop-value
invariant-loop-value l = record {
  fits : AllByRecursion (FitsValue 0) l.rest;
  sum : l.size + length (flat_map (least_value_text 0) l.rest) ≡ length (flat_map (least_value_text 0) l.fn.values);
}

abbrev pub decreases-loop-value : goal.decreases-loop-value
decreases-loop-value l = length l.rest
