use Rattle.std.proofs.Common.{◌≡◌, ◌++◌, length}
use Rattle.std.specs.List.{flat_map, AllByRecursion}
use Rattle.xdf_model.specs.Sample.{FitsValue, least_value_text}
use Rattle.sample_values.specs.View.{KeepsFront}
use Rattle.sample_values.proofs.put.put_values.Given as goal

abbrev pub invariant-loop-value : goal.invariant-loop-value
invariant-loop-value l = record {
  fits : AllByRecursion (FitsValue l.size) l.rest;
  text : l.out.items ++ flat_map (least_value_text l.size) l.rest ≡ l.fn.out.items ++ flat_map (least_value_text l.size) l.fn.values;
  front : KeepsFront l.fn.out.items l.out.items;
}

abbrev pub decreases-loop-value : goal.decreases-loop-value
decreases-loop-value l = length l.rest
