use Rattle.std.proofs.Common.{◌≡◌, ◌++◌, length, map}
use Rattle.sample_values.specs.View.{value_of}
use Rattle.sample_values.proofs.texts.Texts.to_list.Given as goal

abbrev pub invariant-loop-value : goal.invariant-loop-value
invariant-loop-value l = map value_of l.list.items ++ l.rest ≡ l.self

abbrev pub decreases-loop-value : goal.decreases-loop-value
decreases-loop-value l = length l.rest
