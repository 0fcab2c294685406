use Rattle.std.proofs.Common.{length, ◌↔◌}
use Rattle.std.specs.List.{AllByRecursion}
use Rattle.xdf_model.specs.Sample.{FitsValue}
use Rattle.sample_values.proofs.fits.values_fit.Given as goal

abbrev pub invariant-loop-value : goal.invariant-loop-value
invariant-loop-value l = AllByRecursion (FitsValue l.size) l.rest ↔ AllByRecursion (FitsValue l.size) l.fn.values

abbrev pub decreases-loop-value : goal.decreases-loop-value
decreases-loop-value l = length l.rest
