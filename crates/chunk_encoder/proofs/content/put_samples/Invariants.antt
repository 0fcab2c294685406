use Rattle.std.proofs.Common.{◌≡◌, ◌++◌, length}
use Rattle.std.specs.List.{flat_map, AllByRecursion}
use Rattle.xdf_model.specs.Sample.{FitsShape, least_sample_text}
use Rattle.sample_values.specs.View.{KeepsFront}
use Rattle.chunk_encoder.proofs.content.put_samples.Given as goal

abbrev pub invariant-loop-sample : goal.invariant-loop-sample
invariant-loop-sample l = record {
  fits : AllByRecursion (FitsShape l.shape) l.rest;
  text : l.out.items ++ flat_map (least_sample_text l.shape) l.rest ≡ l.fn.out.items ++ flat_map (least_sample_text l.shape) l.samples;
  front : KeepsFront l.fn.out.items l.out.items;
}

abbrev pub decreases-loop-sample : goal.decreases-loop-sample
decreases-loop-sample l = length l.rest
