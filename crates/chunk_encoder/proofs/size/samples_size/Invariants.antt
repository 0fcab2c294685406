use Rattle.std.proofs.Common.{◌≡◌, ◌+◌, length}
use Rattle.std.specs.List.{flat_map, AllByRecursion}
use Rattle.xdf_model.specs.Sample.{FitsShape, least_sample_text}
use Rattle.chunk_encoder.proofs.size.samples_size.Given as goal

abbrev pub invariant-loop-sample : goal.invariant-loop-sample
invariant-loop-sample l = record {
  fits : AllByRecursion (FitsShape l.shape) l.rest;
  sum : l.size + length (flat_map (least_sample_text l.shape) l.rest) ≡ length (flat_map (least_sample_text l.shape) l.samples);
}

abbrev pub decreases-loop-sample : goal.decreases-loop-sample
decreases-loop-sample l = length l.rest
