-- A block that a reader filled.
use Rattle.std.proofs.Common.{◌≡◌, ◌≤◌, refl, ap, ◌∙◌, arith}
use Rattle.xdf_model.specs.declared.types.Shape.{Shape}
use Rattle.xdf_model.specs.Sample.{Sample, size_of}
use Rattle.feed_samples.specs.declared.step.FeedStep.{FeedStep}
use Rattle.feed_samples.specs.declared.step.FeedStep.TheVariants as step
use Rattle.feed_samples.specs.declared.block.BlockStep.TheVariants as block
use Rattle.feed_samples.specs.Blocks.{Tells}
use Rattle.feed_samples.specs.Inlet.{FitsGiven}
use Rattle.sample_pool.specs.Block.{BlockValue}
use Rattle.sample_ring.specs.Seen.{IsFull, sample_in}
use Rattle.sample_ring.proofs.Telling.{is_full_of, text_tells, numbers_short}

-- the sample whose text the block got
pub record IsFilledBy (shape : Shape) (b : BlockValue) (answer : FeedStep) : Type 0 where
  pub sample : Sample
  pub is : answer ≡ step.Sample sample
  pub full : IsFull shape b.length b
  pub tells : sample_in shape b.bytes ≡ sample

pub filled_by : (shape : Shape) (b : BlockValue) (answer : FeedStep) → 1 ≤ size_of shape.format → shape.count ≤ 4096 → Tells shape b.bytes answer block.Filled → FitsGiven shape answer → IsFilledBy shape b answer
filled_by shape b (step.Sample s) some few tells fits = record {
  sample = s;
  is = refl;
  full = is_full_of shape s b some (omega (arith, few)) tells fits;
  tells = ap (sample_in shape) tells ∙ text_tells shape s fits.0 (numbers_short shape s some (omega (arith, few)) fits.0);
}
filled_by shape b (step.End e) some few tells fits = absurd tells
filled_by shape b step.Memory some few tells fits = absurd tells
