-- What is told by blocks, as readers of samples tell it.
use Rattle.std.specs.Prelude.{◌≡◌, ℕ, List, ⊤}
use Rattle.reading_model.specs.Reading.{Reading, going, done}
use Rattle.xdf_model.specs.declared.types.Shape.{Shape}
use Rattle.xdf_model.specs.Sample.{Sample as SampleValue, least_sample_text}
use Rattle.inlet_model.specs.declared.end.FeedEnd.{FeedEnd}
use Rattle.inlet_model.specs.Inlet.{FeedState}
use Rattle.feed_samples.specs.declared.step.FeedStep.{FeedStep}
use Rattle.feed_samples.specs.declared.step.FeedStep.TheVariants.{Sample, End, Memory}
use Rattle.feed_samples.specs.declared.block.BlockStep.{BlockStep}
use Rattle.feed_samples.specs.declared.block.BlockStep.TheVariants as block
use Rattle.feed_samples.specs.declared.block.InnerBlock.{InnerBlock}
use Rattle.feed_samples.specs.declared.block.InnerBlock.TheVariants as inner
use Rattle.feed_samples.specs.Inlet.{InletState, FitsGiven}
use Rattle.feed_samples.specs.Kept.{DoesAnswer, Does}

-- the answer is this step, whose sample stands in the block as its text in a file
abbrev pub Tells : Shape → List ℕ → FeedStep → BlockStep → Type 0
Tells shape text (Sample s) block.Filled = text ≡ least_sample_text shape s
Tells shape text (Sample s) (block.End e) = ⊥
Tells shape text (End e) block.Filled = ⊥
Tells shape text (End e) (block.End f) = e ≡ f
Tells shape text Memory block.Filled = ⊥
Tells shape text Memory (block.End e) = ⊥

-- what is done where the bytes that were taken may give a sample that stands in the block
abbrev pub DoesBlock : InletState → InletState → List ℕ → InnerBlock → Type 0
DoesBlock old new text inner.Filled = (s : SampleValue) × (text ≡ least_sample_text old.shape s) × DoesAnswer old new (Sample s) × FitsGiven old.shape (Sample s)
DoesBlock old new text (inner.Quiet q) = Does old new q

-- the end that was answered is answered again
abbrev pub EndsAgain : Reading FeedState FeedEnd → BlockStep → Type 0
EndsAgain (done e) step = step ≡ block.End e
EndsAgain (going s rest room) step = ⊤
