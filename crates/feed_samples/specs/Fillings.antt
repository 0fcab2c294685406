-- What is told where a sample goes into one that is lent, as it is told where a sample is given. This project's own.
use Rattle.xdf_model.specs.Sample.{Sample as SampleValue}
use Rattle.feed_samples.specs.declared.step.FeedStep.{FeedStep}
use Rattle.feed_samples.specs.declared.step.FeedStep.TheVariants.{Sample, End, Memory}
use Rattle.feed_samples.specs.declared.step.FillStep.{FillStep}
use Rattle.feed_samples.specs.declared.step.FillStep.TheVariants as fill
use Rattle.feed_samples.specs.declared.read.SampleRead.{SampleRead}
use Rattle.feed_samples.specs.declared.read.SampleRead.TheVariants as read
use Rattle.feed_samples.specs.declared.read.SampleFill.{SampleFill}
use Rattle.feed_samples.specs.declared.read.SampleFill.TheVariants as place

-- the answer of a reader, with the sample that stands in the one that was lent
abbrev pub filled : SampleValue → FillStep → FeedStep
filled s fill.Filled = Sample s
filled s (fill.End e) = End e
filled s fill.Memory = Memory

-- what stands at the front of some bytes, with the sample that stands in the one that was lent
abbrev pub read_of : SampleValue → SampleFill → SampleRead
read_of s (place.Whole used) = read.Whole s used
read_of s place.Short = read.Short
read_of s (place.BadTag at byte) = read.BadTag at byte
read_of s (place.BadWidth at byte) = read.BadWidth at byte
read_of s (place.TooLong at) = read.TooLong at
read_of s place.Memory = read.Memory
