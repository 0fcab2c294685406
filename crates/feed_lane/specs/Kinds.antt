-- The two kinds of lanes, of numbers and of texts, each as contracts see it. This project's own.
use Rattle.std.specs.Prelude.{ℕ, ◌+◌, ◌*◌, ◌≤◌, List, map, Option, None, Some}
use Rattle.xdf_model.specs.declared.types.Shape.{Shape}
use Rattle.xdf_model.specs.Sample.{Sample, size_of}
use Rattle.ring_model.specs.Ring.{RingState}
use Rattle.thread_ring.specs.Ends.{TailView as TailOf, HeadView as HeadOf, LastView as LastOf}
use Rattle.sample_pool.specs.Block.{BlockValue}
use Rattle.sample_ring.specs.Seen.{sample_in, entry_in}
use Rattle.block_pool.specs.Ends.{GiverView, TakerView}
use Rattle.feed_lane.specs.declared.terms.FullBlocks.{FullBlocks}
use Rattle.feed_lane.specs.declared.terms.FittingSamples.{FittingSamples}
use Rattle.feed_lane.specs.Lanes.{TailView, HeadView, LastView}

-- the length of the longest text that a sample of numbers of a shape has: its stamp and its values
abbrev pub longest : Shape → ℕ
longest shape = 9 + shape.count * size_of shape.format

-- samples of this shape are of numbers, and no longer than a block may be
abbrev pub AreNumeric : Shape → Type 0
AreNumeric shape = (1 ≤ size_of shape.format) × (shape.count ≤ 4096)

-- the terms of a ring of blocks, and of one of samples
abbrev pub block_terms : Shape → Option FullBlocks
block_terms shape = Some (record { shape = shape; size = longest shape })

abbrev pub text_terms : Shape → Option FittingSamples
text_terms shape = Some (record { shape = shape })

-- the samples whose texts blocks hold
abbrev pub told_by : Shape → List BlockValue → List Sample
told_by shape blocks = map (λ b. sample_in shape b.bytes) blocks

-- a state of a ring with each block's sample in its place
abbrev pub told_state : Shape → RingState BlockValue → RingState Sample
told_state shape s = record {
  puts = told_by shape s.puts;
  queue = map (entry_in shape) s.queue;
  taken = map (entry_in shape) s.taken;
  dropped = map (entry_in shape) s.dropped;
  level = s.level;
}

-- the ends of a lane of numbers
abbrev pub block_tail : Shape → TailOf BlockValue FullBlocks → TakerView → TailView
block_tail shape tail taker = record {
  lane = record { ring = tail.ring; pool = Some taker.pool; capacity = tail.capacity; shape = shape };
  puts = told_by shape tail.puts;
  dropped = map (entry_in shape) tail.dropped;
}

abbrev pub block_head : Shape → HeadOf BlockValue FullBlocks → GiverView → HeadView
block_head shape head giver = record {
  lane = record { ring = head.ring; pool = Some giver.pool; capacity = head.capacity; shape = shape };
  taken = map (entry_in shape) head.taken;
}

abbrev pub block_last : Shape → LastOf BlockValue FullBlocks → LastView
block_last shape last = record { capacity = last.capacity; shape = shape; state = told_state shape last.state }

-- the ends of a lane of texts
abbrev pub text_tail : Shape → TailOf Sample FittingSamples → TailView
text_tail shape tail = record {
  lane = record { ring = tail.ring; pool = None; capacity = tail.capacity; shape = shape };
  puts = tail.puts;
  dropped = tail.dropped;
}

abbrev pub text_head : Shape → HeadOf Sample FittingSamples → HeadView
text_head shape head = record {
  lane = record { ring = head.ring; pool = None; capacity = head.capacity; shape = shape };
  taken = head.taken;
}

abbrev pub text_last : Shape → LastOf Sample FittingSamples → LastView
text_last shape last = record { capacity = last.capacity; shape = shape; state = last.state }
