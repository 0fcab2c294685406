-- A ring of blocks, seen as a ring of the samples whose texts they hold.
use Rattle.std.specs.Prelude.{◌≡◌, ℕ, ◌+◌, ◌-◌, List, length, map}
use Rattle.xdf_model.specs.declared.types.Shape.{Shape}
use Rattle.xdf_model.specs.Sample.{Sample, least_sample_text, sample_at}
use Rattle.sample_values.specs.Raw.{found_in}
use Rattle.ring_model.specs.declared.entry.Entry.{Entry}
use Rattle.inlet_ring.specs.Lone.{Lone}
use Rattle.sample_pool.specs.Block.{BlockValue, StockValue}
use Rattle.sample_pool.specs.Fills.{FitsGiven}

-- the sample that a text tells, and an empty one where it tells none
abbrev pub sample_in : Shape → List ℕ → Sample
sample_in shape b = found_in (sample_at shape b)

-- the sample that a block's text tells, at the block's position
abbrev pub entry_in : Shape → Entry BlockValue → Entry Sample
entry_in shape e = record { position = e.position; value = sample_in shape e.value.bytes }

-- the block has this length, and holds the text of a sample of the shape
abbrev pub IsFull : Shape → ℕ → BlockValue → Type 0
IsFull shape size b = (b.length ≡ size) × (b.bytes ≡ least_sample_text shape (sample_in shape b.bytes)) × FitsGiven shape (sample_in shape b.bytes)

-- the ring of samples; the shape; how long its blocks are; and how many of them are lent
pub record RingSeen : Type 0 where
  pub ring : Lone Sample
  pub shape : Shape
  pub size : ℕ
  pub lent : ℕ

-- the ring with each block's sample in its place
abbrev pub mapped : Shape → Lone BlockValue → Lone Sample
mapped shape ring = record { queue = map (entry_in shape) ring.queue; pushes = ring.pushes; capacity = ring.capacity }

-- a block is lent that is neither home nor in the ring
abbrev pub seen : Shape → Lone BlockValue → StockValue → RingSeen
seen shape ring stock = record {
  ring = mapped shape ring;
  shape = shape;
  size = stock.length;
  lent = stock.blocks - (stock.home + length ring.queue);
}
