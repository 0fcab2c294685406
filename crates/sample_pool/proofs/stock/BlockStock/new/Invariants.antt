use Rattle.std.proofs.Common.{◌≡◌, ◌≤◌, ℕ, length, Some}
use Rattle.std.specs.Prelude.{vec_capacity, slice_get}
use Rattle.sample_pool.specs.Block.{BlockValue}
use Rattle.sample_pool.proofs.stock.BlockStock.new.Given as goal

abbrev pub invariant-making : goal.invariant-making
invariant-making l = record {
  room : l.blocks ≤ vec_capacity l.ready;
  made : length l.ready.items ≡ l.counter;
  same : (i : ℕ) (b : BlockValue) → slice_get l.ready.items i ≡ Some b → b.length ≡ l.length;
}
