-- What contracts see of a block and of a stock of blocks.
use Rattle.std.specs.Prelude.{ℕ, List}

-- how many bytes a block can hold, and those that it holds
pub record BlockValue : Type 0 where
  pub length : ℕ
  pub bytes : List ℕ

-- how many blocks are home, how many were made, and how many bytes each can hold
pub record StockValue : Type 0 where
  pub home : ℕ
  pub blocks : ℕ
  pub length : ℕ
