-- A Samples chunk that is being made.
use Rattle.std.specs.Prelude.{ℕ, List}

-- the texts of its samples, and how many bytes these may take
pub record ChunkRoomState : Type 0 where
  pub texts : List ℕ
  pub room : ℕ
