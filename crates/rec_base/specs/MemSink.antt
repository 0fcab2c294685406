-- A sink in memory that grows, as contracts see it.
use Rattle.std.specs.Prelude.{ℕ, List}

-- the bytes written, and how many writes failed
pub record SinkState : Type 0 where
  pub held : List ℕ
  pub faults : ℕ
