-- What a tally counts.
use Rattle.std.specs.Prelude.{ℕ}

pub record Counts : Type 0 where
  pub kept : ℕ
  pub lost : ℕ
