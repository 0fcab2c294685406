-- What contracts see of the two ends of a pool. This project's own.
use Rattle.std.specs.Prelude.{ℕ}
use Rattle.atomic_table.specs.Seated.{TableId}
use Rattle.block_pool.specs.declared.rule.Knows.{Knows}

-- the end that gives: which pool it is of, how many bytes each block can hold, and how many blocks were given, those that were made among them
pub record GiverView : Type 0 where
  pub pool : TableId
  pub length : ℕ
  pub given : ℕ

-- the end that takes, with how many blocks were taken
pub record TakerView : Type 0 where
  pub pool : TableId
  pub length : ℕ
  pub taken : ℕ

-- the view of an end, by what its pass knows
abbrev pub giver_view : TableId → Knows → GiverView
giver_view pool v = record { pool = pool; length = v.size; given = v.given }

abbrev pub taker_view : TableId → Knows → TakerView
taker_view pool v = record { pool = pool; length = v.size; taken = v.taken }
