-- The calls of one kind, of which some fail.
use Rattle.std.specs.Prelude.{ℕ, ◌+◌, ◌-◌, ◌^◌, min, Bool, ◌==◌, List}
use Rattle.std.specs.List.{list_any}

-- how many were done, the numbers of those that are to fail, and how many failed
pub record CallsState : Type 0 where
  pub done : ℕ
  pub failing : List ℕ
  pub faults : ℕ

-- no call was done yet
abbrev pub calls_of : List ℕ → CallsState
calls_of failing = record { done = 0; failing = failing; faults = 0 }

-- the number of the next call, which stands still at its end
abbrev pub next_call : CallsState → ℕ
next_call c = min (c.done + 1) (2 ^ 64 - 1)

-- whether the next call is to fail
abbrev pub fails_next : CallsState → Bool
fails_next c = list_any (λ n. n == next_call c) c.failing

-- one more call was done
abbrev pub begun : CallsState → CallsState
begun c = record c { done = next_call c }

-- one more call failed
abbrev pub failed : CallsState → CallsState
failed c = record c { faults = min (c.faults + 1) (2 ^ 64 - 1) }
