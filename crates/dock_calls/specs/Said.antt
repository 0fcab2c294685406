-- How the line of a fault is said. This project's own.
use Rattle.std.specs.Prelude.{◌≡◌, ℕ, Bool, ◌==◌, ◌||◌, ◌⊎◌, List, Option}
use Rattle.std.specs.Io.KnownBytes.{Appends}
use Rattle.rec_base.specs.Causes.{Rose}
use Rattle.rec_base.specs.Known.{AppendsFront, printed_line}
use Rattle.report_model.specs.Shown.{printed_lines}

-- the numbers of the usages
abbrev pub is_usage : ℕ → Bool
is_usage n = n == 1 || n == 2 || n == 3 || n == 4 || n == 5

-- the line of a fault was said, in full unless it failed
pub record SaysFault (printed printed' : Option (List ℕ)) (before now : ℕ) (line : List ℕ) : Type 0 where
  pub said : (Appends printed printed' (printed_line line) × (now ≡ before)) ⊎ (AppendsFront printed printed' (printed_line line) × Rose before now)

-- these lines were said in full, and then the line of a fault
pub record SaysBehind (printed printed' : Option (List ℕ)) (before now : ℕ) (lines : List (List ℕ)) (line : List ℕ) : Type 0 where
  pub between : Option (List ℕ)
  pub lines_said : Appends printed between (printed_lines lines)
  pub fault : SaysFault between printed' before now line
