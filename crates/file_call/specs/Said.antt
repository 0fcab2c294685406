-- What is said before the line of a fault. This project's own.
use Rattle.std.specs.Prelude.{◌≡◌, ℕ, List, ◌++◌, Option}
use Rattle.dock_calls.specs.Said.{SaysBehind}

-- some of the first of these lines were said, each whole, and then the line of a fault
abbrev pub SaysSomeBehind : Option (List ℕ) → Option (List ℕ) → ℕ → ℕ → List (List ℕ) → List ℕ → Type 0
SaysSomeBehind printed printed' before now lines line =
    (said : List (List ℕ)) × (rest : List (List ℕ)) × (lines ≡ said ++ rest) × SaysBehind printed printed' before now said line
