-- Tables whose first row that holds decides. This project's own.
use Rattle.std.specs.Prelude.{Bool, List, [], ◌∷◌, Option, Some, None, if◌then◌else◌}

-- what stands in the first row whose condition holds
abbrev pub first_that_holds : {A : Type 0} → List (Bool × A) → Option A
first_that_holds [] = None
first_that_holds (row ∷ rows) = if row.0 then Some row.1 else first_that_holds rows
