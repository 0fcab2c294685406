-- The words of the command line. This project's own.
use Rattle.std.specs.Prelude.{Bool, false, List, [], ◌∷◌, ℕ, codes}
use Rattle.std.specs.Str.{bytes_eq}

-- the first word is `record`
abbrev pub starts_record : List (List ℕ) → Bool
starts_record [] = false
starts_record (command ∷ words) = bytes_eq command (codes "record")
