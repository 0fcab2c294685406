-- The lines of a reply (LSL, reply to `streamfeed`).
use Rattle.std.specs.Prelude.{ℕ, List, [], ◌∷◌, nat_eq, if◌then◌else◌}
use Rattle.std.specs.List.{starts_with}

-- complete lines without their ends, and then the bytes of a line that isn't complete (this project's own)
pub data Lines : Type 0 where
  rest : List ℕ → Lines
  line : List ℕ → Lines → Lines

-- CR LF, with which a line ends (LSL, reply to `streamfeed`)
abbrev pub line_end : List ℕ
line_end = 13 ∷ 10 ∷ []

-- one more byte at the front of the first line (this project's own)
abbrev pub with_byte : ℕ → Lines → Lines
with_byte x (rest b) = rest (x ∷ b)
with_byte x (line text more) = line (x ∷ text) more

-- each line ends at its first CR LF (LSL, reply to `streamfeed`); a lone CR or LF is a byte of the line (this project's own)
unfoldable pub lines_in : List ℕ → Lines
lines_in [] = rest []
lines_in (x ∷ []) = rest (x ∷ [])
lines_in (x ∷ y ∷ b) =
    if starts_with nat_eq (x ∷ y ∷ b) line_end then line [] (lines_in b) else with_byte x (lines_in (y ∷ b))
