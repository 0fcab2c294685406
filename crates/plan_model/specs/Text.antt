-- The lines of a text, and the words of a line. This project's own.
use Rattle.std.specs.Prelude.{ℕ, ◌-◌, ◌==◌, ◌||◌, Bool, not, List, [], ◌∷◌, length, take, map, nat_eq, nat_lt, if◌then◌else◌, codes}
use Rattle.std.specs.List.{slice_split, filter, list_all, starts_with, ends_with, enumerate_from}

-- a line without the carriage return at its end, where there is one
unfoldable pub without_return : List ℕ → List ℕ
without_return line = if ends_with nat_eq line (13 ∷ []) then take (length line - 1) line else line

-- what stands between the line feeds
abbrev pub text_lines : List ℕ → List (List ℕ)
text_lines text = map without_return (slice_split (λ b. b == 10) text)

-- a line that says nothing: it begins with `#`, or has no word, since it is spaces alone
unfoldable pub is_skipped : List ℕ → Bool
is_skipped line = starts_with nat_eq line (codes "#") || list_all (λ b. b == 32) line

-- the lines that say something, each with its number, which counts all lines from 1 on
abbrev pub said_lines : List ℕ → List (ℕ × List ℕ)
said_lines text = filter (λ x. not (is_skipped x.1)) (enumerate_from 1 (text_lines text))

-- the words of a line
abbrev pub Words : Type 0
Words = List (List ℕ)

-- what stands between the spaces, where that is something
unfoldable pub words_in : List ℕ → Words
words_in line = filter (λ text. nat_lt 0 (length text)) (slice_split (λ b. b == 32) line)
