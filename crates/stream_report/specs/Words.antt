-- A word that the search is not to look into.
use Rattle.std.specs.Prelude.{ℕ, List, ◌∷◌}
use Rattle.report_model.specs.Lines.{hex_digits}

-- a blank and sixteen digits
unfoldable pub double_word : ℕ → List ℕ
double_word n = 32 ∷ hex_digits 16 n
