-- How many bytes a number may take.
use Rattle.std.specs.Prelude.{ℕ, ◌==◌, ◌||◌, Bool}

abbrev pub is_number_size : ℕ → Bool
is_number_size size = size == 1 || size == 2 || size == 4 || size == 8
