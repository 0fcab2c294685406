-- The statuses of a recording. This project's own.
use Rattle.std.specs.Prelude.{ℕ, Bool, cond, ◌==◌, ◌||◌, List, codes}

abbrev pub is_status : ℕ → Bool
is_status n = n == 0 || n == 1 || n == 2 || n == 3 || n == 4 || n == 5 || n == 6 || n == 7 || n == 8 || n == 9

-- the file was written, and all lines were said
abbrev pub is_recorded : ℕ → Bool
is_recorded n = n == 0 || n == 1

-- no file was created
abbrev pub is_without_file : ℕ → Bool
is_without_file n = n == 2 || n == 3 || n == 4 || n == 6 || n == 7

-- the line of the fault is its status alone
abbrev pub has_plain_line : ℕ → Bool
has_plain_line n = n == 4 || n == 5 || n == 9

abbrev pub plain_text : ℕ → List ℕ
plain_text n = cond (n == 4) (codes "fault 4") (cond (n == 5) (codes "fault 5") (codes "fault 9"))

-- all inputs were opened, and the output was created
abbrev pub is_all_asked : ℕ → Bool
is_all_asked n = n == 0 || n == 1 || n == 5 || n == 8
