-- The program's status at its end. This project's own.
use Rattle.std.specs.Prelude.{ℕ, Bool, not, ◌==◌, ◌||◌, ◌&&◌, if◌then◌else◌}

-- a status that says that the output is written
abbrev pub is_written : ℕ → Bool
is_written status = status == 0 || status == 1 || status == 8

-- a status that comes once all lines of the work were said becomes that of a line that couldn't be; the others stay
abbrev pub lost_status : ℕ → ℕ
lost_status status = if status == 0 || status == 1 || status == 6 then 8 else status

-- the status of some work once its output was forced to the disk, or couldn't be, and its lines are out, or lost
abbrev pub last_status : Bool → Bool → ℕ → ℕ
last_status forced told status = if not forced && is_written status then 5 else if told then status else lost_status status
