-- The statuses of the commands on files. This project's own.
use Rattle.std.specs.Prelude.{ℕ, Bool, ◌==◌, ◌||◌, List, [], ◌∷◌}
use Rattle.reading_model.specs.Outlook.{All}
use Rattle.file_model.specs.declared.end.FileEnd.{FileEnd}
use Rattle.file_model.specs.declared.end.FileEnd.TheVariants.{End, Torn, Bad, ReadFault, SizeLimit}
use Rattle.file_model.specs.Reader.{ChunkAt}
use Rattle.report_model.specs.declared.note.Note.{Note}
use Rattle.report_model.specs.Notes.{check_notes}
use Rattle.file_call.specs.declared.show.Shown.{Shown}
use Rattle.file_call.specs.declared.show.Shown.TheVariants as shown
use Rattle.file_call.specs.declared.check.Checked.{Checked}
use Rattle.file_call.specs.declared.check.Checked.TheVariants as checked

-- ---- of show

-- the status by the end of a file whose lines were said
abbrev pub file_status : FileEnd → ℕ
file_status (End at) = 0
file_status (Torn at left) = 1
file_status (Bad at why) = 6
file_status ReadFault = 4
file_status SizeLimit = 7

abbrev pub shown_status : Shown → ℕ
shown_status shown.Whole = 0
shown_status shown.Torn = 1
shown_status shown.Bad = 6

-- those of a file that was shown to its end, or to a place where no chunk stands
abbrev pub is_shown : ℕ → Bool
is_shown n = n == 0 || n == 1 || n == 6

abbrev pub is_show_status : ℕ → Bool
is_show_status n = n == 0 || n == 1 || n == 3 || n == 4 || n == 6 || n == 7 || n == 8 || n == 9

-- ---- of check

-- 0 where there is nothing to be noted
abbrev pub notes_status : List Note → ℕ
notes_status [] = 0
notes_status (note ∷ notes) = 1

-- the status by the end of a file, and by what is to be noted of it
abbrev pub status_by : FileEnd → List Note → ℕ
status_by (End at) notes = notes_status notes
status_by (Torn at left) notes = notes_status notes
status_by (Bad at why) notes = notes_status notes
status_by ReadFault notes = 4
status_by SizeLimit notes = 7

abbrev pub check_status : All ChunkAt FileEnd → ℕ
check_status all = status_by all.1 (check_notes all)

abbrev pub checked_status : Checked → ℕ
checked_status checked.Clean = 0
checked_status checked.Noted = 1

abbrev pub is_checked : ℕ → Bool
is_checked n = n == 0 || n == 1

abbrev pub is_check_status : ℕ → Bool
is_check_status n = n == 0 || n == 1 || n == 3 || n == 4 || n == 7 || n == 8 || n == 9

-- ---- of drill

abbrev pub is_drill_status : ℕ → Bool
is_drill_status n = n == 0 || n == 8 || n == 9

-- ---- of all of them

-- all that the command asks for was asked for
abbrev pub is_all_asked : ℕ → Bool
is_all_asked n = n == 0 || n == 1 || n == 5 || n == 6 || n == 7 || n == 8

-- all lines were said
abbrev pub is_all_said : ℕ → Bool
is_all_said n = n == 0 || n == 1 || n == 6
