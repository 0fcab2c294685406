-- How the check of a file ended, by the end of its reading.
use Rattle.std.specs.Prelude.{◌≡◌, ℕ, ◌-◌, ◌^◌, Bool, true, false, List, ◌++◌, length, min, Option}
use Rattle.std.specs.Io.KnownBytes.{Appends}
use Rattle.reading_model.specs.Outlook.{All}
use Rattle.file_model.specs.declared.end.FileEnd.{FileEnd}
use Rattle.file_model.specs.declared.end.FileEnd.TheVariants as file
use Rattle.file_model.specs.Reader.{ChunkAt}
use Rattle.report_model.specs.Notes.{check_notes}
use Rattle.report_model.specs.Shown.{printed_lines}
use Rattle.stream_check.specs.declared.file.CheckEnd.{CheckEnd}
use Rattle.stream_check.specs.declared.file.CheckEnd.TheVariants.{Done, ReadFault, SizeLimit, PrintFault, Memory}

-- a number as it is told in 64 bits: one that is too large stands still at the end
abbrev pub told_count : ℕ → ℕ
told_count n = min n (2 ^ 64 - 1)

abbrev pub end_by : FileEnd → ℕ → ℕ → CheckEnd
end_by (file.End at) chunks notes = Done (told_count chunks) (told_count notes)
end_by (file.Torn at left) chunks notes = Done (told_count chunks) (told_count notes)
end_by (file.Bad at why) chunks notes = Done (told_count chunks) (told_count notes)
end_by file.ReadFault chunks notes = ReadFault
end_by file.SizeLimit chunks notes = SizeLimit

-- how a check ends that has said all lines
abbrev pub check_end : All ChunkAt FileEnd → CheckEnd
check_end all = end_by all.1 (length all.0) (length (check_notes all))

-- the reading came to an end, and all its lines were said
abbrev pub is_checked : CheckEnd → Bool
is_checked (Done chunks notes) = true
is_checked ReadFault = true
is_checked SizeLimit = true
is_checked PrintFault = false
is_checked Memory = false

-- some of the first of these lines were said, each whole, and no others
abbrev pub SaysSome : Option (List ℕ) → Option (List ℕ) → List (List ℕ) → Type 0
SaysSome old new lines = (said : List (List ℕ)) × (rest : List (List ℕ)) × (lines ≡ said ++ rest) × Appends old new (printed_lines said)
