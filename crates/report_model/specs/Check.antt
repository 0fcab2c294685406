-- The lines of a check of a file, by what a reader of it is given. This project's own.
use Rattle.std.specs.Prelude.{◌≡◌, ℕ, List, [], ◌∷◌, ◌++◌, length, map, Option, Some, None, if◌then◌else◌, codes}
use Rattle.std.specs.Fmt.{decimal}
use Rattle.reading_model.specs.Outlook.{How, All}
use Rattle.reading_model.specs.Read.{Reader}
use Rattle.file_model.specs.declared.end.FileEnd.{FileEnd}
use Rattle.file_model.specs.Reader.{ChunkAt}
use Rattle.report_model.specs.declared.note.Note.{Note}
use Rattle.report_model.specs.Notes.{is_stopped, check_notes}

-- a stream's id, or a hyphen where a note is about none
abbrev pub id_word : Option ℕ → List ℕ
id_word None = codes "-"
id_word (Some id) = decimal id

abbrev pub note_line : Note → List ℕ
note_line n = codes "note " ++ decimal n.number ++ codes " " ++ id_word n.id ++ codes " " ++ decimal n.at

-- the last line, with the numbers of chunks and notes. Where a read failed or the file is too long, there is none.
abbrev pub sum_lines : ℕ → ℕ → FileEnd → List (List ℕ)
sum_lines chunks notes end =
    if is_stopped end then [] else (codes "chunks " ++ decimal chunks ++ codes " notes " ++ decimal notes) ∷ []

-- all lines of a check
abbrev pub check_lines : All ChunkAt FileEnd → List (List ℕ)
check_lines all = map note_line (check_notes all) ++ sum_lines (length all.0) (length (check_notes all)) all.1

-- these are the first lines of a check of a file of which these bytes were taken, whatever follows
abbrev pub AreFirstCheckLines : Reader ChunkAt FileEnd → List ℕ → List (List ℕ) → Type 0
AreFirstCheckLines reader taken lines = (more : List ℕ) (how : How) → (rest : List (List ℕ)) × (check_lines (reader (taken ++ more) how) ≡ lines ++ rest)
