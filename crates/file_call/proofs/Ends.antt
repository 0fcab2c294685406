-- How a file ended, by what the report on it told.
use Rattle.std.proofs.Common.{◌≡◌, ℕ, ◌<◌, List, [], ◌∷◌, length, refl, sym, ap, arith, ◌∙◌}
use Rattle.reading_model.specs.Outlook.{All}
use Rattle.file_model.specs.declared.end.FileEnd.{FileEnd}
use Rattle.file_model.specs.declared.end.FileEnd.TheVariants as file
use Rattle.file_model.specs.Reader.{ChunkAt}
use Rattle.report_model.specs.declared.note.Note.{Note}
use Rattle.report_model.specs.Notes.{check_notes}
use Rattle.stream_report.specs.declared.file.ShowEnd.TheVariants as end
use Rattle.stream_report.specs.Ends.{show_end}
use Rattle.stream_check.specs.declared.file.CheckEnd.{CheckEnd}
use Rattle.stream_check.specs.declared.file.CheckEnd.TheVariants as checked
use Rattle.stream_check.specs.Ends.{told_count, end_by, check_end}
use Rattle.file_call.specs.Statuses.{file_status, notes_status, status_by, check_status}

-- ---- of show

pub clean_end : (e : FileEnd) → end.Clean ≡ show_end e → 0 ≡ file_status e
clean_end (file.End at) is = refl
clean_end (file.Torn at left) is = absurd cc
clean_end (file.Bad at why) is = absurd cc
clean_end file.ReadFault is = absurd cc
clean_end file.SizeLimit is = absurd cc

pub torn_end : (e : FileEnd) → end.Torn ≡ show_end e → 1 ≡ file_status e
torn_end (file.End at) is = absurd cc
torn_end (file.Torn at left) is = refl
torn_end (file.Bad at why) is = absurd cc
torn_end file.ReadFault is = absurd cc
torn_end file.SizeLimit is = absurd cc

pub bad_end : (e : FileEnd) → end.Bad ≡ show_end e → 6 ≡ file_status e
bad_end (file.End at) is = absurd cc
bad_end (file.Torn at left) is = absurd cc
bad_end (file.Bad at why) is = refl
bad_end file.ReadFault is = absurd cc
bad_end file.SizeLimit is = absurd cc

pub read_end : (e : FileEnd) → end.ReadFault ≡ show_end e → e ≡ file.ReadFault
read_end (file.End at) is = absurd cc
read_end (file.Torn at left) is = absurd cc
read_end (file.Bad at why) is = absurd cc
read_end file.ReadFault is = refl
read_end file.SizeLimit is = absurd cc

pub limit_end : (e : FileEnd) → end.SizeLimit ≡ show_end e → e ≡ file.SizeLimit
limit_end (file.End at) is = absurd cc
limit_end (file.Torn at left) is = absurd cc
limit_end (file.Bad at why) is = absurd cc
limit_end file.ReadFault is = absurd cc
limit_end file.SizeLimit is = refl

-- ---- of check

abbrev notes_of : CheckEnd → ℕ
notes_of (checked.Done chunks notes) = notes
notes_of checked.ReadFault = 0
notes_of checked.SizeLimit = 0
notes_of checked.PrintFault = 0
notes_of checked.Memory = 0

none_noted : (notes : List Note) → 0 ≡ told_count (length notes) → 0 ≡ notes_status notes
none_noted [] is = refl
none_noted (n ∷ notes) is = absurd (omega (arith, is))

some_noted : (notes : List Note) → 0 < told_count (length notes) → 1 ≡ notes_status notes
some_noted [] some = absurd (omega (arith, some))
some_noted (n ∷ notes) some = refl

clean_by : (e : FileEnd) (count : ℕ) (notes : List Note) (chunks n : ℕ) → n ≡ 0 → checked.Done chunks n ≡ end_by e count (length notes) → 0 ≡ status_by e notes
clean_by (file.End at) count notes chunks n none is = none_noted notes (sym none ∙ ap notes_of is)
clean_by (file.Torn at left) count notes chunks n none is = none_noted notes (sym none ∙ ap notes_of is)
clean_by (file.Bad at why) count notes chunks n none is = none_noted notes (sym none ∙ ap notes_of is)
clean_by file.ReadFault count notes chunks n none is = absurd cc
clean_by file.SizeLimit count notes chunks n none is = absurd cc

noted_by : (e : FileEnd) (count : ℕ) (notes : List Note) (chunks n : ℕ) → 0 < n → checked.Done chunks n ≡ end_by e count (length notes) → 1 ≡ status_by e notes
noted_by (file.End at) count notes chunks n some is = some_noted notes (let q = ap notes_of is in omega (arith, some, q))
noted_by (file.Torn at left) count notes chunks n some is = some_noted notes (let q = ap notes_of is in omega (arith, some, q))
noted_by (file.Bad at why) count notes chunks n some is = some_noted notes (let q = ap notes_of is in omega (arith, some, q))
noted_by file.ReadFault count notes chunks n some is = absurd cc
noted_by file.SizeLimit count notes chunks n some is = absurd cc

pub nothing_noted : (all : All ChunkAt FileEnd) (chunks n : ℕ) → n ≡ 0 → checked.Done chunks n ≡ check_end all → 0 ≡ check_status all
nothing_noted all chunks n none is = clean_by all.1 (length all.0) (check_notes all) chunks n none is

pub something_noted : (all : All ChunkAt FileEnd) (chunks n : ℕ) → 0 < n → checked.Done chunks n ≡ check_end all → 1 ≡ check_status all
something_noted all chunks n some is = noted_by all.1 (length all.0) (check_notes all) chunks n some is

check_read_by : (e : FileEnd) (count notes : ℕ) → checked.ReadFault ≡ end_by e count notes → e ≡ file.ReadFault
check_read_by (file.End at) count notes is = absurd cc
check_read_by (file.Torn at left) count notes is = absurd cc
check_read_by (file.Bad at why) count notes is = absurd cc
check_read_by file.ReadFault count notes is = refl
check_read_by file.SizeLimit count notes is = absurd cc

check_limit_by : (e : FileEnd) (count notes : ℕ) → checked.SizeLimit ≡ end_by e count notes → e ≡ file.SizeLimit
check_limit_by (file.End at) count notes is = absurd cc
check_limit_by (file.Torn at left) count notes is = absurd cc
check_limit_by (file.Bad at why) count notes is = absurd cc
check_limit_by file.ReadFault count notes is = absurd cc
check_limit_by file.SizeLimit count notes is = refl

pub check_read_end : (all : All ChunkAt FileEnd) → checked.ReadFault ≡ check_end all → all.1 ≡ file.ReadFault
check_read_end all is = check_read_by all.1 (length all.0) (length (check_notes all)) is

pub check_limit_end : (all : All ChunkAt FileEnd) → checked.SizeLimit ≡ check_end all → all.1 ≡ file.SizeLimit
check_limit_end all is = check_limit_by all.1 (length all.0) (length (check_notes all)) is
