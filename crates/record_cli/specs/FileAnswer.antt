-- What all other words are answered: by command and status, what was asked of the dock, what failed, what is written and what is said.
use Rattle.std.specs.Prelude.{Bool, Err, IsErr, IsTrue, List, Ok, Option, [], codes, true, ℕ, ◌++◌, ◌↔◌, ◌≡◌, ◌⊎◌}
use Rattle.dock_calls.specs.Asking.{FailsAt, HasReadFault, IsCaused}
use Rattle.file_call.specs.Orders.{input_order, repair_order, file_order}
use Rattle.rec_base.specs.Causes.{Rose}
use Rattle.std.specs.Fmt.{decimal}
use Rattle.std.specs.Io.KnownBytes.{Appends}
use Rattle.rec_base.specs.Known.{AppendsFront, Becomes, printed_line}
use Rattle.rec_base.specs.declared.name.Name.TheVariants.{File}
use Rattle.file_model.specs.declared.end.FileEnd.{FileEnd}
use Rattle.file_model.specs.declared.end.FileEnd.TheVariants.{ReadFault, SizeLimit}
use Rattle.file_model.specs.Reader.{ChunkAt}
use Rattle.plan_model.specs.Commands.{command_in, check_file, drill, repair_file, show_file}
use Rattle.plan_model.specs.declared.top.Top.TheVariants.{File as for_files}
use Rattle.report_model.specs.Check.{AreFirstCheckLines, check_lines}
use Rattle.report_model.specs.Shown.{AreFirstLines, show_lines, printed_lines}
use Rattle.dock_calls.specs.Said.{SaysFault, SaysBehind}
use Rattle.file_call.specs.Drilled.{IsDrillCut, IsDrillSaid}
use Rattle.file_call.specs.Files.{IsFileOf, IsFileFrom, IsOtherFile, IsToldOther}
use Rattle.file_call.specs.Repaired.{CompletesRepair, is_repair_status, is_repaired, repaired_line, repaired_status}
use Rattle.file_call.specs.Searched.{GoesOverDamage, IsCut, IsFailed, IsKept, IsLong}
use Rattle.file_call.specs.Statuses.{check_status, file_status, is_all_asked, is_all_said, is_check_status, is_checked, is_drill_status, is_show_status, is_shown}
use Rattle.file_call.specs.Said.{SaysSomeBehind}
use Rattle.record_cli.specs.Shown.{Shown}

pub record IsFileAnswer {S M I : Type 0} (left_of : S → Option (List ℕ)) (faults_of : S → ℕ) (mark_of : S → M) (input_mark_of : S → I) (words : List (List ℕ)) (before after : Shown I) (status : ℕ) : Type 0 where
  pub caused : IsCaused (is_all_asked status) (is_all_said status) (file_order (command_in for_files words)) before.asked after.asked before.opens after.opens before.writes after.writes before.says after.says status
  pub usage : (status ≡ 2) ↔ IsErr (command_in for_files words)
  pub usage_line : (why : ℕ) → command_in for_files words ≡ Err why → SaysFault before.printed after.printed before.says after.says (codes "fault 2 usage " ++ decimal why)
  pub usage_writes_nothing : IsErr (command_in for_files words) → (after.target ≡ before.target) × (after.held ≡ before.held)
  pub show_statuses : (name : List ℕ) → command_in for_files words ≡ Ok (show_file name) → IsTrue (is_show_status status)
  pub shown : (name : List ℕ) → command_in for_files words ≡ Ok (show_file name) → IsTrue (is_shown status) → (chunks : List ChunkAt) × (end : FileEnd) × (status ≡ file_status end) × IsFileOf left_of faults_of mark_of before.contents name chunks end × Appends before.printed after.printed (printed_lines (show_lines (chunks, end)))
  pub show_not_xdf : (name : List ℕ) → command_in for_files words ≡ Ok (show_file name) → status ≡ 3 → IsOtherFile left_of before.contents name × IsToldOther before.contents name × SaysFault before.printed after.printed before.says after.says (codes "fault 3")
  pub show_open_fault : (name : List ℕ) → command_in for_files words ≡ Ok (show_file name) → status ≡ 4 → ((FailsAt before.asked after.asked (input_order name) before.opens after.opens ⊎ HasReadFault left_of faults_of mark_of input_mark_of before.contents before.marks (File name) 0) × SaysBehind before.printed after.printed before.says after.says [] (codes "fault 4")) ⊎ (HasReadFault left_of faults_of mark_of input_mark_of before.contents before.marks (File name) 0 × (chunks : List ChunkAt) × IsFileOf left_of faults_of mark_of before.contents name chunks ReadFault × SaysBehind before.printed after.printed before.says after.says (show_lines (chunks, ReadFault)) (codes "fault 4"))
  pub show_size_limit : (name : List ℕ) → command_in for_files words ≡ Ok (show_file name) → status ≡ 7 → (chunks : List ChunkAt) × IsFileOf left_of faults_of mark_of before.contents name chunks SizeLimit × SaysBehind before.printed after.printed before.says after.says (show_lines (chunks, SizeLimit)) (codes "fault 7")
  pub show_say_fault : (name : List ℕ) → command_in for_files words ≡ Ok (show_file name) → status ≡ 8 → Rose before.says after.says × (((lines : List (List ℕ)) × IsFileFrom AreFirstLines left_of before.contents name lines × AppendsFront before.printed after.printed (printed_lines lines)) ⊎ ((chunks : List ChunkAt) × (end : FileEnd) × IsFileOf left_of faults_of mark_of before.contents name chunks end × AppendsFront before.printed after.printed (printed_lines (show_lines (chunks, end)))))
  pub show_memory : (name : List ℕ) → command_in for_files words ≡ Ok (show_file name) → status ≡ 9 → SaysBehind before.printed after.printed before.says after.says [] (codes "fault 9") ⊎ ((lines : List (List ℕ)) × IsFileFrom AreFirstLines left_of before.contents name lines × SaysBehind before.printed after.printed before.says after.says lines (codes "fault 9"))
  pub show_writes_nothing : (name : List ℕ) → command_in for_files words ≡ Ok (show_file name) → (after.target ≡ before.target) × (after.held ≡ before.held)
  pub check_statuses : (name : List ℕ) → command_in for_files words ≡ Ok (check_file name) → IsTrue (is_check_status status)
  pub checked : (name : List ℕ) → command_in for_files words ≡ Ok (check_file name) → IsTrue (is_checked status) → (chunks : List ChunkAt) × (end : FileEnd) × (status ≡ check_status (chunks, end)) × IsFileOf left_of faults_of mark_of before.contents name chunks end × Appends before.printed after.printed (printed_lines (check_lines (chunks, end)))
  pub check_not_xdf : (name : List ℕ) → command_in for_files words ≡ Ok (check_file name) → status ≡ 3 → IsOtherFile left_of before.contents name × IsToldOther before.contents name × SaysFault before.printed after.printed before.says after.says (codes "fault 3")
  pub check_open_fault : (name : List ℕ) → command_in for_files words ≡ Ok (check_file name) → status ≡ 4 → ((FailsAt before.asked after.asked (input_order name) before.opens after.opens ⊎ HasReadFault left_of faults_of mark_of input_mark_of before.contents before.marks (File name) 0) × SaysBehind before.printed after.printed before.says after.says [] (codes "fault 4")) ⊎ (HasReadFault left_of faults_of mark_of input_mark_of before.contents before.marks (File name) 0 × (chunks : List ChunkAt) × IsFileOf left_of faults_of mark_of before.contents name chunks ReadFault × SaysBehind before.printed after.printed before.says after.says (check_lines (chunks, ReadFault)) (codes "fault 4"))
  pub check_size_limit : (name : List ℕ) → command_in for_files words ≡ Ok (check_file name) → status ≡ 7 → (chunks : List ChunkAt) × IsFileOf left_of faults_of mark_of before.contents name chunks SizeLimit × SaysBehind before.printed after.printed before.says after.says (check_lines (chunks, SizeLimit)) (codes "fault 7")
  pub check_say_fault : (name : List ℕ) → command_in for_files words ≡ Ok (check_file name) → status ≡ 8 → Rose before.says after.says × (((lines : List (List ℕ)) × IsFileFrom AreFirstCheckLines left_of before.contents name lines × AppendsFront before.printed after.printed (printed_lines lines)) ⊎ ((chunks : List ChunkAt) × (end : FileEnd) × IsFileOf left_of faults_of mark_of before.contents name chunks end × AppendsFront before.printed after.printed (printed_lines (check_lines (chunks, end)))))
  pub check_memory : (name : List ℕ) → command_in for_files words ≡ Ok (check_file name) → status ≡ 9 → SaysBehind before.printed after.printed before.says after.says [] (codes "fault 9") ⊎ ((lines : List (List ℕ)) × IsFileFrom AreFirstCheckLines left_of before.contents name lines × SaysBehind before.printed after.printed before.says after.says lines (codes "fault 9")) ⊎ ((chunks : List ChunkAt) × (end : FileEnd) × IsFileOf left_of faults_of mark_of before.contents name chunks end × SaysSomeBehind before.printed after.printed before.says after.says (check_lines (chunks, end)) (codes "fault 9"))
  pub check_writes_nothing : (name : List ℕ) → command_in for_files words ≡ Ok (check_file name) → (after.target ≡ before.target) × (after.held ≡ before.held)
  pub repair_statuses : (search : Bool) (from : List ℕ) (out : List ℕ) → command_in for_files words ≡ Ok (repair_file search from out) → IsTrue (is_repair_status status)
  pub repaired : (search : Bool) (from : List ℕ) (out : List ℕ) → command_in for_files words ≡ Ok (repair_file search from out) → IsTrue (is_repaired status) → (chunks : ℕ) × (bytes : ℕ) × (skipped : ℕ) × (status ≡ repaired_status skipped) × IsKept search left_of before.contents from out before.target after.target before.held after.held chunks bytes skipped × Appends before.printed after.printed (printed_line (repaired_line chunks bytes skipped))
  pub repair_not_xdf : (search : Bool) (from : List ℕ) (out : List ℕ) → command_in for_files words ≡ Ok (repair_file search from out) → status ≡ 3 → IsOtherFile left_of before.contents from × IsToldOther before.contents from × (after.target ≡ before.target) × (after.held ≡ before.held) × SaysFault before.printed after.printed before.says after.says (codes "fault 3")
  pub repair_open_fault : (search : Bool) (from : List ℕ) (out : List ℕ) → command_in for_files words ≡ Ok (repair_file search from out) → status ≡ 4 → (((FailsAt before.asked after.asked (repair_order from out) before.opens after.opens ⊎ HasReadFault left_of faults_of mark_of input_mark_of before.contents before.marks (File from) 0) × (after.target ≡ before.target) × (after.held ≡ before.held)) ⊎ (HasReadFault left_of faults_of mark_of input_mark_of before.contents before.marks (File from) 0 × IsFailed search left_of faults_of mark_of before.contents from out before.target after.target before.held after.held)) × SaysFault before.printed after.printed before.says after.says (codes "fault 4")
  pub repair_write_fault : (search : Bool) (from : List ℕ) (out : List ℕ) → command_in for_files words ≡ Ok (repair_file search from out) → status ≡ 5 → ((created : Shown I) × Becomes before.target created.target out × (created.writes ≡ before.writes) × Rose created.writes after.writes × IsCut search left_of before.contents from out before.target after.target before.held after.held) × SaysFault before.printed after.printed before.says after.says (codes "fault 5")
  pub repair_size_limit : (search : Bool) (from : List ℕ) (out : List ℕ) → command_in for_files words ≡ Ok (repair_file search from out) → status ≡ 7 → IsLong search left_of before.contents from out before.target after.target before.held after.held × SaysFault before.printed after.printed before.says after.says (codes "fault 7")
  pub repair_say_fault : (search : Bool) (from : List ℕ) (out : List ℕ) → command_in for_files words ≡ Ok (repair_file search from out) → status ≡ 8 → Rose before.says after.says × (chunks : ℕ) × (bytes : ℕ) × (skipped : ℕ) × IsKept search left_of before.contents from out before.target after.target before.held after.held chunks bytes skipped × AppendsFront before.printed after.printed (printed_line (repaired_line chunks bytes skipped))
  pub repair_memory : (search : Bool) (from : List ℕ) (out : List ℕ) → command_in for_files words ≡ Ok (repair_file search from out) → status ≡ 9 → (((after.target ≡ before.target) × (after.held ≡ before.held)) ⊎ IsCut search left_of before.contents from out before.target after.target before.held after.held) × SaysFault before.printed after.printed before.says after.says (codes "fault 9")
  pub search_goes_over_damage : (from : List ℕ) (out : List ℕ) → command_in for_files words ≡ Ok (repair_file true from out) → IsTrue (is_repaired status) → GoesOverDamage before.contents from out before.target after.target before.held after.held before.printed after.printed status
  pub repair_completes : (search : Bool) (from : List ℕ) (out : List ℕ) → command_in for_files words ≡ Ok (repair_file search from out) → CompletesRepair left_of faults_of mark_of input_mark_of before.contents before.marks from before.opens after.opens before.writes after.writes before.says after.says status
  pub drill_statuses : (number : ℕ) → command_in for_files words ≡ Ok (drill number) → IsTrue (is_drill_status status)
  pub drilled : (number : ℕ) → command_in for_files words ≡ Ok (drill number) → status ≡ 0 → IsDrillSaid number before.printed after.printed
  pub drill_say_fault : (number : ℕ) → command_in for_files words ≡ Ok (drill number) → status ≡ 8 → Rose before.says after.says × IsDrillCut number before.printed after.printed
  pub drill_memory : (number : ℕ) → command_in for_files words ≡ Ok (drill number) → status ≡ 9 → SaysFault before.printed after.printed before.says after.says (codes "fault 9")
  pub drill_writes_nothing : (number : ℕ) → command_in for_files words ≡ Ok (drill number) → (after.target ≡ before.target) × (after.held ≡ before.held)
