-- What the words of a recording are answered: by each status, what was asked of the dock, what failed, what is written and what is said.
use Rattle.std.specs.Prelude.{Err, IsErr, IsTrue, List, Option, false, map, ℕ, ◌≡◌, ◌⊎◌}
use Rattle.dock_calls.specs.Asking.{FailsAt, IsCaused}
use Rattle.rec_base.specs.Asked.{AsksAll}
use Rattle.rec_base.specs.declared.asked.Asked.{Asked}
use Rattle.record_call.specs.Orders.{IsOrder, IsWholeOrder}
use Rattle.rec_base.specs.Causes.{Rose}
use Rattle.std.specs.Io.KnownBytes.{Appends}
use Rattle.rec_base.specs.Known.{AppendsFront}
use Rattle.chunk_grammar.specs.declared.chunk.Chunk.{Chunk}
use Rattle.plan_model.specs.declared.top.Top.TheVariants.{Record as top_record}
use Rattle.plan_model.specs.Commands.{command_in}
use Rattle.report_model.specs.Shown.{printed_lines}
use Rattle.dock_calls.specs.Said.{SaysFault}
use Rattle.run_model.specs.Run.{Fed}
use Rattle.record_call.specs.Completed.{CompletesRecord}
use Rattle.record_call.specs.Ends.{record_status}
use Rattle.record_call.specs.Lines.{usage_text, plan_text, document_text, cost_text}
use Rattle.record_call.specs.Plans.{IsRefused, HasFailedPlan}
use Rattle.record_call.specs.Recorded.{IsFileOf, IsCreated, IsCutFile, IsTooMuch, HasNoDocument, HasTexts, HasUnreadDocument, lines_of}
use Rattle.record_call.specs.Statuses.{is_all_asked, is_status, is_recorded, is_without_file, has_plain_line, plain_text}
use Rattle.record_cli.specs.Shown.{Shown}

pub record IsRecordAnswer {S M I : Type 0} (left_of : S → Option (List ℕ)) (faults_of : S → ℕ) (mark_of : S → M) (input_mark_of : S → I) (words : List (List ℕ)) (before after : Shown I) (status : ℕ) : Type 0 where
  pub statuses : IsTrue (is_status status)
  pub caused : (order : List Asked) × IsOrder before.contents words order × IsCaused false (is_recorded status) order before.asked after.asked before.opens after.opens before.writes after.writes before.says after.says status
  pub all_asked : IsTrue (is_all_asked status) → (order : List Asked) × IsWholeOrder before.contents words order × AsksAll before.asked after.asked order
  pub recorded : IsTrue (is_recorded status) → (fed : List (Fed S)) × (chunks : List Chunk) × IsFileOf left_of faults_of mark_of before.contents words before.target after.target before.held after.held fed chunks × (status ≡ record_status (map (λ x. x.end) fed)) × Appends before.printed after.printed (printed_lines (lines_of fed chunks))
  pub used : IsErr (command_in top_record words) → status ≡ 2
  pub usage : status ≡ 2 → (why : ℕ) × (command_in top_record words ≡ Err why) × SaysFault before.printed after.printed before.says after.says (usage_text why)
  pub refused : status ≡ 3 → (line : ℕ) × (why : ℕ) × IsRefused before.contents words line why × SaysFault before.printed after.printed before.says after.says (plan_text line why)
  pub open_fault : status ≡ 4 → ((order : List Asked) × IsOrder before.contents words order × FailsAt before.asked after.asked order before.opens after.opens) ⊎ HasFailedPlan left_of faults_of mark_of input_mark_of before.contents before.marks words ⊎ HasUnreadDocument left_of faults_of mark_of input_mark_of before.contents before.marks words
  pub write_fault : status ≡ 5 → (c : IsCutFile before.contents words before.target after.target before.held after.held) × (created : Shown I) × IsCreated before.target created.target before.held created.held c.out × Rose created.writes after.writes
  pub no_document : status ≡ 6 → (id : ℕ) × HasNoDocument before.contents words id × SaysFault before.printed after.printed before.says after.says (document_text id)
  pub cost : status ≡ 7 → (asked : ℕ) × IsTooMuch before.contents words asked × SaysFault before.printed after.printed before.says after.says (cost_text asked)
  pub say_fault : status ≡ 8 → Rose before.says after.says × (fed : List (Fed S)) × (chunks : List Chunk) × IsFileOf left_of faults_of mark_of before.contents words before.target after.target before.held after.held fed chunks × AppendsFront before.printed after.printed (printed_lines (lines_of fed chunks))
  pub memory : status ≡ 9 → ((after.target ≡ before.target) × (after.held ≡ before.held)) ⊎ IsCutFile before.contents words before.target after.target before.held after.held
  pub numbers : status ≡ 9 → ((after.target ≡ before.target) × (after.held ≡ before.held)) ⊎ HasTexts before.contents words ⊎ ((fed : List (Fed S)) × (chunks : List Chunk) × IsFileOf left_of faults_of mark_of before.contents words before.target after.target before.held after.held fed chunks)
  pub completes : CompletesRecord left_of faults_of mark_of input_mark_of before.contents before.marks words before.opens after.opens before.writes after.writes before.says after.says status
  pub no_file : IsTrue (is_without_file status) → (after.target ≡ before.target) × (after.held ≡ before.held)
  pub fault_line : IsTrue (has_plain_line status) → SaysFault before.printed after.printed before.says after.says (plain_text status)
