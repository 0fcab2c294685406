-- The command of `record`.
use Rattle.std.proofs.Common.{◌≡◌, Bor, ℕ, List, Ok, Err, refl, inl, inr, arith}
use Rattle.std.specs.Prelude.{IsTrue}
use Rattle.std.proofs.lemmas.Bool.{cases_Bool}
use Rattle.plan_model.specs.declared.top.Top.{Top}
use Rattle.plan_model.specs.declared.top.Top.TheVariants.{Record}
use Rattle.plan_model.specs.Text.{Words}
use Rattle.plan_model.specs.PlanLine.{word}
use Rattle.plan_model.specs.Commands.{Command, record_plan, show_file, check_file, repair_file, drill, command_in, is_record}
use Rattle.plan_words.specs.declared.command.Command.{Command as Read}
use Rattle.plan_words.specs.declared.command.Command.TheVariants as read
use Rattle.plan_words.specs.Commands.{command_view}
use Rattle.dock_calls.specs.Said.{is_usage}

-- what the call is asked for is to record
pub only_record : (words : Words) (c : Command) → command_in Record words ≡ Ok c → c ≡ record_plan (word 1 words) (word 2 words)
unfolding command_in
only_record words c is = elim (cases_Bool (is_record words)) [
  | inl same ↦ grind (arith, is, same)
  | inr other ↦ grind (arith, is, other)
]

-- the usages that are told have a number
pub usage_known : (top : Top) (words : Words) (why : ℕ) → command_in top words ≡ Err why → IsTrue (is_usage why)
unfolding command_in
usage_known top words why is = grind (arith, is)

-- a command that was read is none but that
pub not_other : (words : Words) (command : Read) → ((plan out : Bor (List ℕ)) → command ≡ read.Record plan out → ⊥) → command_in Record words ≡ Ok (command_view command) → ⊥
not_other words (read.Record plan out) apart is = apart plan out refl
not_other words (read.Show file) apart is = let only = only_record words (show_file file.now) is in absurd cc
not_other words (read.Check file) apart is = let only = only_record words (check_file file.now) is in absurd cc
not_other words (read.Repair search from to) apart is = let only = only_record words (repair_file search from.now to.now) is in absurd cc
not_other words (read.Drill n) apart is = let only = only_record words (drill n) is in absurd cc
