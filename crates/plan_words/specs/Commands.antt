-- The command that was read, seen as it is defined.
use Rattle.std.specs.Prelude.{◌≡◌, ℕ, true, false, List, Option, Some, None}
use Rattle.plan_model.specs.PlanLine.{number}
use Rattle.plan_model.specs.Commands.{Command as Asked, record_plan, show_file, check_file, repair_file, drill, is_drill_number}
use Rattle.plan_words.specs.declared.command.Command.{Command}
use Rattle.plan_words.specs.declared.command.Command.TheVariants.{Record, Show, Check, Repair, Drill}

-- the names behind the references
abbrev pub command_view : Command → Asked
command_view (Record plan out) = record_plan plan.now out.now
command_view (Show file) = show_file file.now
command_view (Check file) = check_file file.now
command_view (Repair search from to) = repair_file search from.now to.now
command_view (Drill n) = drill n

-- the number that a word tells a drill, where it is one
abbrev pub IsDrillNumber : List ℕ → Option ℕ → Type 0
IsDrillNumber text None = is_drill_number text ≡ false
IsDrillNumber text (Some n) = (is_drill_number text ≡ true) × (n ≡ number text)
