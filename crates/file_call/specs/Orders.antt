-- What the commands on files ask a dock for, in order. This project's own.
use Rattle.std.specs.Prelude.{ℕ, List, [], ◌∷◌, Result, Ok, Err}
use Rattle.rec_base.specs.declared.asked.Asked.{Asked}
use Rattle.rec_base.specs.declared.asked.Asked.TheVariants.{Opening, Creation}
use Rattle.rec_base.specs.declared.name.Name.TheVariants.{File}
use Rattle.plan_model.specs.Commands.{Command, record_plan, show_file, check_file, repair_file, drill}

-- to open this file
abbrev pub input_order : List ℕ → List Asked
input_order name = Opening (File name) ∷ []

-- to open this input, and to create this output
abbrev pub repair_order : List ℕ → List ℕ → List Asked
repair_order from out = Opening (File from) ∷ Creation out ∷ []

abbrev pub command_order : Command → List Asked
command_order (record_plan plan out) = []
command_order (show_file name) = input_order name
command_order (check_file name) = input_order name
command_order (repair_file search from out) = repair_order from out
command_order (drill number) = []

-- words that are no command ask for nothing
abbrev pub file_order : Result Command ℕ → List Asked
file_order (Ok command) = command_order command
file_order (Err why) = []
