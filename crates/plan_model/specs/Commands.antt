-- The command that the words of a command line ask for. This project's own.
use Rattle.std.specs.Prelude.{ℕ, ◌+◌, ◌==◌, ◌&&◌, ◌||◌, Bool, false, not, List, [], ◌∷◌, length, nat_lt, Result, Ok, Err, if◌then◌else◌, codes}
use Rattle.std.specs.Option.{option_map_or}
use Rattle.std.specs.List.{list_any}
use Rattle.std.specs.Str.{bytes_eq}
use Rattle.plan_model.specs.declared.top.Top.{Top}
use Rattle.plan_model.specs.declared.top.Top.TheVariants.{Record, File}
use Rattle.plan_model.specs.Table.{first_that_holds}
use Rattle.plan_model.specs.Text.{Words}
use Rattle.plan_model.specs.PlanLine.{word, has_word, number, is_number}

-- a command with the names that it is given; a repair may go on behind damage, by searching; a drill is told its number
pub data Command : Type 0 where
  record_plan : (plan out : List ℕ) → Command
  show_file : (file : List ℕ) → Command
  check_file : (file : List ℕ) → Command
  repair_file : (search : Bool) → (from to : List ℕ) → Command
  drill : (n : ℕ) → Command

-- the commands that a call knows, each with the number of its words
abbrev pub forms : Top → List (List ℕ × ℕ)
forms Record = (codes "record", 3) ∷ []
forms File = (codes "show", 2) ∷ (codes "check", 2) ∷ (codes "repair", 3) ∷ (codes "repair", 4) ∷ (codes "drill", 2) ∷ []

abbrev pub is_record : Words → Bool
is_record words = has_word 0 (codes "record") words

abbrev pub is_show : Words → Bool
is_show words = has_word 0 (codes "show") words

abbrev pub is_check : Words → Bool
is_check words = has_word 0 (codes "check") words

abbrev pub is_repair : Words → Bool
is_repair words = has_word 0 (codes "repair") words

abbrev pub is_drill : Words → Bool
is_drill words = has_word 0 (codes "drill") words

-- a repair with a word before its two names
abbrev pub has_option : Words → Bool
has_option words = is_repair words && length words == 4

-- that word asks for the search behind damage
abbrev pub is_search : Words → Bool
is_search words = has_option words && has_word 1 (codes "--search") words

-- where the names of a command begin
abbrev pub first_name : Words → ℕ
first_name words = if has_option words then 2 else 1

-- the first word is a command of the call
abbrev pub is_known : Top → Words → Bool
is_known top words = list_any (λ form. has_word 0 form.0 words) (forms top)

-- and there are as many words as one of its forms has
abbrev pub has_form : Top → Words → Bool
has_form top words = list_any (λ form. has_word 0 form.0 words && length words == form.1) (forms top)

-- the most that a drill may be told
abbrev pub drill_limit : ℕ
drill_limit = 1_000_000

-- 1 to 7 decimal digits, with a value from 1 up to the limit
abbrev pub is_drill_number : List ℕ → Bool
is_drill_number text = nat_lt (length text) 8 && is_number drill_limit text

-- the usages that words may break, the first first: there is no word; the first is no command of the call; there are more or
-- fewer words than the command has, or what stands before a repair's names isn't `--search`; a drill isn't told a number; the
-- output is the plan, or a repair's input
abbrev pub usages : Top → Words → List (Bool × ℕ)
usages top words =
    (length words == 0, 1)
    ∷ (not (is_known top words), 2)
    ∷ (not (has_form top words) || (has_option words && not (is_search words)), 3)
    ∷ (is_drill words && not (is_drill_number (word 1 words)), 4)
    ∷ ((is_record words || is_repair words) && bytes_eq (word (first_name words) words) (word (first_name words + 1) words), 5)
    ∷ []

-- the command of words that break no usage
abbrev pub command_of : Words → Command
command_of words =
    if is_record words then record_plan (word 1 words) (word 2 words)
    else if is_show words then show_file (word 1 words)
    else if is_check words then check_file (word 1 words)
    else if is_repair words then repair_file (is_search words) (word (first_name words) words) (word (first_name words + 1) words)
    else drill (number (word 1 words))

-- the command, or the number of the first usage that the words break
unfoldable pub command_in : Top → Words → Result Command ℕ
command_in top words = option_map_or Err (first_that_holds (usages top words)) (Ok (command_of words))
