-- The plan of a text, or the first refusal. This project's own.
use Rattle.std.specs.Prelude.{ℕ, ◌==◌, List, [], ◌∷◌, ◌++◌, length, Option, Some, None, Result, Ok, Err, nat_lt, if◌then◌else◌, codes}
use Rattle.std.specs.Option.{option_map_or}
use Rattle.std.specs.Str.{bytes_eq}
use Rattle.plan_model.specs.declared.why.PlanWhy.{PlanWhy}
use Rattle.plan_model.specs.declared.why.PlanWhy.TheVariants.{UnknownWord, WrongCount, BadNumber, Repeated, BadKind, TooManyFeeds, NoFeed, NotText, OutputNamed, TooLong}
use Rattle.plan_model.specs.declared.plan.Mode.{Mode}
use Rattle.plan_model.specs.declared.plan.Mode.TheVariants.{Threads, Turns}
use Rattle.plan_model.specs.declared.plan.Plan.{Plan}
use Rattle.plan_model.specs.Text.{Words, said_lines, words_in}
use Rattle.plan_model.specs.PlanLine.{number, feeds_in, given, line_refusal}

-- the number by which a reason is printed
abbrev pub why_number : PlanWhy → ℕ
why_number UnknownWord = 1
why_number WrongCount = 2
why_number BadNumber = 3
why_number Repeated = 4
why_number BadKind = 5
why_number TooManyFeeds = 6
why_number NoFeed = 7
why_number NotText = 8
why_number OutputNamed = 9
why_number TooLong = 10

-- a line, and the number of the reason why it is refused
abbrev pub Refusal : Type 0
Refusal = ℕ × ℕ

abbrev pub mode_of : List ℕ → Mode
mode_of text = if bytes_eq text (codes "turns") then Turns else Threads

-- what lines say together, with what holds where they don't say it
unfoldable pub plan_of : List Words → Plan
plan_of lines = record {
  ring = option_map_or number (given (codes "ring") lines) 4096;
  batch = option_map_or number (given (codes "batch") lines) 512;
  mode = option_map_or mode_of (given (codes "mode") lines) Threads;
  feeds = feeds_in lines;
}

-- a line's refusal, or else what comes of the lines behind it
abbrev pub unless : {A : Type 0} → Option PlanWhy → ℕ → Result A Refusal → Result A Refusal
unless None line rest = rest
unless (Some why) line rest = Err (line, why_number why)

-- the words of the lines before and of these, or the first refusal of these
unfoldable pub accepted : List ℕ → List Words → List (ℕ × List ℕ) → Result (List Words) Refusal
accepted out before [] = Ok before
accepted out before (x ∷ lines) = unless (line_refusal out before x.1) x.0 (accepted out (before ++ words_in x.1 ∷ []) lines)

-- the plan of lines of which none is refused; a plan has a feed
abbrev pub with_feed : Result (List Words) Refusal → Result Plan Refusal
with_feed (Err refusal) = Err refusal
with_feed (Ok lines) = if length (feeds_in lines) == 0 then Err (0, why_number NoFeed) else Ok (plan_of lines)

-- the most bytes that a plan has
abbrev pub text_limit : ℕ
text_limit = 1_048_576

-- the plan of a text, beside an output of this name
unfoldable pub plan_in : List ℕ → List ℕ → Result Plan Refusal
plan_in text out =
    if nat_lt text_limit (length text) then Err (0, why_number TooLong) else with_feed (accepted out [] (said_lines text))
