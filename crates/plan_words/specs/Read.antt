-- What is read of a line of a plan by itself.
use Rattle.std.specs.Prelude.{◌≡◌, ℕ, true, false, ◌+◌, ◌==◌, ◌||◌, ◌&&◌, Bool, not, List, [], ◌∷◌, length, Option, Some, None, Result, Ok, Err, nat_lt, if◌then◌else◌, codes}
use Rattle.std.specs.List.{list_any}
use Rattle.plan_model.specs.declared.why.PlanWhy.{PlanWhy}
use Rattle.plan_model.specs.declared.why.PlanWhy.TheVariants.{WrongCount, BadNumber, BadKind}
use Rattle.plan_model.specs.Table.{first_that_holds}
use Rattle.plan_model.specs.Text.{Words}
use Rattle.plan_model.specs.PlanLine.{word, has_word, number, is_number, is_ring, is_batch, is_mode, is_tcp, has_limit, port_number, limit_number, feed_of, word_refusals, has_bad_kind, has_wrong_feed_count, has_no_limit_word}
use Rattle.plan_model.specs.Plan.{mode_of}
use Rattle.plan_words.specs.declared.fault.LineFault.{LineFault}
use Rattle.plan_words.specs.declared.fault.LineFault.TheVariants.{Refused, Memory}
use Rattle.plan_words.specs.declared.line.PlanLine.{PlanLine}
use Rattle.plan_words.specs.declared.line.PlanLine.TheVariants.{Ring, Batch, Mode, Feed}
use Rattle.plan_words.specs.declared.line.FeedForm.{FeedForm}

-- the number that a word writes, where it is one up to the most that it may be
abbrev pub IsNumber : ℕ → List ℕ → Option ℕ → Type 0
IsNumber most text None = is_number most text ≡ false
IsNumber most text (Some n) = (is_number most text ≡ true) × (n ≡ number text)

-- a reader's answer is the value, where nothing is refused, or the refusal, unless memory ran out
abbrev pub Reads : {A : Type 0} → Result A LineFault → Option PlanWhy → A → Type 0
Reads (Ok x) refusal value = (refusal ≡ None) × (x ≡ value)
Reads (Err (Refused why)) refusal value = refusal ≡ Some why
Reads (Err Memory) refusal value = Unit {0}

-- the first reason against words by themselves
unfoldable pub own_refusal : Words → Option PlanWhy
own_refusal words = first_that_holds (word_refusals words)

-- what words say
abbrev pub line_of : Words → PlanLine
line_of words =
    if is_ring words then Ring (number (word 1 words))
    else if is_batch words then Batch (number (word 1 words))
    else if is_mode words then Mode (mode_of (word 1 words))
    else Feed (feed_of words)

-- ---- the table, for each kind of line

abbrev pub setting_refusal : ℕ → Words → Option PlanWhy
setting_refusal most words =
    first_that_holds ((not (length words == 2), WrongCount) ∷ (not (is_number most (word 1 words)), BadNumber) ∷ [])

abbrev pub mode_refusal : Words → Option PlanWhy
mode_refusal words =
    first_that_holds ((not (length words == 2), WrongCount)
    ∷ (not (has_word 1 (codes "threads") words || has_word 1 (codes "turns") words), BadKind) ∷ [])

abbrev pub count_refusal : ℕ → Words → Option PlanWhy
count_refusal plain words =
    first_that_holds ((not (length words == plain || length words == plain + 2), WrongCount)
    ∷ (length words == plain + 2 && not (has_word plain (codes "limit") words), BadKind) ∷ [])

unfoldable pub form_refusal : Words → Option PlanWhy
form_refusal words =
    first_that_holds ((nat_lt (length words) 6, WrongCount)
    ∷ (has_bad_kind words, BadKind)
    ∷ (has_wrong_feed_count words, WrongCount)
    ∷ (has_no_limit_word words, BadKind) ∷ [])

abbrev pub form_of : Words → FeedForm
form_of words = record { tcp = is_tcp words; limited = has_limit words }

abbrev pub bad_among : List (ℕ × List ℕ) → Bool
bad_among numbers = list_any (λ x. not (is_number x.0 x.1)) numbers

abbrev pub port_refusal : Words → Option PlanWhy
port_refusal words = first_that_holds ((bad_among (port_number words), BadNumber) ∷ [])

abbrev pub limit_refusal : Words → Option PlanWhy
limit_refusal words = first_that_holds ((bad_among (limit_number words), BadNumber) ∷ [])
