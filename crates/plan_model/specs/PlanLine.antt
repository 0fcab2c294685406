-- The table by which a line of a plan is refused. This project's own.
use Rattle.std.specs.Prelude.{ℕ, ◌-◌, ◌==◌, ◌||◌, ◌&&◌, ◌++◌, Bool, not, List, [], ◌∷◌, length, get_or, map, Option, Some, None, is_some, nat_lt, nat_le, if◌then◌else◌, codes}
use Rattle.std.specs.Option.{option_map}
use Rattle.std.specs.List.{list_any, list_all, filter, find}
use Rattle.std.specs.Char.{is_ascii_digit}
use Rattle.std.specs.Str.{bytes_eq, is_utf8}
use Rattle.std.specs.Str.Parse.{digits_value}
use Rattle.plan_model.specs.declared.why.PlanWhy.{PlanWhy}
use Rattle.plan_model.specs.declared.why.PlanWhy.TheVariants.{UnknownWord, WrongCount, BadNumber, Repeated, BadKind, TooManyFeeds, NotText, OutputNamed}
use Rattle.plan_model.specs.declared.plan.FeedFrom.{FeedFrom}
use Rattle.plan_model.specs.declared.plan.FeedFrom.TheVariants.{File, Tcp}
use Rattle.plan_model.specs.declared.plan.FeedLine.{FeedLine}
use Rattle.plan_model.specs.Table.{first_that_holds}
use Rattle.plan_model.specs.Text.{Words, words_in}

-- ---- words

-- the word at a place, counted from 0; where there is none, nothing
abbrev pub word : ℕ → Words → List ℕ
word place words = get_or words place []

-- the word at a place is this one
abbrev pub has_word : ℕ → List ℕ → Words → Bool
has_word place text words = bytes_eq (word place words) text

abbrev pub is_ring : Words → Bool
is_ring words = has_word 0 (codes "ring") words

abbrev pub is_batch : Words → Bool
is_batch words = has_word 0 (codes "batch") words

abbrev pub is_mode : Words → Bool
is_mode words = has_word 0 (codes "mode") words

abbrev pub is_feed : Words → Bool
is_feed words = has_word 0 (codes "feed") words

-- a feed's bytes come from a file; from an outlet
abbrev pub is_file : Words → Bool
is_file words = has_word 4 (codes "file") words

abbrev pub is_tcp : Words → Bool
is_tcp words = has_word 4 (codes "tcp") words

-- a feed has as many words as one with a limit
unfoldable pub has_limit : Words → Bool
has_limit words = (is_file words && length words == 8) || (is_tcp words && length words == 10)

-- ---- numbers

-- the number that digits write
abbrev pub number : List ℕ → ℕ
number text = digits_value 10 text

-- 1 to 13 decimal digits, with a value from 1 up to the most that it may be
unfoldable pub is_number : ℕ → List ℕ → Bool
is_number most text =
    nat_lt 0 (length text) && nat_lt (length text) 14 && list_all is_ascii_digit text
    && nat_lt 0 (number text) && nat_le (number text) most

-- the most that each number may be
abbrev pub ring_limit : ℕ
ring_limit = 1_048_576

abbrev pub batch_limit : ℕ
batch_limit = 65_536

abbrev pub id_limit : ℕ
id_limit = 65_535

abbrev pub port_limit : ℕ
port_limit = 65_535

abbrev pub sample_limit : ℕ
sample_limit = 1_099_511_627_776

-- the port of a feed from an outlet, and a feed's limit, each with the most that it may be
abbrev pub port_number : Words → List (ℕ × List ℕ)
port_number words = if is_tcp words then (port_limit, word 6 words) ∷ [] else []

abbrev pub limit_number : Words → List (ℕ × List ℕ)
limit_number words = if has_limit words then (sample_limit, word (length words - 1) words) ∷ [] else []

-- the numbers of a line, from left to right, each with the most that it may be
abbrev pub numbers_in : Words → List (ℕ × List ℕ)
numbers_in words =
    if is_ring words then (ring_limit, word 1 words) ∷ []
    else if is_batch words then (batch_limit, word 1 words) ∷ []
    else if is_feed words then (id_limit, word 1 words) ∷ (port_number words ++ limit_number words)
    else []

-- ---- what a line of a feed says

abbrev pub from_of : Words → FeedFrom
from_of words = if is_tcp words then Tcp (word 5 words) (number (word 6 words)) (word 7 words) else File (word 5 words)

abbrev pub limit_of : Words → Option ℕ
limit_of words = if has_limit words then Some (number (word (length words - 1) words)) else None

unfoldable pub feed_of : Words → FeedLine
feed_of words = record { id = number (word 1 words); doc = word 3 words; from = from_of words; limit = limit_of words }

-- ---- what lines say together

-- the feeds, in the order of their lines
abbrev pub feeds_in : List Words → List FeedLine
feeds_in lines = map feed_of (filter is_feed lines)

-- the second word of the first line that begins with this one
abbrev pub given : List ℕ → List Words → Option (List ℕ)
given name lines = option_map (word 1) (find (has_word 0 name) lines)

-- ---- the conditions of the table

-- not UTF-8, or a byte below 32, or 127
unfoldable pub is_no_text : List ℕ → Bool
is_no_text line = not (is_utf8 line) || list_any (λ b. nat_lt b 32 || b == 127) line

-- the first word is none that begins a line
unfoldable pub is_unknown : Words → Bool
is_unknown words = not (is_ring words || is_batch words || is_mode words || is_feed words)

-- not two words, or for a feed fewer than six
unfoldable pub has_wrong_count : Words → Bool
has_wrong_count words = if is_feed words then nat_lt (length words) 6 else not (length words == 2)

-- the word behind `mode` is no mode; a feed has no `doc`, or neither `file` nor `tcp`
unfoldable pub has_bad_kind : Words → Bool
has_bad_kind words =
    (is_mode words && not (has_word 1 (codes "threads") words || has_word 1 (codes "turns") words))
    || (is_feed words && not (has_word 2 (codes "doc") words && (is_file words || is_tcp words)))

-- a feed from a file has neither 6 nor 8 words; one from an outlet neither 8 nor 10
unfoldable pub has_wrong_feed_count : Words → Bool
has_wrong_feed_count words =
    is_feed words
    && ((is_file words && not (length words == 6 || length words == 8))
    || (is_tcp words && not (length words == 8 || length words == 10)))

-- the last word but one of a feed with a limit isn't `limit`
unfoldable pub has_no_limit_word : Words → Bool
has_no_limit_word words = is_feed words && has_limit words && not (has_word (length words - 2) (codes "limit") words)

-- a number of another form, or out of its range
unfoldable pub has_bad_number : Words → Bool
has_bad_number words = list_any (λ x. not (is_number x.0 x.1)) (numbers_in words)

-- the feed's id, or the setting, was there before
unfoldable pub is_repeated : List Words → Words → Bool
is_repeated before words =
    if is_feed words then list_any (λ feed. feed.id == number (word 1 words)) (feeds_in before)
    else is_some (given (word 0 words) before)

-- 64 feeds were there before
unfoldable pub is_one_too_many : List Words → Words → Bool
is_one_too_many before words = is_feed words && nat_lt 63 (length (feeds_in before))

-- a path of a feed is the output's name
unfoldable pub names_output : List ℕ → Words → Bool
names_output out words = is_feed words && (has_word 3 out words || (is_file words && has_word 5 out words))

-- ---- the table

-- what may be wrong with the words of a line by themselves, the first first
abbrev pub word_refusals : Words → List (Bool × PlanWhy)
word_refusals words =
    (is_unknown words, UnknownWord)
    ∷ (has_wrong_count words, WrongCount)
    ∷ (has_bad_kind words, BadKind)
    ∷ (has_wrong_feed_count words, WrongCount)
    ∷ (has_no_limit_word words, BadKind)
    ∷ (has_bad_number words, BadNumber)
    ∷ []

-- and then beside the lines before it and the output's name
abbrev pub later_refusals : List ℕ → List Words → Words → List (Bool × PlanWhy)
later_refusals out before words =
    (is_repeated before words, Repeated)
    ∷ (is_one_too_many before words, TooManyFeeds)
    ∷ (names_output out words, OutputNamed)
    ∷ []

-- all that may be wrong with a line that says something, where the lines before it were accepted
abbrev pub refusals : List ℕ → List Words → List ℕ → List (Bool × PlanWhy)
refusals out before line =
    (is_no_text line, NotText) ∷ (word_refusals (words_in line) ++ later_refusals out before (words_in line))

-- the first of them that is so
unfoldable pub line_refusal : List ℕ → List Words → List ℕ → Option PlanWhy
line_refusal out before line = first_that_holds (refusals out before line)
