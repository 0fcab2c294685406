-- What the lines of a plan say together, as the code keeps it.
use Rattle.std.specs.Prelude.{◌≡◌, ℕ, ◌==◌, ◌||◌, Bool, true, false, List, [], ◌∷◌, ◌++◌, length, Option, Some, None, is_some, unwrap_or, Result, Ok, Err, nat_lt, if◌then◌else◌, codes}
use Rattle.std.specs.Option.{option_map, option_or}
use Rattle.std.specs.List.{list_any}
use Rattle.std.specs.Str.{bytes_eq}
use denote.Ref.{Bor}
use Rattle.plan_model.specs.declared.why.PlanWhy.{PlanWhy}
use Rattle.plan_model.specs.declared.why.PlanWhy.TheVariants.{Repeated, TooManyFeeds, NotText, OutputNamed}
use Rattle.plan_model.specs.declared.plan.Mode.TheVariants.{Threads}
use Rattle.plan_model.specs.declared.plan.FeedFrom.{FeedFrom}
use Rattle.plan_model.specs.declared.plan.FeedFrom.TheVariants.{File, Tcp}
use Rattle.plan_model.specs.declared.plan.FeedLine.{FeedLine}
use Rattle.plan_model.specs.declared.plan.Plan.{Plan}
use Rattle.plan_model.specs.Table.{first_that_holds}
use Rattle.plan_model.specs.Text.{Words, words_in, is_skipped}
use Rattle.plan_model.specs.PlanLine.{number, feeds_in, given, is_no_text}
use Rattle.plan_model.specs.Plan.{mode_of, Refusal, unless}
use Rattle.plan_words.specs.declared.fault.LineFault.{LineFault}
use Rattle.plan_words.specs.declared.fault.LineFault.TheVariants.{Refused, Memory}
use Rattle.plan_words.specs.declared.line.PlanLine.{PlanLine}
use Rattle.plan_words.specs.declared.line.PlanLine.TheVariants.{Ring, Batch, Mode, Feed}
use Rattle.plan_words.specs.declared.draft.Draft.{Draft}
use Rattle.plan_words.specs.Read.{own_refusal, line_of}

-- a line as text, or nothing
abbrev pub IsText : List ℕ → Option (Bor (List ℕ)) → Type 0
IsText line None = is_no_text line ≡ true
IsText line (Some text) = (is_no_text line ≡ false) × (text.now ≡ line)

-- what lines say
unfoldable pub draft_of : List Words → Draft
draft_of lines = record {
  ring = option_map number (given (codes "ring") lines);
  batch = option_map number (given (codes "batch") lines);
  mode = option_map mode_of (given (codes "mode") lines);
  feeds = feeds_in lines;
}

abbrev pub is_path : List ℕ → FeedFrom → Bool
is_path out (File path) = bytes_eq path out
is_path out (Tcp host port uid) = false

-- a path of a feed is the output's name
abbrev pub feed_names : List ℕ → FeedLine → Bool
feed_names out feed = bytes_eq feed.doc out || is_path out feed.from

abbrev pub feed_refusal : List ℕ → List FeedLine → FeedLine → Option PlanWhy
feed_refusal out feeds feed =
    first_that_holds ((list_any (λ f. f.id == feed.id) feeds, Repeated)
    ∷ (nat_lt 63 (length feeds), TooManyFeeds)
    ∷ (feed_names out feed, OutputNamed) ∷ [])

abbrev pub once : Bool → Option PlanWhy
once there = if there then Some Repeated else None

-- the first reason against a line beside those before it
abbrev pub refused_beside : List ℕ → Draft → PlanLine → Option PlanWhy
refused_beside out draft (Ring n) = once (is_some draft.ring)
refused_beside out draft (Batch n) = once (is_some draft.batch)
refused_beside out draft (Mode mode) = once (is_some draft.mode)
refused_beside out draft (Feed feed) = feed_refusal out draft.feeds feed

-- a line more
abbrev pub with_line : Draft → PlanLine → Draft
with_line draft (Ring n) = record { ring = Some n; batch = draft.batch; mode = draft.mode; feeds = draft.feeds }
with_line draft (Batch n) = record { ring = draft.ring; batch = Some n; mode = draft.mode; feeds = draft.feeds }
with_line draft (Mode mode) = record { ring = draft.ring; batch = draft.batch; mode = Some mode; feeds = draft.feeds }
with_line draft (Feed feed) = record { ring = draft.ring; batch = draft.batch; mode = draft.mode; feeds = draft.feeds ++ feed ∷ [] }

-- a line was added where nothing is refused, or the refusal was told, unless memory ran out
abbrev pub Adds : Result (Unit {0}) LineFault → Option PlanWhy → Draft → Draft → Type 0
Adds (Ok done) refusal new next = (refusal ≡ None) × (new ≡ next)
Adds (Err (Refused why)) refusal new next = refusal ≡ Some why
Adds (Err Memory) refusal new next = Unit {0}

-- the first reason against a line's bytes, beside what the lines before said
abbrev pub text_refusal : List ℕ → Option PlanWhy
text_refusal line = if is_no_text line then Some NotText else own_refusal (words_in line)

unfoldable pub refused_with : List ℕ → Draft → List ℕ → Option PlanWhy
refused_with out draft line = option_or (text_refusal line) (refused_beside out draft (line_of (words_in line)))

unfoldable pub with_text : Draft → List ℕ → Draft
with_text draft line = with_line draft (line_of (words_in line))

-- all lines, or the first refusal
unfoldable pub drafted : List ℕ → Draft → List (ℕ × List ℕ) → Result Draft Refusal
drafted out draft [] = Ok draft
drafted out draft (x ∷ lines) = unless (refused_with out draft x.1) x.0 (drafted out (with_text draft x.1) lines)

-- the plan where nothing more is said
abbrev pub finished : Draft → Plan
finished draft = record {
  ring = unwrap_or draft.ring 4096;
  batch = unwrap_or draft.batch 512;
  mode = unwrap_or draft.mode Threads;
  feeds = draft.feeds;
}

-- a line of this number more, if it says something
unfoldable pub stepped : List ℕ → Draft → ℕ → List ℕ → Result Draft Refusal
stepped out draft n line = if is_skipped line then Ok draft else unless (refused_with out draft line) n (Ok (with_text draft line))
