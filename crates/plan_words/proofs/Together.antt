-- What lines say together.
use Rattle.std.proofs.Common.{◌≡◌, ℕ, ◌||◌, ◌&&◌, Bool, true, false, cond, not, List, [], ◌∷◌, ◌++◌, length, map, Option, Some, None, Result, Ok, Err, refl, sym, ap, ◌∙◌, nat_eq, nat_lt}
use Rattle.std.specs.Prelude.{codes, is_some, unwrap_or}
use Rattle.std.specs.Option.{option_map, option_or, option_map_or}
use Rattle.std.specs.List.{filter, find}
use Rattle.std.specs.Cmp.Lexicographic.{bytes_decides}
use Rattle.std.proofs.lemmas.Bool.{ne_eqb}
use Rattle.std.proofs.lemmas.List.{append-nil, map-append}
use Rattle.std.proofs.lemmas.List.Folds.{find-append}
use Rattle.std.proofs.lemmas.List.Elements.{filter-append}
use Rattle.plan_model.specs.declared.why.PlanWhy.{PlanWhy}
use Rattle.plan_model.specs.declared.why.PlanWhy.TheVariants.{UnknownWord, WrongCount, BadKind, BadNumber, NotText, NoFeed, TooLong}
use Rattle.plan_model.specs.declared.plan.Mode.TheVariants.{Threads}
use Rattle.plan_model.specs.declared.plan.FeedLine.{FeedLine}
use Rattle.plan_model.specs.declared.plan.Plan.{Plan}
use Rattle.plan_model.specs.Table.{first_that_holds}
use Rattle.plan_model.specs.Text.{Words, words_in, said_lines}
use Rattle.plan_model.specs.PlanLine.{word, has_word, number, is_ring, is_batch, is_mode, is_feed, is_file, is_tcp, feed_of, feeds_in, given, is_no_text, is_unknown, has_wrong_count, has_bad_kind, has_wrong_feed_count, has_no_limit_word, has_bad_number, is_repeated, is_one_too_many, names_output, word_refusals, later_refusals, line_refusal}
use Rattle.plan_model.specs.Plan.{mode_of, plan_of, Refusal, unless, accepted, with_feed, why_number, text_limit, plan_in}
use Rattle.plan_words.specs.declared.draft.Draft.{Draft}
use Rattle.plan_words.specs.Read.{own_refusal, line_of}
use Rattle.plan_words.specs.Drafts.{draft_of, feed_names, feed_refusal, once, refused_beside, with_line, refused_with, with_text, drafted, finished}
use Rattle.plan_words.proofs.ByKind.{apart, first-append}

-- ---- the kind of an accepted line

-- a line is of one of four kinds
pub data Kind (words : Words) : Type 0 where
  a_ring : is_ring words ≡ true → is_batch words ≡ false → is_mode words ≡ false → is_feed words ≡ false → Kind words
  a_batch : is_ring words ≡ false → is_batch words ≡ true → is_mode words ≡ false → is_feed words ≡ false → Kind words
  a_mode : is_ring words ≡ false → is_batch words ≡ false → is_mode words ≡ true → is_feed words ≡ false → Kind words
  a_feed : is_ring words ≡ false → is_batch words ≡ false → is_mode words ≡ false → is_feed words ≡ true → Kind words

pub some_none : (b : Bool) (why : PlanWhy) (o : Option PlanWhy) → cond b (Some why) o ≡ None → (b ≡ false) × (o ≡ None)
some_none true why o e = absurd cc
some_none false why o e = (refl, e)

kind_by : (words : Words) (r b m f : Bool) → is_ring words ≡ r → is_batch words ≡ b → is_mode words ≡ m → is_feed words ≡ f → not (((r || b) || m) || f) ≡ false → Kind words
kind_by words true b m f hr hb hm hf e = a_ring hr (apart (word 0 words) (codes "ring") (codes "batch") hr refl) (apart (word 0 words) (codes "ring") (codes "mode") hr refl) (apart (word 0 words) (codes "ring") (codes "feed") hr refl)
kind_by words false true m f hr hb hm hf e = a_batch hr hb (apart (word 0 words) (codes "batch") (codes "mode") hb refl) (apart (word 0 words) (codes "batch") (codes "feed") hb refl)
kind_by words false false true f hr hb hm hf e = a_mode hr hb hm (apart (word 0 words) (codes "mode") (codes "feed") hm refl)
kind_by words false false false true hr hb hm hf e = a_feed hr hb hm hf
kind_by words false false false false hr hb hm hf e = absurd cc

-- what an accepted line isn't
pub record Accepted (words : Words) : Type 0 where
  pub known : is_unknown words ≡ false
  pub right_kind : has_bad_kind words ≡ false

pub accepted_line : (words : Words) → own_refusal words ≡ None → Accepted words
unfolding own_refusal
accepted_line words own =
    let a = some_none (is_unknown words) UnknownWord (first_that_holds ((has_wrong_count words, WrongCount) ∷ (has_bad_kind words, BadKind) ∷ (has_wrong_feed_count words, WrongCount) ∷ (has_no_limit_word words, BadKind) ∷ (has_bad_number words, BadNumber) ∷ [])) own in
    let b = some_none (has_wrong_count words) WrongCount (first_that_holds ((has_bad_kind words, BadKind) ∷ (has_wrong_feed_count words, WrongCount) ∷ (has_no_limit_word words, BadKind) ∷ (has_bad_number words, BadNumber) ∷ [])) a.1 in
    let d = some_none (has_bad_kind words) BadKind (first_that_holds ((has_wrong_feed_count words, WrongCount) ∷ (has_no_limit_word words, BadKind) ∷ (has_bad_number words, BadNumber) ∷ [])) b.1 in
    record { known = a.0; right_kind = d.0 }

pub kind_of : (words : Words) → is_unknown words ≡ false → Kind words
unfolding is_unknown
kind_of words known = kind_by words (is_ring words) (is_batch words) (is_mode words) (is_feed words) refl refl refl refl known

-- ---- beside the lines before

is_some-map : {A B : Type 0} (f : A → B) (o : Option A) → is_some (option_map f o) ≡ is_some o
is_some-map f None = refl
is_some-map f (Some x) = refl

setting_again : (out : List ℕ) (before : List Words) (words : Words) (name : List ℕ) (b : Bool) → is_feed words ≡ false → word 0 words ≡ name → b ≡ is_some (given name before) → once b ≡ first_that_holds (later_refusals out before words)
unfolding is_repeated is_one_too_many names_output
setting_again out before words name b feed is e = rw (feed, is, e) refl

or_nothing : (b : Bool) → (b || false) ≡ b
or_nothing true = refl
or_nothing false = refl

from_there : (doc file tcp : Bool) → (true && not (doc && (file || tcp))) ≡ false → tcp ≡ false → file ≡ true
from_there true true tcp e f = refl
from_there true false true e f = absurd cc
from_there true false false e f = absurd cc
from_there false file tcp e f = absurd cc

same_names : (out : List ℕ) (words : Words) (tcp : Bool) → is_tcp words ≡ tcp → is_feed words ≡ true → has_bad_kind words ≡ false → feed_names out (feed_of words) ≡ names_output out words
unfolding names_output feed_of has_bad_kind
same_names out words true t feed good =
    let file : is_file words ≡ false = apart (word 4 words) (codes "tcp") (codes "file") t refl in
    rw (t, feed, file) refl
same_names out words false t feed good =
    let mode : is_mode words ≡ false = apart (word 0 words) (codes "feed") (codes "mode") feed refl in
    let kind : (true && not (has_word 2 (codes "doc") words && (is_file words || is_tcp words))) ≡ false = rw (mode, feed) at good in
    let file : is_file words ≡ true = from_there (has_word 2 (codes "doc") words) (is_file words) (is_tcp words) kind t in
    rw (t, feed, file) refl

feed_id : (words : Words) → (feed_of words).id ≡ number (word 1 words)
unfolding feed_of
feed_id words = refl

feed_again : (out : List ℕ) (before : List Words) (words : Words) → is_feed words ≡ true → has_bad_kind words ≡ false → feed_refusal out (feeds_in before) (feed_of words) ≡ first_that_holds (later_refusals out before words)
unfolding is_repeated is_one_too_many
feed_again out before words feed good =
    let names : feed_names out (feed_of words) ≡ names_output out words = same_names out words (is_tcp words) refl feed good in
    let id : (feed_of words).id ≡ number (word 1 words) = feed_id words in
    rw (names, id, feed) refl

beside_by : (out : List ℕ) (before : List Words) (words : Words) → Kind words → has_bad_kind words ≡ false → refused_beside out (draft_of before) (line_of words) ≡ first_that_holds (later_refusals out before words)
unfolding draft_of
beside_by out before words (a_ring r b m f) good =
    rw r (setting_again out before words (codes "ring") (is_some (option_map number (given (codes "ring") before))) f ((bytes_decides (word 0 words) (codes "ring")).0 r) (is_some-map number (given (codes "ring") before)))
beside_by out before words (a_batch r b m f) good =
    rw (r, b) (setting_again out before words (codes "batch") (is_some (option_map number (given (codes "batch") before))) f ((bytes_decides (word 0 words) (codes "batch")).0 b) (is_some-map number (given (codes "batch") before)))
beside_by out before words (a_mode r b m f) good =
    rw (r, b, m) (setting_again out before words (codes "mode") (is_some (option_map mode_of (given (codes "mode") before))) f ((bytes_decides (word 0 words) (codes "mode")).0 m) (is_some-map mode_of (given (codes "mode") before)))
beside_by out before words (a_feed r b m f) good = rw (r, b, m) (feed_again out before words f good)

-- ---- a line more

map_or : {A B : Type 0} (f : A → B) (o p : Option A) → option_map f (option_or o p) ≡ option_or (option_map f o) (option_map f p)
map_or f None p = refl
map_or f (Some x) p = refl

or_none : {A : Type 0} (o : Option A) → option_or o None ≡ o
or_none None = refl
or_none (Some x) = refl

given_more : (name : List ℕ) (before : List Words) (words : Words) → given name (before ++ words ∷ []) ≡ option_or (given name before) (option_map (word 1) (cond (has_word 0 name words) (Some words) None))
given_more name before words = ap (option_map (word 1)) (find-append (has_word 0 name) before (words ∷ [])) ∙ map_or (word 1) (find (has_word 0 name) before) (find (has_word 0 name) (words ∷ []))

not_given : (name : List ℕ) (before : List Words) (words : Words) → has_word 0 name words ≡ false → given name (before ++ words ∷ []) ≡ given name before
not_given name before words other = given_more name before words ∙ ap (λ (b : Bool). option_or (given name before) (option_map (word 1) (cond b (Some words) None))) other ∙ or_none (given name before)

no_some : {A : Type 0} (o : Option A) → is_some o ≡ false → o ≡ None
no_some None e = refl
no_some (Some x) e = absurd cc

first_given : (name : List ℕ) (before : List Words) (words : Words) → has_word 0 name words ≡ true → is_some (given name before) ≡ false → given name (before ++ words ∷ []) ≡ Some (word 1 words)
first_given name before words this none =
    let e : given name before ≡ None = no_some (given name before) none in
    given_more name before words ∙ ap (λ (b : Bool). option_or (given name before) (option_map (word 1) (cond b (Some words) None))) this ∙ ap (λ (o : Option (List ℕ)). option_or o (Some (word 1 words))) e

feeds_more : (before : List Words) (words : Words) (b : Bool) → is_feed words ≡ b → feeds_in (before ++ words ∷ []) ≡ feeds_in before ++ cond b (feed_of words ∷ []) []
feeds_more before words b e = ap (map feed_of) (filter-append is_feed before (words ∷ [])) ∙ map-append feed_of (filter is_feed before) (filter is_feed (words ∷ [])) ∙ ap (λ (more : List FeedLine). feeds_in before ++ more) (one_feed b e)
  where
    one_feed : (b : Bool) → is_feed words ≡ b → map feed_of (filter is_feed (words ∷ [])) ≡ cond b (feed_of words ∷ []) []
    one_feed true e = rw e refl
    one_feed false e = rw e refl

same_feeds : (before : List Words) (words : Words) → is_feed words ≡ false → feeds_in (before ++ words ∷ []) ≡ feeds_in before
same_feeds before words f = feeds_more before words false f ∙ append-nil (feeds_in before)

not_once : (b : Bool) → once b ≡ None → b ≡ false
not_once true e = absurd cc
not_once false e = refl

beside_ring : (out : List ℕ) (before : List Words) (words : Words) → is_ring words ≡ true → refused_beside out (draft_of before) (line_of words) ≡ once (is_some (given (codes "ring") before))
unfolding draft_of
beside_ring out before words r = rw (r, is_some-map number (given (codes "ring") before)) refl

beside_batch : (out : List ℕ) (before : List Words) (words : Words) → is_ring words ≡ false → is_batch words ≡ true → refused_beside out (draft_of before) (line_of words) ≡ once (is_some (given (codes "batch") before))
unfolding draft_of
beside_batch out before words r b = rw (r, b, is_some-map number (given (codes "batch") before)) refl

beside_mode : (out : List ℕ) (before : List Words) (words : Words) → is_ring words ≡ false → is_batch words ≡ false → is_mode words ≡ true → refused_beside out (draft_of before) (line_of words) ≡ once (is_some (given (codes "mode") before))
unfolding draft_of
beside_mode out before words r b m = rw (r, b, m, is_some-map mode_of (given (codes "mode") before)) refl

added : (out : List ℕ) (before : List Words) (words : Words) → Kind words → refused_beside out (draft_of before) (line_of words) ≡ None → with_line (draft_of before) (line_of words) ≡ draft_of (before ++ words ∷ [])
unfolding draft_of
added out before words (a_ring r b m f) e =
    let free = not_once (is_some (given (codes "ring") before)) (sym (beside_ring out before words r) ∙ e) in
    let ring : given (codes "ring") (before ++ words ∷ []) ≡ Some (word 1 words) = first_given (codes "ring") before words r free in
    let batch : given (codes "batch") (before ++ words ∷ []) ≡ given (codes "batch") before = not_given (codes "batch") before words b in
    let mode : given (codes "mode") (before ++ words ∷ []) ≡ given (codes "mode") before = not_given (codes "mode") before words m in
    let feeds : feeds_in (before ++ words ∷ []) ≡ feeds_in before = same_feeds before words f in
    rw (r, ring, batch, mode, feeds) refl
added out before words (a_batch r b m f) e =
    let free = not_once (is_some (given (codes "batch") before)) (sym (beside_batch out before words r b) ∙ e) in
    let ring : given (codes "ring") (before ++ words ∷ []) ≡ given (codes "ring") before = not_given (codes "ring") before words r in
    let batch : given (codes "batch") (before ++ words ∷ []) ≡ Some (word 1 words) = first_given (codes "batch") before words b free in
    let mode : given (codes "mode") (before ++ words ∷ []) ≡ given (codes "mode") before = not_given (codes "mode") before words m in
    let feeds : feeds_in (before ++ words ∷ []) ≡ feeds_in before = same_feeds before words f in
    rw (r, b, ring, batch, mode, feeds) refl
added out before words (a_mode r b m f) e =
    let free = not_once (is_some (given (codes "mode") before)) (sym (beside_mode out before words r b m) ∙ e) in
    let ring : given (codes "ring") (before ++ words ∷ []) ≡ given (codes "ring") before = not_given (codes "ring") before words r in
    let batch : given (codes "batch") (before ++ words ∷ []) ≡ given (codes "batch") before = not_given (codes "batch") before words b in
    let mode : given (codes "mode") (before ++ words ∷ []) ≡ Some (word 1 words) = first_given (codes "mode") before words m free in
    let feeds : feeds_in (before ++ words ∷ []) ≡ feeds_in before = same_feeds before words f in
    rw (r, b, m, ring, batch, mode, feeds) refl
added out before words (a_feed r b m f) e =
    let ring : given (codes "ring") (before ++ words ∷ []) ≡ given (codes "ring") before = not_given (codes "ring") before words r in
    let batch : given (codes "batch") (before ++ words ∷ []) ≡ given (codes "batch") before = not_given (codes "batch") before words b in
    let mode : given (codes "mode") (before ++ words ∷ []) ≡ given (codes "mode") before = not_given (codes "mode") before words m in
    let feeds : feeds_in (before ++ words ∷ []) ≡ feeds_in before ++ feed_of words ∷ [] = feeds_more before words true f in
    rw (r, b, m, ring, batch, mode, feeds) refl

-- ---- all lines

or_by : (own beside later : Option PlanWhy) → (own ≡ None → beside ≡ later) → option_or own beside ≡ option_or own later
or_by None beside later same = same refl
or_by (Some why) beside later same = refl

text_by : (b : Bool) (own beside later : Option PlanWhy) → (own ≡ None → beside ≡ later) → option_or (cond b (Some NotText) own) beside ≡ cond b (Some NotText) (option_or own later)
text_by true own beside later same = refl
text_by false own beside later same = or_by own beside later same

beside_same : (out : List ℕ) (before : List Words) (words : Words) → own_refusal words ≡ None → refused_beside out (draft_of before) (line_of words) ≡ first_that_holds (later_refusals out before words)
beside_same out before words own = let a = accepted_line words own in beside_by out before words (kind_of words a.known) a.right_kind

-- a line is refused as the table says
same_refusal : (out : List ℕ) (before : List Words) (line : List ℕ) → refused_with out (draft_of before) line ≡ line_refusal out before line
unfolding refused_with line_refusal own_refusal
same_refusal out before line =
    let words = words_in line in
    text_by (is_no_text line) (own_refusal words) (refused_beside out (draft_of before) (line_of words)) (first_that_holds (later_refusals out before words)) (beside_same out before words)
    ∙ ap (λ (o : Option PlanWhy). cond (is_no_text line) (Some NotText) o) (sym (first-append (word_refusals words) (later_refusals out before words)))

pub own_none : (b : Bool) (own beside : Option PlanWhy) → option_or (cond b (Some NotText) own) beside ≡ None → (own ≡ None) × (beside ≡ None)
own_none true own beside e = absurd cc
own_none false None beside e = (refl, e)
own_none false (Some why) beside e = absurd cc

same_draft : (out : List ℕ) (before : List Words) (line : List ℕ) → refused_with out (draft_of before) line ≡ None → with_text (draft_of before) line ≡ draft_of (before ++ words_in line ∷ [])
unfolding refused_with with_text
same_draft out before line e =
    let words = words_in line in
    let n = own_none (is_no_text line) (own_refusal words) (refused_beside out (draft_of before) (line_of words)) e in
    added out before words (kind_of words (accepted_line words n.0).known) n.1

abbrev drafts : Result (List Words) Refusal → Result Draft Refusal
drafts (Ok lines) = Ok (draft_of lines)
drafts (Err refusal) = Err refusal

one_line : (out : List ℕ) (before : List Words) (x : ℕ × List ℕ) (lines : List (ℕ × List ℕ)) (o : Option PlanWhy) → line_refusal out before x.1 ≡ o
    → drafted out (draft_of (before ++ words_in x.1 ∷ [])) lines ≡ drafts (accepted out (before ++ words_in x.1 ∷ []) lines)
    → unless (refused_with out (draft_of before) x.1) x.0 (drafted out (with_text (draft_of before) x.1) lines) ≡ drafts (unless (line_refusal out before x.1) x.0 (accepted out (before ++ words_in x.1 ∷ []) lines))
one_line out before x lines None e more =
    let r : refused_with out (draft_of before) x.1 ≡ None = same_refusal out before x.1 ∙ e in
    let d = same_draft out before x.1 r in
    rw (r, e, d) more
one_line out before x lines (Some why) e more =
    let r : refused_with out (draft_of before) x.1 ≡ Some why = same_refusal out before x.1 ∙ e in
    rw (r, e) refl

all_lines : (out : List ℕ) (before : List Words) (lines : List (ℕ × List ℕ)) → drafted out (draft_of before) lines ≡ drafts (accepted out before lines)
unfolding drafted accepted
all_lines out before [] = refl
all_lines out before (x ∷ lines) = one_line out before x lines (line_refusal out before x.1) refl (all_lines out (before ++ words_in x.1 ∷ []) lines)

-- ---- the plan

unwrap_map : {A B : Type 0} (f : A → B) (o : Option A) (d : B) → unwrap_or (option_map f o) d ≡ option_map_or f o d
unwrap_map f None d = refl
unwrap_map f (Some x) d = refl

plan_is : (lines : List Words) → plan_of lines ≡ finished (draft_of lines)
unfolding plan_of draft_of
plan_is lines = rw (unwrap_map number (given (codes "ring") lines) 4096, unwrap_map number (given (codes "batch") lines) 512, unwrap_map mode_of (given (codes "mode") lines) Threads) refl

-- the plan of what all lines say
abbrev pub ended : Result Draft Refusal → Result Plan Refusal
ended (Ok draft) = cond (nat_eq (length draft.feeds) 0) (Err (0, why_number NoFeed)) (Ok (finished draft))
ended (Err refusal) = Err refusal

feeds_of_draft : (lines : List Words) → (draft_of lines).feeds ≡ feeds_in lines
unfolding draft_of
feeds_of_draft lines = refl

same_end : (read : Result (List Words) Refusal) → with_feed read ≡ ended (drafts read)
same_end (Ok lines) = let e = plan_is lines in let f : (draft_of lines).feeds ≡ feeds_in lines = feeds_of_draft lines in rw (e, f) refl
same_end (Err refusal) = refl

pub plan_of_lines : (text out : List ℕ) → nat_lt text_limit (length text) ≡ false → plan_in text out ≡ ended (drafted out (draft_of []) (said_lines text))
unfolding plan_in
plan_of_lines text out short = rw short (same_end (accepted out [] (said_lines text)) ∙ ap ended (sym (all_lines out [] (said_lines text))))

pub too_long : (text out : List ℕ) → nat_lt text_limit (length text) ≡ true → plan_in text out ≡ Err (0, why_number TooLong)
unfolding plan_in
too_long text out long = rw long refl

pub no_feed : (draft : Draft) → length draft.feeds ≡ 0 → ended (Ok draft) ≡ Err (0, why_number NoFeed)
no_feed draft none = rw none refl

pub some_feed : (draft : Draft) → (length draft.feeds ≡ 0 → ⊥) → ended (Ok draft) ≡ Ok (finished draft)
some_feed draft some = let e : nat_eq (length draft.feeds) 0 ≡ false = ne_eqb (length draft.feeds) 0 some in rw e refl
