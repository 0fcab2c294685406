-- The table for each kind of line.
use Rattle.std.proofs.Common.{◌≡◌, ℕ, ◌-◌, ◌≤◌, ◌||◌, ◌&&◌, Bool, true, false, not, List, [], ◌∷◌, ◌++◌, length, cond, Option, Some, None, Result, Ok, Err, refl, ap, sym, ◌∙◌, arith, nat_eq, nat_lt, subst}
use Rattle.std.specs.Prelude.{codes}
use Rattle.std.specs.Result.{IsErrAnd}
use Rattle.std.specs.Option.{option_or}
use Rattle.std.specs.Str.{bytes_eq}
use Rattle.std.proofs.lemmas.List.Folds.{list_any-append}
use Rattle.plan_model.specs.declared.plan.FeedFrom.{FeedFrom}
use Rattle.std.specs.Cmp.Lexicographic.{bytes_decides}
use Rattle.std.proofs.lemmas.Bool.{eqb-true}
use Rattle.std.proofs.lemmas.Bool.Decides.{nat_tests}
use Rattle.plan_model.specs.declared.why.PlanWhy.{PlanWhy}
use Rattle.plan_model.specs.declared.why.PlanWhy.TheVariants.{UnknownWord, WrongCount, BadKind, BadNumber}
use Rattle.plan_model.specs.Table.{first_that_holds}
use Rattle.plan_model.specs.Text.{Words}
use Rattle.plan_model.specs.PlanLine.{word, has_word, number, is_ring, is_batch, is_mode, is_feed, is_file, is_tcp, has_limit, ring_limit, batch_limit, id_limit, is_number, is_unknown, has_wrong_count, has_bad_kind, has_wrong_feed_count, has_no_limit_word, has_bad_number, port_number, limit_number, from_of, limit_of, feed_of}
use Rattle.plan_model.specs.declared.plan.Mode.{Mode as ModeValue}
use Rattle.plan_model.specs.Plan.{mode_of}
use Rattle.plan_words.specs.declared.line.PlanLine.TheVariants.{Ring, Batch, Mode}
use Rattle.plan_words.specs.declared.fault.LineFault.{LineFault}
use Rattle.plan_words.specs.declared.fault.LineFault.TheVariants.{Refused, Memory}
use Rattle.plan_words.specs.Read.{own_refusal, setting_refusal, mode_refusal, count_refusal, form_refusal, port_refusal, limit_refusal, bad_among, form_of, Reads, line_of}

-- a word that is one isn't another
pub apart : (w a b : List ℕ) → bytes_eq w a ≡ true → bytes_eq a b ≡ false → bytes_eq w b ≡ false
apart w a b e f = ap (λ (x : List ℕ). bytes_eq x b) ((bytes_decides w a).0 e) ∙ f

or_nothing : (b : Bool) → (b || false) ≡ b
or_nothing true = refl
or_nothing false = refl

pub ring_line : (words : Words) → is_ring words ≡ true → own_refusal words ≡ setting_refusal ring_limit words
unfolding own_refusal is_unknown has_wrong_count has_bad_kind has_wrong_feed_count has_no_limit_word has_bad_number
ring_line words ring =
    let mode : is_mode words ≡ false = apart (word 0 words) (codes "ring") (codes "mode") ring refl in
    let feed : is_feed words ≡ false = apart (word 0 words) (codes "ring") (codes "feed") ring refl in
    rw (ring, mode, feed, or_nothing (not (is_number ring_limit (word 1 words)))) refl

pub batch_line : (words : Words) → is_batch words ≡ true → own_refusal words ≡ setting_refusal batch_limit words
unfolding own_refusal is_unknown has_wrong_count has_bad_kind has_wrong_feed_count has_no_limit_word has_bad_number
batch_line words batch =
    let ring : is_ring words ≡ false = apart (word 0 words) (codes "batch") (codes "ring") batch refl in
    let mode : is_mode words ≡ false = apart (word 0 words) (codes "batch") (codes "mode") batch refl in
    let feed : is_feed words ≡ false = apart (word 0 words) (codes "batch") (codes "feed") batch refl in
    rw (ring, batch, mode, feed, or_nothing (not (is_number batch_limit (word 1 words)))) refl

pub mode_line : (words : Words) → is_mode words ≡ true → own_refusal words ≡ mode_refusal words
unfolding own_refusal is_unknown has_wrong_count has_bad_kind has_wrong_feed_count has_no_limit_word has_bad_number
mode_line words mode =
    let ring : is_ring words ≡ false = apart (word 0 words) (codes "mode") (codes "ring") mode refl in
    let batch : is_batch words ≡ false = apart (word 0 words) (codes "mode") (codes "batch") mode refl in
    let feed : is_feed words ≡ false = apart (word 0 words) (codes "mode") (codes "feed") mode refl in
    rw (ring, batch, mode, feed, or_nothing (not (has_word 1 (codes "threads") words || has_word 1 (codes "turns") words))) refl

pub no_line : (words : Words) → is_ring words ≡ false → is_batch words ≡ false → is_mode words ≡ false → is_feed words ≡ false → own_refusal words ≡ Some UnknownWord
unfolding own_refusal is_unknown
no_line words ring batch mode feed = rw (ring, batch, mode, feed) refl

-- ---- feeds

pub feed_short : (words : Words) → nat_lt (length words) 6 ≡ true → form_refusal words ≡ Some WrongCount
unfolding form_refusal
feed_short words few = rw few refl

pub no_mode : (words : Words) → is_feed words ≡ true → is_mode words ≡ false
no_mode words feed = apart (word 0 words) (codes "feed") (codes "mode") feed refl

pub feed_undocumented : (words : Words) → is_feed words ≡ true → nat_lt (length words) 6 ≡ false → has_word 2 (codes "doc") words ≡ false → form_refusal words ≡ Some BadKind
unfolding form_refusal has_bad_kind
feed_undocumented words feed many doc = rw (many, no_mode words feed, feed, doc) refl

pub feed_from_nowhere : (words : Words) → is_feed words ≡ true → nat_lt (length words) 6 ≡ false → has_word 2 (codes "doc") words ≡ true → is_file words ≡ false → is_tcp words ≡ false → form_refusal words ≡ Some BadKind
unfolding form_refusal has_bad_kind
feed_from_nowhere words feed many doc file tcp = rw (many, no_mode words feed, feed, doc, file, tcp) refl

file_rows : (n : ℕ) (words : Words) (b : Bool) → nat_eq n 8 ≡ b
    → first_that_holds ((not (nat_eq n 6 || nat_eq n 8) || false, WrongCount) ∷ ((nat_eq n 8 || false) && not (has_word (n - 2) (codes "limit") words), BadKind) ∷ [])
    ≡ first_that_holds ((not (nat_eq n 6 || nat_eq n 8), WrongCount) ∷ (nat_eq n 8 && not (has_word 6 (codes "limit") words), BadKind) ∷ [])
file_rows n words true e =
    let P : ℕ → Type 0 = λ m. first_that_holds ((not (nat_eq m 6 || nat_eq m 8) || false, WrongCount) ∷ ((nat_eq m 8 || false) && not (has_word (m - 2) (codes "limit") words), BadKind) ∷ [])
    ≡ first_that_holds ((not (nat_eq m 6 || nat_eq m 8), WrongCount) ∷ (nat_eq m 8 && not (has_word 6 (codes "limit") words), BadKind) ∷ []) in
    subst P (sym (eqb-true n 8 e)) refl
file_rows n words false e = rw (e, or_nothing (not (nat_eq n 6 || false))) refl

pub feed_from_file : (words : Words) → is_feed words ≡ true → nat_lt (length words) 6 ≡ false → has_word 2 (codes "doc") words ≡ true → is_file words ≡ true → form_refusal words ≡ count_refusal 6 words
unfolding form_refusal has_bad_kind has_wrong_feed_count has_no_limit_word has_limit
feed_from_file words feed many doc file =
    let tcp : is_tcp words ≡ false = apart (word 4 words) (codes "file") (codes "tcp") file refl in
    rw (many, no_mode words feed, feed, doc, file, tcp) (file_rows (length words) words (nat_eq (length words) 8) refl)

tcp_rows : (n : ℕ) (words : Words) (b : Bool) → nat_eq n 10 ≡ b
    → first_that_holds ((not (nat_eq n 8 || nat_eq n 10), WrongCount) ∷ (nat_eq n 10 && not (has_word (n - 2) (codes "limit") words), BadKind) ∷ [])
    ≡ first_that_holds ((not (nat_eq n 8 || nat_eq n 10), WrongCount) ∷ (nat_eq n 10 && not (has_word 8 (codes "limit") words), BadKind) ∷ [])
tcp_rows n words true e =
    let P : ℕ → Type 0 = λ m. first_that_holds ((not (nat_eq m 8 || nat_eq m 10), WrongCount) ∷ (nat_eq m 10 && not (has_word (m - 2) (codes "limit") words), BadKind) ∷ [])
    ≡ first_that_holds ((not (nat_eq m 8 || nat_eq m 10), WrongCount) ∷ (nat_eq m 10 && not (has_word 8 (codes "limit") words), BadKind) ∷ []) in
    subst P (sym (eqb-true n 10 e)) refl
tcp_rows n words false e = rw e refl

pub feed_from_outlet : (words : Words) → is_feed words ≡ true → nat_lt (length words) 6 ≡ false → has_word 2 (codes "doc") words ≡ true → is_tcp words ≡ true → form_refusal words ≡ count_refusal 8 words
unfolding form_refusal has_bad_kind has_wrong_feed_count has_no_limit_word has_limit
feed_from_outlet words feed many doc tcp =
    let file : is_file words ≡ false = apart (word 4 words) (codes "tcp") (codes "file") tcp refl in
    rw (many, no_mode words feed, feed, doc, tcp, file) (tcp_rows (length words) words (nat_eq (length words) 10) refl)

pub file_form : (words : Words) (limited : Bool) → is_file words ≡ true → limited ≡ nat_eq (length words) 8 → record { tcp = false; limited = limited } ≡ form_of words
unfolding has_limit
file_form words limited file e =
    let tcp : is_tcp words ≡ false = apart (word 4 words) (codes "file") (codes "tcp") file refl in
    rw (file, tcp, e, or_nothing (nat_eq (length words) 8)) refl

pub tcp_form : (words : Words) (limited : Bool) → is_tcp words ≡ true → limited ≡ nat_eq (length words) 10 → record { tcp = true; limited = limited } ≡ form_of words
unfolding has_limit
tcp_form words limited tcp e =
    let file : is_file words ≡ false = apart (word 4 words) (codes "tcp") (codes "file") tcp refl in
    rw (file, tcp, e) refl

err_as : {A B : Type 0} (e : LineFault) (r s : Option PlanWhy) (a : A) (b : B) → ((why : PlanWhy) → r ≡ Some why → s ≡ Some why) → Reads (Err e) r a → Reads (Err e) s b
err_as (Refused why) r s a b same h = same why h
err_as Memory r s a b same h = tt

-- a reader's fault is handed on
pub handed_on : {A B : Type 0} (result : Result B LineFault) (e : LineFault) (r s : Option PlanWhy) (a : A) (b : B) → IsErrAnd result (λ x. x ≡ e) → ((why : PlanWhy) → r ≡ Some why → s ≡ Some why) → Reads (Err e) r a → Reads result s b
handed_on (Ok x) e r s a b it same h = absurd it
handed_on {B = B} (Err f) e r s a b it same h = let P : LineFault → Type 0 = λ x. Reads {A = B} (Err x) s b in subst P (sym it) (err_as e r s a b same h)

pub same_why : (r s : Option PlanWhy) → s ≡ r → (why : PlanWhy) → r ≡ Some why → s ≡ Some why
same_why r s e why h = e ∙ h

limit_len : (words : Words) (file tcp : Bool) → ((file && nat_eq (length words) 8) || (tcp && nat_eq (length words) 10)) ≡ true → 8 ≤ length words
limit_len words file tcp e = grind (arith, nat_tests)

pub limited_len : (words : Words) → has_limit words ≡ true → 8 ≤ length words
unfolding has_limit
limited_len words e = limit_len words (is_file words) (is_tcp words) e

-- ---- two tables, one behind the other

pick : {A : Type 0} (b : Bool) (x : A) (o p q : Option A) → p ≡ option_or o q → cond b (Some x) p ≡ option_or (cond b (Some x) o) q
pick true x o p q e = refl
pick false x o p q e = e

pub first-append : {A : Type 0} (rows more : List (Bool × A)) → first_that_holds (rows ++ more) ≡ option_or (first_that_holds rows) (first_that_holds more)
first-append [] more = refl
first-append (row ∷ rows) more = pick row.0 row.1 (first_that_holds rows) (first_that_holds (rows ++ more)) (first_that_holds more) (first-append rows more)

abbrev feed_numbers : Words → List (ℕ × List ℕ)
feed_numbers words = (id_limit, word 1 words) ∷ (port_number words ++ limit_number words)

feed_own : (words : Words) → is_feed words ≡ true → own_refusal words ≡ option_or (form_refusal words) (first_that_holds ((bad_among (feed_numbers words), BadNumber) ∷ []))
unfolding own_refusal is_unknown has_wrong_count form_refusal has_bad_number
feed_own words feed =
    let ring : is_ring words ≡ false = apart (word 0 words) (codes "feed") (codes "ring") feed refl in
    let batch : is_batch words ≡ false = apart (word 0 words) (codes "feed") (codes "batch") feed refl in
    let mode : is_mode words ≡ false = apart (word 0 words) (codes "feed") (codes "mode") feed refl in
    let rows = first-append ((nat_lt (length words) 6, WrongCount) ∷ (has_bad_kind words, BadKind) ∷ (has_wrong_feed_count words, WrongCount) ∷ (has_no_limit_word words, BadKind) ∷ []) ((bad_among (feed_numbers words), BadNumber) ∷ []) in
    rw (ring, batch, mode, feed) rows

pub form_refused : (words : Words) → is_feed words ≡ true → (why : PlanWhy) → form_refusal words ≡ Some why → own_refusal words ≡ Some why
form_refused words feed why e = feed_own words feed ∙ ap (λ (o : Option PlanWhy). option_or o (first_that_holds ((bad_among (feed_numbers words), BadNumber) ∷ []))) e

formed : (words : Words) (bad : Bool) → is_feed words ≡ true → form_refusal words ≡ None → bad_among (feed_numbers words) ≡ bad → own_refusal words ≡ first_that_holds ((bad, BadNumber) ∷ [])
formed words bad feed form e = feed_own words feed ∙ ap (λ (o : Option PlanWhy). option_or o (first_that_holds ((bad_among (feed_numbers words), BadNumber) ∷ []))) form ∙ ap (λ (b : Bool). first_that_holds ((b, BadNumber) ∷ [])) e

bad_is : (words : Words) → bad_among (feed_numbers words) ≡ (not (is_number id_limit (word 1 words)) || (bad_among (port_number words) || bad_among (limit_number words)))
bad_is words = ap (λ (b : Bool). not (is_number id_limit (word 1 words)) || b) (list_any-append (λ x. not (is_number x.0 x.1)) (port_number words) (limit_number words))

pub id_refused : (words : Words) → is_feed words ≡ true → form_refusal words ≡ None → is_number id_limit (word 1 words) ≡ false → own_refusal words ≡ Some BadNumber
id_refused words feed form id = formed words true feed form (bad_is words ∙ ap (λ (b : Bool). not b || (bad_among (port_number words) || bad_among (limit_number words))) id)

if_some : (b : Bool) (why : PlanWhy) → first_that_holds ((b, BadNumber) ∷ []) ≡ Some why → (b ≡ true) × (BadNumber ≡ why)
if_some true why e = (refl, cc)
if_some false why e = absurd cc

if_none : (b : Bool) → first_that_holds ((b, BadNumber) ∷ []) ≡ None → b ≡ false
if_none true e = absurd cc
if_none false e = refl

pub port_refused : (words : Words) → is_feed words ≡ true → form_refusal words ≡ None → is_number id_limit (word 1 words) ≡ true → (why : PlanWhy) → port_refusal words ≡ Some why → own_refusal words ≡ Some why
port_refused words feed form id why e =
    let bad = if_some (bad_among (port_number words)) why e in
    let all : bad_among (feed_numbers words) ≡ true = bad_is words ∙ rw (id, bad.0) refl in
    formed words true feed form all ∙ ap Some bad.1

pub limit_refused : (words : Words) → is_feed words ≡ true → form_refusal words ≡ None → is_number id_limit (word 1 words) ≡ true → port_refusal words ≡ None → (why : PlanWhy) → limit_refusal words ≡ Some why → own_refusal words ≡ Some why
limit_refused words feed form id port why e =
    let good : bad_among (port_number words) ≡ false = if_none (bad_among (port_number words)) port in
    let bad = if_some (bad_among (limit_number words)) why e in
    let all : bad_among (feed_numbers words) ≡ true = bad_is words ∙ rw (id, good, bad.0) refl in
    formed words true feed form all ∙ ap Some bad.1

pub feed_taken : (words : Words) → is_feed words ≡ true → form_refusal words ≡ None → is_number id_limit (word 1 words) ≡ true → port_refusal words ≡ None → limit_refusal words ≡ None → own_refusal words ≡ None
feed_taken words feed form id port limit =
    let good : bad_among (port_number words) ≡ false = if_none (bad_among (port_number words)) port in
    let more : bad_among (limit_number words) ≡ false = if_none (bad_among (limit_number words)) limit in
    let all : bad_among (feed_numbers words) ≡ false = bad_is words ∙ rw (id, good, more) refl in
    formed words false feed form all

-- the numbers of an accepted feed
pub record GoodNumbers (words : Words) : Type 0 where
  pub id : is_number id_limit (word 1 words) ≡ true
  pub port : bad_among (port_number words) ≡ false
  pub limit : bad_among (limit_number words) ≡ false

none_behind : {A : Type 0} (o p : Option A) → option_or o p ≡ None → p ≡ None
none_behind None p e = e
none_behind (Some x) p e = absurd cc

no_bad : (id port limit : Bool) → (not id || (port || limit)) ≡ false → (id ≡ true) × (port ≡ false) × (limit ≡ false)
no_bad true true limit e = absurd cc
no_bad true false limit e = (refl, refl, e)
no_bad false port limit e = absurd cc

pub good_numbers : (words : Words) → is_feed words ≡ true → own_refusal words ≡ None → GoodNumbers words
good_numbers words feed own =
    let none = none_behind (form_refusal words) (first_that_holds ((bad_among (feed_numbers words), BadNumber) ∷ [])) (sym (feed_own words feed) ∙ own) in
    let good = no_bad (is_number id_limit (word 1 words)) (bad_among (port_number words)) (bad_among (limit_number words)) (sym (bad_is words) ∙ if_none (bad_among (feed_numbers words)) none) in
    record { id = good.0; port = good.1; limit = good.2 }

pub feed_is : (words : Words) (id : ℕ) (doc : List ℕ) (from : FeedFrom) (limit : Option ℕ) → id ≡ number (word 1 words) → doc ≡ word 3 words → from ≡ from_of words → limit ≡ limit_of words → record { id = id; doc = doc; from = from; limit = limit } ≡ feed_of words
unfolding feed_of
feed_is words id doc from limit a b c d = rw (a, b, c, d) refl

-- ---- what a line says

pub ring_is : (words : Words) (n : ℕ) → is_ring words ≡ true → n ≡ number (word 1 words) → Ring n ≡ line_of words
ring_is words n ring e = rw (ring, e) refl

pub batch_is : (words : Words) (n : ℕ) → is_ring words ≡ false → is_batch words ≡ true → n ≡ number (word 1 words) → Batch n ≡ line_of words
batch_is words n ring batch e = rw (ring, batch, e) refl

pub mode_is : (words : Words) (mode : ModeValue) → is_ring words ≡ false → is_batch words ≡ false → is_mode words ≡ true → mode ≡ mode_of (word 1 words) → Mode mode ≡ line_of words
mode_is words mode ring batch is e = rw (ring, batch, is, e) refl
