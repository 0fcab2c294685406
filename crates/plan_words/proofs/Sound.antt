-- What holds of what lines say together.
use Rattle.std.proofs.Common.{◌≡◌, ◌≢◌, ℕ, ◌-◌, ◌<◌, ◌≤◌, ◌||◌, ◌&&◌, Bool, true, false, cond, not, List, [], ◌∷◌, ◌++◌, length, Option, Some, None, Ok, refl, sym, ap, ◌∙◌, arith, nat_eq, nat_lt, nat_le, lit≤, subst}
use Rattle.std.specs.Prelude.{IfSome, unwrap_or}
use Rattle.std.specs.List.{list_any, list_all, AllByRecursion}
use Rattle.std.specs.Char.{is_ascii_digit}
use Rattle.std.specs.Str.{bytes_eq}
use Rattle.std.specs.Cmp.Lexicographic.{bytes_decides}
use Rattle.std.proofs.lemmas.Bool.{ltb-false}
use Rattle.std.proofs.lemmas.Bool.Decides.{nat_tests, Decides-eqb}
use Rattle.std.proofs.lemmas.List.{length-append}
use Rattle.plan_model.specs.declared.why.PlanWhy.{PlanWhy}
use Rattle.plan_model.specs.declared.why.PlanWhy.TheVariants.{Repeated, TooManyFeeds, OutputNamed, WrongCount, BadNumber}
use Rattle.plan_model.specs.declared.plan.FeedFrom.TheVariants.{File, Tcp}
use Rattle.plan_model.specs.declared.plan.FeedLine.{FeedLine}
use Rattle.plan_model.specs.Table.{first_that_holds}
use Rattle.plan_model.specs.Text.{Words, words_in}
use Rattle.plan_model.specs.PlanLine.{word, number, is_number, is_tcp, has_limit, from_of, feed_of, ring_limit, batch_limit, id_limit, port_limit, sample_limit, is_no_text}
use Rattle.plan_model.specs.Plan.{unless, mode_of}
use Rattle.plan_model.specs.Sound.{IsUpTo, IsFrom, IsFeed, AreFeeds, IsPlan}
use Rattle.plan_words.specs.declared.draft.Draft.{Draft}
use Rattle.plan_words.specs.declared.line.PlanLine.TheVariants.{Ring, Batch, Mode, Feed}
use Rattle.plan_words.specs.Read.{own_refusal, line_of, setting_refusal, bad_among}
use Rattle.plan_words.specs.Drafts.{draft_of, feed_names, is_path, feed_refusal, refused_beside, with_line, refused_with, with_text, drafted, finished}
use Rattle.plan_words.proofs.ByKind.{ring_line, batch_line, GoodNumbers, good_numbers}
use Rattle.plan_words.proofs.Together.{Kind, a_ring, a_batch, a_mode, a_feed, accepted_line, kind_of, own_none, some_none}

-- ---- numbers

and_both : (a b : Bool) → (a && b) ≡ true → (a ≡ true) × (b ≡ true)
and_both true b e = (refl, e)
and_both false b e = absurd cc

up_to : (n most : ℕ) → nat_lt 0 n ≡ true → nat_le n most ≡ true → IsUpTo most n
up_to n most low high = (grind (arith, nat_tests), grind (arith, nat_tests))

pub number_range : (most : ℕ) (text : List ℕ) → is_number most text ≡ true → IsUpTo most (number text)
unfolding is_number
number_range most text e =
    let a = and_both (nat_lt 0 (length text) && nat_lt (length text) 14 && list_all is_ascii_digit text && nat_lt 0 (number text)) (nat_le (number text) most) e in
    let b = and_both (nat_lt 0 (length text) && nat_lt (length text) 14 && list_all is_ascii_digit text) (nat_lt 0 (number text)) a.0 in
    up_to (number text) most b.1 a.1

not_false : (b : Bool) → not b ≡ false → b ≡ true
not_false true e = refl
not_false false e = absurd cc

setting_range : (most : ℕ) (words : Words) → setting_refusal most words ≡ None → IsUpTo most (number (word 1 words))
setting_range most words e =
    let a = some_none (not (nat_eq (length words) 2)) WrongCount (first_that_holds ((not (is_number most (word 1 words)), BadNumber) ∷ [])) e in
    let b = some_none (not (is_number most (word 1 words))) BadNumber None a.1 in
    number_range most (word 1 words) (not_false (is_number most (word 1 words)) b.0)

-- ---- a feed

not_or : (b : Bool) → (not b || false) ≡ false → b ≡ true
not_or true e = refl
not_or false e = absurd cc

limit_by : (words : Words) (b : Bool) → bad_among (cond b ((sample_limit, word (length words - 1) words) ∷ []) []) ≡ false → IfSome (cond b (Some (number (word (length words - 1) words))) None) (IsUpTo sample_limit)
limit_by words true good = number_range sample_limit (word (length words - 1) words) (not_or (is_number sample_limit (word (length words - 1) words)) good)
limit_by words false good = tt

not_named : (out text : List ℕ) → bytes_eq text out ≡ false → text ≢ out
not_named out text e = λ same. let t : bytes_eq text out ≡ true = (bytes_decides text out).1 same in absurd cc

or_false : (a b : Bool) → (a || b) ≡ false → (a ≡ false) × (b ≡ false)
or_false true b e = absurd cc
or_false false b e = (refl, e)

from_by : (out : List ℕ) (words : Words) (b : Bool) → bad_among (cond b ((port_limit, word 6 words) ∷ []) []) ≡ false → is_path out (cond b (Tcp (word 5 words) (number (word 6 words)) (word 7 words)) (File (word 5 words))) ≡ false
    → IsFrom out (cond b (Tcp (word 5 words) (number (word 6 words)) (word 7 words)) (File (word 5 words)))
from_by out words true good other = number_range port_limit (word 6 words) (not_or (is_number port_limit (word 6 words)) good)
from_by out words false good other = not_named out (word 5 words) other

feed_good : (out : List ℕ) (words : Words) → GoodNumbers words → feed_names out (feed_of words) ≡ false → IsFeed out (feed_of words)
unfolding feed_of
feed_good out words good names =
    let apart = or_false (bytes_eq (word 3 words) out) (is_path out (from_of words)) names in
    record {
      id = number_range id_limit (word 1 words) good.id;
      doc = not_named out (word 3 words) apart.0;
      from = from_by out words (is_tcp words) good.port apart.1;
      limit = limit_by words (has_limit words) good.limit;
    }

-- ---- a feed more

differs : (a b : ℕ) → nat_eq a b ≡ false → b ≢ a
differs a b e = λ same. let t : nat_eq a b ≡ true = (Decides-eqb a b).1 (sym same) in absurd cc

all_push : {X : Type 0} (P : X → Type 0) (xs : List X) (x : X) → AllByRecursion P xs → P x → AllByRecursion P (xs ++ x ∷ [])
all_push P [] x all here = (here, tt)
all_push P (y ∷ xs) x all here = (all.0, all_push P xs x all.1 here)

feeds_push : (out : List ℕ) (feeds : List FeedLine) (feed : FeedLine) → AreFeeds out feeds → IsFeed out feed → list_any (λ f. nat_eq f.id feed.id) feeds ≡ false → AreFeeds out (feeds ++ feed ∷ [])
feeds_push out [] feed are good new = (good, tt, tt)
feeds_push out (f ∷ feeds) feed are good new =
    let apart = or_false (nat_eq f.id feed.id) (list_any (λ g. nat_eq g.id feed.id) feeds) new in
    (are.0, all_push (λ other. other.id ≢ f.id) feeds feed are.1 (differs f.id feed.id apart.0), feeds_push out feeds feed are.2 good apart.1)

-- ---- what lines say

pub record IsDraft (out : List ℕ) (draft : Draft) : Type 0 where
  pub ring : IfSome draft.ring (IsUpTo ring_limit)
  pub batch : IfSome draft.batch (IsUpTo batch_limit)
  pub few : length draft.feeds ≤ 64
  pub feeds : AreFeeds out draft.feeds

pub nothing_said : (out : List ℕ) → IsDraft out (draft_of [])
unfolding draft_of
nothing_said out = record { ring = tt; batch = tt; few = omega arith; feeds = tt }

line_more : (out : List ℕ) (draft : Draft) (words : Words) → Kind words → own_refusal words ≡ None → refused_beside out draft (line_of words) ≡ None → IsDraft out draft → IsDraft out (with_line draft (line_of words))
line_more out draft words (a_ring r b m f) own beside is =
    let e : line_of words ≡ Ring (number (word 1 words)) = rw r refl in
    let range = setting_range ring_limit words (sym (ring_line words r) ∙ own) in
    rw e (record { ring = range; batch = is.batch; few = is.few; feeds = is.feeds })
line_more out draft words (a_batch r b m f) own beside is =
    let e : line_of words ≡ Batch (number (word 1 words)) = rw (r, b) refl in
    let range = setting_range batch_limit words (sym (batch_line words b) ∙ own) in
    rw e (record { ring = is.ring; batch = range; few = is.few; feeds = is.feeds })
line_more out draft words (a_mode r b m f) own beside is =
    let e : line_of words ≡ Mode (mode_of (word 1 words)) = rw (r, b, m) refl in
    rw e (record { ring = is.ring; batch = is.batch; few = is.few; feeds = is.feeds })
line_more out draft words (a_feed r b m f) own beside is =
    let feed = feed_of words in
    let e : line_of words ≡ Feed (feed_of words) = rw (r, b, m) refl in
    let rows : feed_refusal out draft.feeds (feed_of words) ≡ None = sym (ap (refused_beside out draft) e) ∙ beside in
    let new = some_none (list_any (λ f. nat_eq f.id feed.id) draft.feeds) Repeated (first_that_holds ((nat_lt 63 (length draft.feeds), TooManyFeeds) ∷ (feed_names out feed, OutputNamed) ∷ [])) rows in
    let few = some_none (nat_lt 63 (length draft.feeds)) TooManyFeeds (first_that_holds ((feed_names out feed, OutputNamed) ∷ [])) new.1 in
    let other = some_none (feed_names out feed) OutputNamed None few.1 in
    let good = feed_good out words (good_numbers words f own) other.0 in
    let short = ltb-false 63 (length draft.feeds) few.0 in
    rw e (record { ring = is.ring; batch = is.batch; few = omega (arith, length-append draft.feeds (feed ∷ []), short); feeds = feeds_push out draft.feeds feed is.feeds good new.0 })

text_more : (out : List ℕ) (draft : Draft) (line : List ℕ) → refused_with out draft line ≡ None → IsDraft out draft → IsDraft out (with_text draft line)
unfolding refused_with with_text
text_more out draft line e is =
    let words = words_in line in
    let n = own_none (is_no_text line) (own_refusal words) (refused_beside out draft (line_of words)) e in
    line_more out draft words (kind_of words (accepted_line words n.0).known) n.0 n.1 is

by_refusal : (out : List ℕ) (draft last : Draft) (x : ℕ × List ℕ) (lines : List (ℕ × List ℕ)) (o : Option PlanWhy) → refused_with out draft x.1 ≡ o
    → unless o x.0 (drafted out (with_text draft x.1) lines) ≡ Ok last → IsDraft out draft
    → (drafted out (with_text draft x.1) lines ≡ Ok last → IsDraft out (with_text draft x.1) → IsDraft out last) → IsDraft out last
by_refusal out draft last x lines None r e is more = more e (text_more out draft x.1 r is)
by_refusal out draft last x lines (Some why) r e is more = absurd cc

pub lines_more : (out : List ℕ) (draft last : Draft) (lines : List (ℕ × List ℕ)) → drafted out draft lines ≡ Ok last → IsDraft out draft → IsDraft out last
unfolding drafted
lines_more out draft last [] e is = let same : draft ≡ last = cc in subst (IsDraft out) same is
lines_more out draft last (x ∷ lines) e is = by_refusal out draft last x lines (refused_with out draft x.1) refl e is (lines_more out (with_text draft x.1) last lines)

or_default : (most n : ℕ) (o : Option ℕ) → IfSome o (IsUpTo most) → IsUpTo most n → IsUpTo most (unwrap_or o n)
or_default most n None is d = d
or_default most n (Some x) is d = is

is_more : (n : ℕ) → (n ≡ 0 → ⊥) → 0 < n
is_more n some = omega arith

pub plan_sound : (out : List ℕ) (draft : Draft) → IsDraft out draft → (length draft.feeds ≡ 0 → ⊥) → IsPlan out (finished draft)
plan_sound out draft is some = record {
  ring = or_default ring_limit 4096 draft.ring is.ring (lit≤ tt, lit≤ tt);
  batch = or_default batch_limit 512 draft.batch is.batch (lit≤ tt, lit≤ tt);
  some = is_more (length draft.feeds) some;
  few = is.few;
  feeds = is.feeds;
}
