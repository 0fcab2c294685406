-- From line to line.
use Rattle.std.proofs.Common.{◌≡◌, ℕ, suc, ◌+◌, ◌<◌, ◌≤◌, Bool, true, false, cond, not, List, [], ◌∷◌, length, Some, None, Option, Ok, Err, refl, ap, ◌∙◌, arith, nat_eq, nat_lt, drop_of_length-le, take_all}
use Rattle.std.specs.List.{slice_split, filter, enumerate_from, position_or_len, before_first, after_first}
use Rattle.std.proofs.lemmas.Bool.{ltb-true, ltb-false}
use Rattle.std.proofs.lemmas.List.Splits.{slice_split_first}
use Rattle.plan_model.specs.declared.why.PlanWhy.{PlanWhy}
use Rattle.plan_model.specs.Text.{without_return, text_lines, is_skipped, said_lines}
use Rattle.plan_model.specs.Plan.{Refusal, unless, why_number}
use Rattle.plan_words.specs.declared.draft.Draft.{Draft}
use Rattle.plan_words.specs.Drafts.{refused_with, with_text, drafted, stepped}
use Rattle.plan_words.proofs.Cuts.{one_part}

abbrev is_feed_byte : ℕ → Bool
is_feed_byte b = nat_eq b 10

-- the lines that say something, where the first has this number
abbrev pub said_from : ℕ → List ℕ → List (ℕ × List ℕ)
said_from n text = filter (λ x. not (is_skipped x.1)) (enumerate_from n (text_lines text))

pub from_one : (text : List ℕ) → said_lines text ≡ said_from 1 text
from_one text = refl

pub none_said : (n : ℕ) → said_from n [] ≡ []
unfolding is_skipped without_return
none_said n = refl

abbrev one_said : ℕ → List ℕ → List (ℕ × List ℕ) → List (ℕ × List ℕ)
one_said n line more = cond (not (is_skipped line)) ((n, line) ∷ more) more

pos_within : (p : ℕ → Bool) (text : List ℕ) → position_or_len p text ≤ length text
pos_within p [] = omega arith
pos_within p (x ∷ text) = within (p x) (position_or_len p text) (length text) (pos_within p text)
  where
    within : (b : Bool) (n m : ℕ) → n ≤ m → cond (not b) (1 + n) 0 ≤ suc m
    within true n m le = omega arith
    within false n m le = omega arith

first_cut : (n : ℕ) (text line behind : List ℕ) → position_or_len is_feed_byte text < length text → line ≡ without_return (before_first is_feed_byte text) → behind ≡ after_first is_feed_byte text → said_from n text ≡ one_said n line (said_from (n + 1) behind)
first_cut n text line behind lt e f =
    let parts : slice_split is_feed_byte text ≡ before_first is_feed_byte text ∷ slice_split is_feed_byte (after_first is_feed_byte text) = slice_split_first is_feed_byte text 0 lt in
    rw (parts, e, f) refl

last_cut : (n : ℕ) (text line behind : List ℕ) → position_or_len is_feed_byte text ≡ length text → line ≡ without_return (before_first is_feed_byte text) → behind ≡ after_first is_feed_byte text → said_from n text ≡ one_said n line (said_from (n + 1) behind)
last_cut n text line behind whole e f =
    let part : slice_split is_feed_byte text ≡ text ∷ [] = one_part is_feed_byte text whole in
    let front : before_first is_feed_byte text ≡ text = take_all (position_or_len is_feed_byte text) text (omega (arith, whole)) in
    let line_is : line ≡ without_return text = e ∙ ap without_return front in
    let rest : behind ≡ [] = f ∙ drop_of_length-le text (omega (arith, whole)) in
    let none : said_from (n + 1) behind ≡ [] = ap (said_from (n + 1)) rest ∙ none_said (n + 1) in
    rw (none, part, line_is) refl

pub cut : (n : ℕ) (text line behind : List ℕ) → line ≡ without_return (before_first is_feed_byte text) → behind ≡ after_first is_feed_byte text → said_from n text ≡ one_said n line (said_from (n + 1) behind)
cut n text line behind e f = either (nat_lt (position_or_len is_feed_byte text) (length text)) refl
  where
    either : (b : Bool) → nat_lt (position_or_len is_feed_byte text) (length text) ≡ b → said_from n text ≡ one_said n line (said_from (n + 1) behind)
    either true h = first_cut n text line behind (ltb-true (position_or_len is_feed_byte text) (length text) h) e f
    either false h = last_cut n text line behind (let a = ltb-false (position_or_len is_feed_byte text) (length text) h in let b = pos_within is_feed_byte text in omega arith) e f

-- ---- a step

after_add : (out : List ℕ) (draft next : Draft) (n : ℕ) (line : List ℕ) (more : List (ℕ × List ℕ)) (r : Option PlanWhy) → refused_with out draft line ≡ r → unless r n (Ok (with_text draft line)) ≡ Ok next
    → drafted out draft ((n, line) ∷ more) ≡ drafted out next more
unfolding drafted
after_add out draft next n line more None r e = let same : with_text draft line ≡ next = cc in rw r (ap (λ d. drafted out d more) same)
after_add out draft next n line more (Some why) r e = absurd cc

skip_or_add : (out : List ℕ) (draft next : Draft) (n : ℕ) (line : List ℕ) (more : List (ℕ × List ℕ)) (b : Bool) → cond b (Ok draft) (unless (refused_with out draft line) n (Ok (with_text draft line))) ≡ Ok next
    → drafted out draft (cond (not b) ((n, line) ∷ more) more) ≡ drafted out next more
skip_or_add out draft next n line more true e = let same : draft ≡ next = cc in ap (λ d. drafted out d more) same
skip_or_add out draft next n line more false e = after_add out draft next n line more (refused_with out draft line) refl e

after_refusal : (out : List ℕ) (draft : Draft) (n : ℕ) (line : List ℕ) (more : List (ℕ × List ℕ)) (r : Refusal) (o : Option PlanWhy) → refused_with out draft line ≡ o → unless o n (Ok (with_text draft line)) ≡ Err r
    → drafted out draft ((n, line) ∷ more) ≡ Err r
unfolding drafted
after_refusal out draft n line more r None o e = absurd cc
after_refusal out draft n line more r (Some why) o e = let same : (n, why_number why) ≡ r = cc in rw o (ap Err same)

skip_or_stop : (out : List ℕ) (draft : Draft) (n : ℕ) (line : List ℕ) (more : List (ℕ × List ℕ)) (r : Refusal) (b : Bool) → cond b (Ok draft) (unless (refused_with out draft line) n (Ok (with_text draft line))) ≡ Err r
    → drafted out draft (cond (not b) ((n, line) ∷ more) more) ≡ Err r
skip_or_stop out draft n line more r true e = absurd cc
skip_or_stop out draft n line more r false e = after_refusal out draft n line more r (refused_with out draft line) refl e

pub goes_on : (out text line behind : List ℕ) (draft next : Draft) (n : ℕ) → line ≡ without_return (before_first is_feed_byte text) → behind ≡ after_first is_feed_byte text → stepped out draft n line ≡ Ok next → drafted out draft (said_from n text) ≡ drafted out next (said_from (n + 1) behind)
unfolding stepped
goes_on out text line behind draft next n e f g = ap (drafted out draft) (cut n text line behind e f) ∙ skip_or_add out draft next n line (said_from (n + 1) behind) (is_skipped line) g

pub stops : (out text line behind : List ℕ) (draft : Draft) (n : ℕ) (r : Refusal) → line ≡ without_return (before_first is_feed_byte text) → behind ≡ after_first is_feed_byte text → stepped out draft n line ≡ Err r → drafted out draft (said_from n text) ≡ Err r
unfolding stepped
stops out text line behind draft n r e f g = ap (drafted out draft) (cut n text line behind e f) ∙ skip_or_stop out draft n line (said_from (n + 1) behind) r (is_skipped line) g

pub ends : (out rest : List ℕ) (draft : Draft) (n : ℕ) → length rest ≡ 0 → drafted out draft (said_from n rest) ≡ Ok draft
unfolding drafted
ends out [] draft n none = rw (none_said n) refl
ends out (x ∷ rest) draft n none = absurd (omega arith)
