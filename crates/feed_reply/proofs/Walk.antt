-- From line to line.
use Rattle.std.proofs.Common.{◌≡◌, ℕ, suc, ◌+◌, ◌-◌, ◌<◌, ◌≤◌, true, false, eqb, ltb, add-one, List, length, take, drop, Some, None, Ok, Err, refl, sym, ap, ◌∙◌, arith}
use Rattle.std.proofs.lemmas.Bool.{lt-ltb, le-ltb}
use Rattle.std.proofs.lemmas.Bool.Decides.{nat_tests}
use Rattle.std.proofs.lemmas.List.{length-take-le, length-drop, drop-drop}
use Rattle.reply_model.specs.declared.ReplyWhy.{ReplyWhy}
use Rattle.reply_model.specs.declared.ReplyWhy.TheVariants.{LineTooLong}
use Rattle.reply_model.specs.Lines.{Lines, rest, line, lines_in}
use Rattle.reply_model.specs.Header.{value_of}
use Rattle.reply_model.specs.Reply.{accepts_line, empty_line, behind_line, Found, later, at_place, last_of}
use Rattle.feed_reply.specs.Views.{IsFirstLine}

pub refuses : (number at : ℕ) (text : List ℕ) (more : Lines) (why : ReplyWhy) → accepts_line number text ≡ Err why → empty_line number at (line text more) ≡ Err (record { at = at; why = why })
unfolding empty_line
refuses number at text more why e = rw e refl

pub ends : (number at : ℕ) (text : List ℕ) (more : Lines) → accepts_line number text ≡ Ok tt → length text ≡ 0 → empty_line number at (line text more) ≡ Ok (Some at)
unfolding empty_line
ends number at text more e none = rw (e, none) refl

pub not_zero : (n : ℕ) → 0 < n → eqb n 0 ≡ false
not_zero n some = grind (arith, nat_tests)

pub goes_on : (number at : ℕ) (text : List ℕ) (more : Lines) → accepts_line number text ≡ Ok tt → 0 < length text → empty_line number at (line text more) ≡ empty_line (suc number) (behind_line at text) more
unfolding empty_line
goes_on number at text more e some = rw (e, not_zero (length text) some) refl

pub later_all : (a b c : Found) → later a (later b c) ≡ later (later a b) c
later_all a b None = refl
later_all a b (Some x) = refl

pub only_later : (a : Found) → a ≡ later None a
only_later None = refl
only_later (Some x) = refl

pub slice_size : (at size : ℕ) → at + size - at ≡ size
slice_size at size = omega arith

pub first_within : (b : List ℕ) (at size : ℕ) → at ≤ length b → IsFirstLine (drop at b) (Some size) → at + (size + 2) ≤ length b
first_within b at size within first = omega (arith, within, first.0, length-drop at b)

-- ---- the first empty line

pub stops_here : (b : List ℕ) (number at size : ℕ) (why : ReplyWhy) → empty_line 0 0 (lines_in b) ≡ empty_line number at (lines_in (drop at b)) → IsFirstLine (drop at b) (Some size)
    → accepts_line number (take size (drop at b)) ≡ Err why → Err (record { at = at; why = why }) ≡ empty_line 0 0 (lines_in b)
stops_here b number at size why so_far first e = sym (so_far ∙ ap (empty_line number at) first.1 ∙ refuses number at (take size (drop at b)) (lines_in (drop (size + 2) (drop at b))) why e)

pub ends_here : (b : List ℕ) (number at size : ℕ) → empty_line 0 0 (lines_in b) ≡ empty_line number at (lines_in (drop at b)) → IsFirstLine (drop at b) (Some size)
    → accepts_line number (take size (drop at b)) ≡ Ok tt → size ≡ 0 → Ok (Some at) ≡ empty_line 0 0 (lines_in b)
ends_here b number at size so_far first e none =
    let size_is : length (take size (drop at b)) ≡ size = length-take-le size (drop at b) (omega (arith, first.0)) in
    sym (so_far ∙ ap (empty_line number at) first.1 ∙ ends number at (take size (drop at b)) (lines_in (drop (size + 2) (drop at b))) e (size_is ∙ none))

pub goes_past : (b : List ℕ) (number at size : ℕ) → empty_line 0 0 (lines_in b) ≡ empty_line number at (lines_in (drop at b)) → IsFirstLine (drop at b) (Some size)
    → accepts_line number (take size (drop at b)) ≡ Ok tt → 0 < size → empty_line 0 0 (lines_in b) ≡ empty_line (number + 1) (at + (size + 2)) (lines_in (drop (at + (size + 2)) b))
goes_past b number at size so_far first e some =
    let t = take size (drop at b) in
    let size_is : length t ≡ size = length-take-le size (drop at b) (omega (arith, first.0)) in
    let place : behind_line at t ≡ at + (size + 2) = omega (arith, size_is) in
    let more = lines_in (drop (size + 2) (drop at b)) in
    so_far ∙ ap (empty_line number at) first.1 ∙ goes_on number at t more e (omega (arith, size_is))
    ∙ ap (λ (p : ℕ). empty_line (suc number) p more) place
    ∙ ap (λ (n : ℕ). empty_line n (at + (size + 2)) more) (sym (add-one number))
    ∙ ap (λ (l : List ℕ). empty_line (number + 1) (at + (size + 2)) (lines_in l)) (drop-drop (size + 2) at b)

rest_long : (number at : ℕ) (b : List ℕ) → 4097 < length b → empty_line number at (rest b) ≡ Err (record { at = at; why = LineTooLong })
unfolding empty_line
rest_long number at b lt = let t : ltb 4097 (length b) ≡ true = lt-ltb _ _ lt in rw t refl

rest_short : (number at : ℕ) (b : List ℕ) → length b ≤ 4097 → empty_line number at (rest b) ≡ Ok None
unfolding empty_line
rest_short number at b le = let t : ltb 4097 (length b) ≡ false = le-ltb _ _ le in rw t refl

pub too_long : (b : List ℕ) (number at : ℕ) → empty_line 0 0 (lines_in b) ≡ empty_line number at (lines_in (drop at b)) → IsFirstLine (drop at b) None
    → 4097 < length b - at → Err (record { at = at; why = LineTooLong }) ≡ empty_line 0 0 (lines_in b)
too_long b number at so_far first lt = sym (so_far ∙ ap (empty_line number at) first ∙ rest_long number at (drop at b) (omega (arith, length-drop at b)))

pub no_more : (b : List ℕ) (number at : ℕ) → empty_line 0 0 (lines_in b) ≡ empty_line number at (lines_in (drop at b)) → IsFirstLine (drop at b) None
    → length b - at ≤ 4097 → Ok None ≡ empty_line 0 0 (lines_in b)
no_more b number at so_far first le = sym (so_far ∙ ap (empty_line number at) first ∙ rest_short number at (drop at b) (omega (arith, length-drop at b)))

-- ---- the last line of a name

last_goes : (name : List ℕ) (at : ℕ) (text : List ℕ) (more : Lines) → 0 < length text → last_of name at (line text more) ≡ later (at_place at (value_of name text)) (last_of name (behind_line at text) more)
unfolding last_of
last_goes name at text more some = rw (not_zero (length text) some) refl

last_ends : (name : List ℕ) (at : ℕ) (text : List ℕ) (more : Lines) → length text ≡ 0 → last_of name at (line text more) ≡ None
unfolding last_of
last_ends name at text more none = rw none refl

last_rest : (name : List ℕ) (at : ℕ) (b : List ℕ) → last_of name at (rest b) ≡ None
unfolding last_of
last_rest name at b = refl

pub last_past : (b name : List ℕ) (at size : ℕ) (all before after : Found) → all ≡ later before (last_of name at (lines_in (drop at b))) → IsFirstLine (drop at b) (Some size) → 0 < size
    → after ≡ later before (at_place at (value_of name (take size (drop at b)))) → all ≡ later after (last_of name (at + (size + 2)) (lines_in (drop (at + (size + 2)) b)))
last_past b name at size all before after so_far first some found =
    let t = take size (drop at b) in
    let size_is : length t ≡ size = length-take-le size (drop at b) (omega (arith, first.0)) in
    let place : behind_line at t ≡ at + (size + 2) = omega (arith, size_is) in
    let more = lines_in (drop (size + 2) (drop at b)) in
    so_far ∙ ap (λ (l : Lines). later before (last_of name at l)) first.1 ∙ ap (later before) (last_goes name at t more (omega (arith, size_is)))
    ∙ later_all before (at_place at (value_of name t)) (last_of name (behind_line at t) more)
    ∙ ap (λ (x : Found). later x (last_of name (behind_line at t) more)) (sym found)
    ∙ ap (λ (p : ℕ). later after (last_of name p more)) place
    ∙ ap (λ (l : List ℕ). later after (last_of name (at + (size + 2)) (lines_in l))) (drop-drop (size + 2) at b)

pub last_here : (b name : List ℕ) (at size : ℕ) (all before : Found) → all ≡ later before (last_of name at (lines_in (drop at b))) → IsFirstLine (drop at b) (Some size) → size ≡ 0 → before ≡ all
last_here b name at size all before so_far first none =
    let t = take size (drop at b) in
    let size_is : length t ≡ size = length-take-le size (drop at b) (omega (arith, first.0)) in
    sym (so_far ∙ ap (λ (l : Lines). later before (last_of name at l)) first.1 ∙ ap (later before) (last_ends name at t (lines_in (drop (size + 2) (drop at b))) (size_is ∙ none)))

pub last_gone : (b name : List ℕ) (at : ℕ) (all before : Found) → all ≡ later before (last_of name at (lines_in (drop at b))) → IsFirstLine (drop at b) None → before ≡ all
last_gone b name at all before so_far first = sym (so_far ∙ ap (λ (l : Lines). later before (last_of name at l)) first ∙ ap (later before) (last_rest name at (drop at b)))

pub value_found : (before : Found) (at : ℕ) (text value : List ℕ) (name : List ℕ) → Some value ≡ value_of name text → Some (at, value) ≡ later before (at_place at (value_of name text))
value_found before at text value name e = rw (← e) refl

pub value_not_found : (before : Found) (at : ℕ) (text : List ℕ) (name : List ℕ) → None ≡ value_of name text → before ≡ later before (at_place at (value_of name text))
value_not_found before at text name e = rw (← e) refl
