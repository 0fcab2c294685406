-- Lines from the front.
use Rattle.std.proofs.Common.{◌≡◌, ◌&&◌, ℕ, suc, ◌+◌, ◌<◌, ◌≤◌, Bool, true, false, List, [], ◌∷◌, ◌++◌, length, take, drop, get_or, refl, sym, ap, ◌∙◌, append_assoc, arith, drop-cons, add-one, nat_eq, take_all, drop_of_length-le}
use Rattle.std.specs.List.{starts_with}
use Rattle.std.proofs.lemmas.List.{append-nil, take_more, length-drop, drop-drop}
use Rattle.reply_model.specs.Lines.{Lines, rest, line, line_end, with_byte, lines_in}
use Rattle.feed_reply.specs.Views.{with_front}

push : (xs : List ℕ) (x : ℕ) (u : Lines) → with_front xs (with_byte x u) ≡ with_front (xs ++ x ∷ []) u
push xs x (rest b) = ap rest (sym (append_assoc xs (x ∷ []) b))
push xs x (line text more) = ap (λ (t : List ℕ). line t more) (sym (append_assoc xs (x ∷ []) text))

pub no_front : (u : Lines) → u ≡ with_front [] u
no_front (rest b) = refl
no_front (line text more) = refl

and_false : (s : Bool) → (s && false) ≡ true → ⊥
and_false true e = absurd cc
and_false false e = absurd cc

pub two_there : (b : List ℕ) → starts_with nat_eq b line_end ≡ true → 2 ≤ length b
two_there [] e = absurd cc
two_there (x ∷ []) e = absurd (and_false (nat_eq 13 x) e)
two_there (x ∷ y ∷ b) e = omega arith

here : (b : List ℕ) → starts_with nat_eq b line_end ≡ true → lines_in b ≡ line [] (lines_in (drop 2 b))
unfolding lines_in
here [] e = absurd cc
here (x ∷ []) e = absurd (and_false (nat_eq 13 x) e)
here (x ∷ y ∷ b) e = rw e refl

not_here : (x : ℕ) (b : List ℕ) → starts_with nat_eq (x ∷ b) line_end ≡ false → lines_in (x ∷ b) ≡ with_byte x (lines_in b)
unfolding lines_in
not_here x [] e = refl
not_here x (y ∷ b) e = rw e refl

pub line_here : (b : List ℕ) (i : ℕ) → starts_with nat_eq (drop i b) line_end ≡ true → lines_in b ≡ with_front (take i b) (lines_in (drop i b)) → (i + 2 ≤ length b) × (lines_in b ≡ line (take i b) (lines_in (drop (i + 2) b)))
line_here b i e so_far =
    let two = two_there (drop i b) e in
    let same : with_front (take i b) (lines_in (drop i b)) ≡ line (take i b ++ []) (lines_in (drop 2 (drop i b))) = ap (with_front (take i b)) (here (drop i b) e) in
    (omega (arith, two, length-drop i b), so_far ∙ same ∙ ap (λ (t : List ℕ). line t (lines_in (drop 2 (drop i b)))) (append-nil (take i b)) ∙ ap (λ (t : List ℕ). line (take i b) (lines_in t)) (drop-drop 2 i b))

pub line_later : (b : List ℕ) (i : ℕ) → i < length b → starts_with nat_eq (drop i b) line_end ≡ false → lines_in b ≡ with_front (take i b) (lines_in (drop i b)) → lines_in b ≡ with_front (take (i + 1) b) (lines_in (drop (i + 1) b))
line_later b i lt e so_far =
    let x = get_or b i 0 in
    let parts = drop-cons b i 0 lt in
    let e' : starts_with nat_eq (x ∷ drop (suc i) b) line_end ≡ false = ap (λ (t : List ℕ). starts_with nat_eq t line_end) (sym parts) ∙ e in
    let one : lines_in (drop i b) ≡ with_byte x (lines_in (drop (suc i) b)) = ap lines_in parts ∙ not_here x (drop (suc i) b) e' in
    so_far ∙ ap (with_front (take i b)) one ∙ push (take i b) x (lines_in (drop (suc i) b)) ∙ ap (λ (t : List ℕ). with_front t (lines_in (drop (suc i) b))) (sym (take_more b i 0 lt)) ∙ ap (λ (n : ℕ). with_front (take (i + 1) b) (lines_in (drop n b))) (sym (add-one i))

no_bytes : (b : List ℕ) → with_front b (lines_in []) ≡ rest (b ++ [])
unfolding lines_in
no_bytes b = refl

pub no_line : (b : List ℕ) (i : ℕ) → length b ≤ i → lines_in b ≡ with_front (take i b) (lines_in (drop i b)) → lines_in b ≡ rest b
no_line b i le so_far =
    let all : take i b ≡ b = take_all i b le in
    let none : drop i b ≡ [] = drop_of_length-le b le in
    let last : with_front (take i b) (lines_in (drop i b)) ≡ rest (b ++ []) = rw (all, none) (no_bytes b) in
    so_far ∙ last ∙ ap rest (append-nil b)
