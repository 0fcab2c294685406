-- Blanks at the end of a text.
use Rattle.std.proofs.Common.{◌≡◌, ℕ, ◌+◌, ◌-◌, ◌<◌, true, false, cond, List, [], ◌∷◌, ◌++◌, length, take, get_or, ap, ◌∙◌, arith}
use Rattle.std.specs.List.{prefix_len, suffix_len}
use Rattle.std.proofs.lemmas.List.{take_more, reverse-append}
use Rattle.reply_model.specs.Header.{is_blank}

push : (xs : List ℕ) (x : ℕ) → suffix_len is_blank (xs ++ x ∷ []) ≡ cond (is_blank x) (1 + suffix_len is_blank xs) 0
push xs x = ap (prefix_len is_blank) (reverse-append xs (x ∷ []))

next : (text : List ℕ) (i : ℕ) → i < length text → suffix_len is_blank (take (i + 1) text) ≡ cond (is_blank (get_or text i 0)) (1 + suffix_len is_blank (take i text)) 0
next text i lt = ap (suffix_len is_blank) (take_more text i 0 lt) ∙ push (take i text) (get_or text i 0)

pub end_stays : (text : List ℕ) (i end : ℕ) → i < length text → is_blank (get_or text i 0) ≡ true → end ≡ i - suffix_len is_blank (take i text) → end ≡ i + 1 - suffix_len is_blank (take (i + 1) text)
end_stays text i end lt e so_far =
    let n = next text i lt in
    let n' : suffix_len is_blank (take (i + 1) text) ≡ 1 + suffix_len is_blank (take i text) = rw e at n in
    omega (arith, n', so_far)

pub end_moves : (text : List ℕ) (i : ℕ) → i < length text → is_blank (get_or text i 0) ≡ false → i + 1 ≡ i + 1 - suffix_len is_blank (take (i + 1) text)
end_moves text i lt e =
    let n = next text i lt in
    let n' : suffix_len is_blank (take (i + 1) text) ≡ 0 = rw e at n in
    omega (arith, n')
