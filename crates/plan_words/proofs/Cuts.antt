-- Parts of a list between the items that pass a test.
use Rattle.std.proofs.Common.{◌≡◌, ℕ, suc, ◌+◌, ◌<◌, Bool, true, false, cond, not, List, [], ◌∷◌, ◌++◌, length, refl, ap, sym, ◌∙◌, arith, nat_lt, nat_eq, append_assoc}
use Rattle.std.specs.List.{slice_split, filter, position_or_len, before_first, after_first}
use Rattle.std.proofs.lemmas.List.Splits.{slice_split_first}
use Rattle.std.proofs.lemmas.List.{append-nil}
use Rattle.std.proofs.lemmas.Bool.Decides.{nat_tests}
use Rattle.std.proofs.lemmas.Bool.{lt-ltb, le-ltb}
use Rattle.plan_model.specs.Text.{Words, words_in}

none_cons : (x : ℕ) (xs : List ℕ) (b : Bool) → cond (not b) (1 + length xs) 0 ≡ suc (length xs) → cond b ([] ∷ (xs ∷ [])) ((x ∷ xs) ∷ []) ≡ (x ∷ xs) ∷ []
none_cons x xs true e = absurd (omega arith)
none_cons x xs false e = refl

pos_cons : (n m : ℕ) (b : Bool) → cond (not b) (1 + n) 0 ≡ suc m → n ≡ m
pos_cons n m true e = absurd (omega arith)
pos_cons n m false e = omega arith

head_false : (n m : ℕ) (b : Bool) → cond (not b) (1 + n) 0 ≡ suc m → b ≡ false
head_false n m true e = absurd (omega arith)
head_false n m false e = refl

-- with no such item there is one part
pub one_part : (p : ℕ → Bool) (xs : List ℕ) → position_or_len p xs ≡ length xs → slice_split p xs ≡ xs ∷ []
one_part p [] e = refl
one_part p (x ∷ xs) e =
    let so : slice_split p xs ≡ xs ∷ [] = one_part p xs (pos_cons (position_or_len p xs) (length xs) (p x) e) in
    let no : p x ≡ false = head_false (position_or_len p xs) (length xs) (p x) e in
    rw (no, so) refl

-- a word that is something, or none
abbrev pub some_word : List ℕ → Words
some_word text = cond (nat_lt 0 (length text)) (text ∷ []) []

some_word-onto : (b : Bool) (x : List ℕ) (xs : Words) → cond b (x ∷ xs) xs ≡ cond b (x ∷ []) [] ++ xs
some_word-onto true x xs = refl
some_word-onto false x xs = refl

abbrev pub is_space : ℕ → Bool
is_space b = nat_eq b 32

pub more_words : (text word behind : List ℕ) → position_or_len is_space text < length text → word ≡ before_first is_space text → behind ≡ after_first is_space text → words_in text ≡ some_word word ++ words_in behind
unfolding words_in
more_words text word behind lt e f =
    let split : slice_split is_space text ≡ before_first is_space text ∷ slice_split is_space (after_first is_space text) = slice_split_first is_space text 0 lt in
    rw (split, e, f) (some_word-onto (nat_lt 0 (length (before_first is_space text))) (before_first is_space text) (filter (λ t. nat_lt 0 (length t)) (slice_split is_space (after_first is_space text))))

pub last_word : (text : List ℕ) → position_or_len is_space text ≡ length text → words_in text ≡ some_word text
unfolding words_in
last_word text e = let one = one_part is_space text e in rw one refl

is_some_word : (text : List ℕ) → 0 < length text → some_word text ≡ text ∷ []
is_some_word text some = let t : nat_lt 0 (length text) ≡ true = lt-ltb _ _ some in rw t refl

is_no_word : (text : List ℕ) → length text ≡ 0 → some_word text ≡ []
is_no_word text none = let t : nat_lt 0 (length text) ≡ false = le-ltb _ _ (omega arith) in rw t refl

pub is_some : (n : ℕ) (b : Bool) → b ≡ nat_eq n 0 → b ≡ false → 0 < n
is_some n b e f = grind (arith, nat_tests)

pub is_none : (n : ℕ) (b : Bool) → b ≡ nat_eq n 0 → b ≡ true → n ≡ 0
is_none n b e f = grind (arith, nat_tests)

pub word_pushed : (line rest word behind : List ℕ) (so_far now : Words) → words_in line ≡ so_far ++ words_in rest → words_in rest ≡ some_word word ++ words_in behind → 0 < length word → now ≡ so_far ++ word ∷ [] → words_in line ≡ now ++ words_in behind
word_pushed line rest word behind so_far now e f some g = let one : some_word word ≡ word ∷ [] = is_some_word word some in e ∙ ap (λ (ws : Words). so_far ++ ws) (f ∙ ap (λ (ws : Words). ws ++ words_in behind) one) ∙ sym (append_assoc so_far (word ∷ []) (words_in behind)) ∙ ap (λ (ws : Words). ws ++ words_in behind) (sym g)

pub word_left_out : (line rest word behind : List ℕ) (so_far : Words) → words_in line ≡ so_far ++ words_in rest → words_in rest ≡ some_word word ++ words_in behind → length word ≡ 0 → words_in line ≡ so_far ++ words_in behind
word_left_out line rest word behind so_far e f none = let one : some_word word ≡ [] = is_no_word word none in e ∙ ap (λ (ws : Words). so_far ++ ws) (f ∙ ap (λ (ws : Words). ws ++ words_in behind) one)

pub ends_pushed : (line rest : List ℕ) (so_far now : Words) → words_in line ≡ so_far ++ words_in rest → words_in rest ≡ some_word rest → 0 < length rest → now ≡ so_far ++ rest ∷ [] → now ≡ words_in line
ends_pushed line rest so_far now e f some g = let one : some_word rest ≡ rest ∷ [] = is_some_word rest some in g ∙ sym (e ∙ ap (λ (ws : Words). so_far ++ ws) (f ∙ one))

pub ends_left_out : (line rest : List ℕ) (so_far : Words) → words_in line ≡ so_far ++ words_in rest → words_in rest ≡ some_word rest → length rest ≡ 0 → so_far ≡ words_in line
ends_left_out line rest so_far e f none = let one : some_word rest ≡ [] = is_no_word rest none in sym (e ∙ ap (λ (ws : Words). so_far ++ ws) (f ∙ one) ∙ append-nil so_far)
