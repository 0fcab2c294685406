-- Numbers of 1 to 13 digits.
use Rattle.std.proofs.Common.{◌≡◌, ℕ, zero, suc, ◌^◌, ◌<◌, ◌≤◌, ◌&&◌, Bool, true, false, List, length, Ok, Err, refl, sym, ◌∙◌, arith, ltb, leb}
use Rattle.std.specs.List.{list_all}
use Rattle.std.specs.Char.{is_ascii_digit}
use Rattle.std.specs.Str.Parse.{digits_value, ParsesUnsigned}
use Rattle.std.proofs.Common.{rules}
use Rattle.std.proofs.lemmas.Bool.{lt-ltb, le-ltb, le-leb, lt-leb}
use Rattle.std.proofs.lemmas.Str.Parse.{IsNumeralModel, numerals_by_value, parse_digits, digits_value_short}
use Rattle.plan_model.specs.PlanLine.{number, is_number}

abbrev AreDigits : List ℕ → Type 0
AreDigits text = list_all is_ascii_digit text ≡ true

own : IsNumeralModel AreDigits (digits_value 10)
own = numerals_by_value _ (search rules)

is_one : (most : ℕ) (text : List ℕ) → 0 < length text → length text ≤ 13 → AreDigits text → 0 < number text → number text ≤ most → is_number most text ≡ true
unfolding is_number
is_one most text some few digits low high =
    let a : ltb 0 (length text) ≡ true = lt-ltb _ _ some in
    let b : ltb (length text) 14 ≡ true = lt-ltb _ _ (omega arith) in
    let e : ltb 0 (number text) ≡ true = lt-ltb _ _ low in
    let f : leb (number text) most ≡ true = le-leb _ _ high in
    rw (a, b, digits, e, f) refl

and_left : (a b : Bool) → a ≡ false → (a && b) ≡ false
and_left a b h = rw h refl

and_right : (a b : Bool) → b ≡ false → (a && b) ≡ false
and_right true b h = h
and_right false b h = refl

last_false : (a b c d e : Bool) → e ≡ false → ((((a && b) && c) && d) && e) ≡ false
last_false a b c d e h = and_right (((a && b) && c) && d) e h

fourth_false : (a b c d e : Bool) → d ≡ false → ((((a && b) && c) && d) && e) ≡ false
fourth_false a b c d e h = and_left (((a && b) && c) && d) e (and_right ((a && b) && c) d h)

third_false : (a b c d e : Bool) → c ≡ false → ((((a && b) && c) && d) && e) ≡ false
third_false a b c d e h = and_left (((a && b) && c) && d) e (and_left ((a && b) && c) d (and_right (a && b) c h))

second_false : (a b c d e : Bool) → b ≡ false → ((((a && b) && c) && d) && e) ≡ false
second_false a b c d e h = and_left (((a && b) && c) && d) e (and_left ((a && b) && c) d (and_left (a && b) c (and_right a b h)))

pub long : (most : ℕ) (text : List ℕ) → 13 < length text → is_number most text ≡ false
unfolding is_number
long most text many = second_false (ltb 0 (length text)) (ltb (length text) 14) (list_all is_ascii_digit text) (ltb 0 (number text)) (leb (number text) most) (le-ltb _ _ (omega arith))

pub other : (most : ℕ) (text : List ℕ) → list_all is_ascii_digit text ≡ false → is_number most text ≡ false
unfolding is_number
other most text not_all = third_false (ltb 0 (length text)) (ltb (length text) 14) (list_all is_ascii_digit text) (ltb 0 (number text)) (leb (number text) most) not_all

low_number : (most : ℕ) (text : List ℕ) → number text ≡ 0 → is_number most text ≡ false
unfolding is_number
low_number most text low = fourth_false (ltb 0 (length text)) (ltb (length text) 14) (list_all is_ascii_digit text) (ltb 0 (number text)) (leb (number text) most) (le-ltb _ _ (omega arith))

high_number : (most : ℕ) (text : List ℕ) → most < number text → is_number most text ≡ false
unfolding is_number
high_number most text high = last_false (ltb 0 (length text)) (ltb (length text) 14) (list_all is_ascii_digit text) (ltb 0 (number text)) (leb (number text) most) (lt-leb _ _ high)

no_digit : (most : ℕ) (text : List ℕ) → length text ≡ 0 → is_number most text ≡ false
unfolding is_number
no_digit most text none = (let a : ltb 0 (length text) ≡ false = le-ltb _ _ (omega arith) in rw a refl)

pub taken : (most n : ℕ) (text : List ℕ) → length text ≤ 13 → list_all is_ascii_digit text ≡ true → ParsesUnsigned {E = ℕ} 64 10 text (Ok n) → 0 < n → n ≤ most → (is_number most text ≡ true) × (n ≡ number text)
taken most n text few digits parsed low high =
    let g = parse_digits own {E = ℕ} 64 text (Ok n) parsed digits in
    (is_one most text g.0.0 few digits (omega (arith, g.1)) (omega (arith, g.1)), g.1)

pub too_low : (most n : ℕ) (text : List ℕ) → list_all is_ascii_digit text ≡ true → ParsesUnsigned {E = ℕ} 64 10 text (Ok n) → n ≡ 0 → is_number most text ≡ false
too_low most n text digits parsed low = let g = parse_digits own {E = ℕ} 64 text (Ok n) parsed digits in low_number most text (sym g.1 ∙ low)

pub too_high : (most n : ℕ) (text : List ℕ) → list_all is_ascii_digit text ≡ true → ParsesUnsigned {E = ℕ} 64 10 text (Ok n) → most < n → is_number most text ≡ false
too_high most n text digits parsed high = let g = parse_digits own {E = ℕ} 64 text (Ok n) parsed digits in high_number most text (omega (arith, g.1))

none_there : (n v : ℕ) → v < 10 ^ 13 → ((0 < n) × (v < 2 ^ 64) → ⊥) → n ≡ 0
none_there zero v small not_read = refl
none_there (suc n) v small not_read = absurd (not_read (omega arith, omega arith))

pub unread : {E : Type 0} (most : ℕ) (text : List ℕ) (e : E) → length text ≤ 13 → list_all is_ascii_digit text ≡ true → ParsesUnsigned 64 10 text (Err e) → is_number most text ≡ false
unread {E} most text e few digits parsed =
    let g = parse_digits own {E = E} 64 text (Err e) parsed digits in
    let small : digits_value 10 text < 10 ^ 13 = digits_value_short own text 13 digits few in
    no_digit most text (none_there (length text) (digits_value 10 text) small g)
