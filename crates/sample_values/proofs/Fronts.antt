-- One value at the front of bytes.
use Rattle.std.proofs.Common.{◌≡◌, ℕ, zero, suc, ◌+◌, ◌-◌, ◌<◌, ◌≤◌, ltb, true, false, List, [], ◌∷◌, length, take, drop, get_or, Err, refl, sym, ap, ◌∙◌, arith}
use Rattle.std.proofs.lemmas.Bool.{le-ltb, lt-ltb}
use Rattle.std.proofs.lemmas.List.{take_rest}
use Rattle.byteorder.specs.Endian.{little_number}
use Rattle.xdf_model.specs.Reading.{Fault, outside, front_at, number_at, length_at}
use Rattle.xdf_model.specs.Sample.{number, text, text_at, bits_at, value_at}
use Rattle.xdf_model_laws.proofs.Readers.{found}
use Rattle.sample_values.proofs.Cuts.{one_number}
use Rattle.sample_values.proofs.Rests.{short_length}

pub number_found : (size : ℕ) (b : List ℕ) → 0 < size → size ≤ length b → value_at size b ≡ found (number (little_number size b)) (drop size b)
number_found zero b some long = absurd (omega arith)
number_found (suc k) b some long = one_number k b long

short_of : (k : ℕ) (b : List ℕ) → length b < suc k → value_at (suc k) b ≡ Err outside
unfolding bits_at number_at front_at
short_of k b less =
    let test : ltb (length b) (suc k) ≡ true = lt-ltb _ _ less in
    rw test refl

pub number_short : (size : ℕ) (b : List ℕ) → 0 < size → length b < size → value_at size b ≡ Err outside
number_short zero b some less = absurd (omega arith)
number_short (suc k) b some less = short_of k b less

pub text_errs : (b : List ℕ) (f : Fault) → length_at b ≡ Err f → text_at b ≡ Err f
unfolding text_at
text_errs b f h = rw h refl

pub text_outside : (b : List ℕ) (len : ℕ) (rest : List ℕ) → length_at b ≡ found len rest → length rest < len → text_at b ≡ Err outside
unfolding text_at front_at
text_outside b len rest h less =
    let test : ltb (length rest) len ≡ true = lt-ltb _ _ less in
    rw (h, test) refl

pub text_found : (b : List ℕ) (len : ℕ) (rest : List ℕ) → length_at b ≡ found len rest → len ≤ length rest → text_at b ≡ found (text (take len rest)) (drop len rest)
unfolding text_at front_at
text_found b len rest h less =
    let test : ltb (length rest) len ≡ false = le-ltb _ _ less in
    rw (h, test) refl

-- whose length has the width 1
pub short_text_found : (b : List ℕ) → 2 ≤ length b → get_or b 0 0 ≡ 1 → 2 + get_or b 1 0 ≤ length b
    → text_at b ≡ found (text (take (2 + get_or b 1 0 - 2) (drop 2 b))) (take (length b - (2 + get_or b 1 0)) (drop (2 + get_or b 1 0) b))
short_text_found [] some one long = absurd (omega arith)
short_text_found (w ∷ []) some one long = absurd (omega arith)
short_text_found (w ∷ len ∷ rest) some one long =
    let same : w ∷ len ∷ rest ≡ 1 ∷ len ∷ rest = ap (λ (n : ℕ). n ∷ len ∷ rest) one in
    let place : 2 + len ≡ suc (suc len) = omega arith in
    let count : 2 + len - 2 ≡ len = omega arith in
    text_found (w ∷ len ∷ rest) len rest (ap length_at same ∙ short_length len rest) (omega arith)
    ∙ ap (λ (n : ℕ). found (text (take n rest)) (drop len rest)) (sym count)
    ∙ ap (λ (n : ℕ). found (text (take (2 + len - 2) rest)) (drop n (w ∷ len ∷ rest))) (sym place)
    ∙ ap (found (text (take (2 + len - 2) rest))) (sym (take_rest (w ∷ len ∷ rest) (2 + len)))
