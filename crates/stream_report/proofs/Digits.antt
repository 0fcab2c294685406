-- Hexadecimal digits: the table of pairs, and a number's digits in parts.
use Rattle.std.proofs.Common.{◌≡◌, ℕ, zero, suc, ◌+◌, ◌-◌, ◌*◌, ◌/◌, ◌%◌, ◌^◌, ◌<◌, Bool, true, ◌&&◌, T, eqb, eqb→eq, List, [], ◌∷◌, ◌++◌, length, ◌≤◌, get_or, set, take, take_all, refl, sym, ap, ◌∙◌, inl, inr, eq-zero-or-pos, append_assoc, append-nil, arith}
use Rattle.std.proofs.Math.Nat.{div-div-eq-div-mul, div-one, pow-succ'}
use Rattle.std.proofs.lemmas.Bool.Decides.{nat_tests}
use Rattle.std.proofs.lemmas.Str.{IsAscii-append}
use Rattle.std.proofs.lemmas.Str.Ascii.{IsAscii-nil, IsAscii-push}
use Rattle.std.specs.Str.{IsAscii}
use Rattle.std.specs.List.{flat_map}
use lib.Ieee.Fits.{and_l, and_r}
use Rattle.report_model.specs.Lines.{hex_digit, hex_digits}
use Rattle.stream_report.specs.declared.places.TheConstants.{PAIRS}

abbrev are_pairs : ℕ → Bool
are_pairs zero = true
are_pairs (suc b) = (eqb (get_or PAIRS (2 * b) 0) (hex_digit (b / 16)) && eqb (get_or PAIRS (2 * b + 1) 0) (hex_digit (b % 16))) && are_pairs b

below : (n b : ℕ) → T (are_pairs n) → b < n → (get_or PAIRS (2 * b) 0 ≡ hex_digit (b / 16)) × (get_or PAIRS (2 * b + 1) 0 ≡ hex_digit (b % 16))
below zero b t h = absurd (omega arith)
below (suc n) b t h =
    elim (eq-zero-or-pos (n - b)) [
      | inl z ↦ let e : b ≡ n = omega arith in let a = and_l _ (are_pairs n) t in rw e (eqb→eq _ _ (and_l _ _ a), eqb→eq _ _ (and_r _ _ a))
      | inr g ↦ below n b (and_r _ (are_pairs n) t) (omega arith)
    ]

-- the table has the two digits of each byte
pub pair_at : (b : ℕ) → b < 256 → (get_or PAIRS (2 * b) 0 ≡ hex_digit (b / 16)) × (get_or PAIRS (2 * b + 1) 0 ≡ hex_digit (b % 16))
pair_at b h = below 256 b tt h

pub two_places : (l : List ℕ) (a b : ℕ) → length l ≡ 2 → set (set l 0 a) 1 b ≡ a ∷ b ∷ []
two_places (x ∷ y ∷ []) a b n = refl
two_places l a b n = absurd (omega arith)

-- the two digits of a number's last byte
pub last_two : (n : ℕ) → hex_digit (n % 256 / 16) ∷ hex_digit (n % 256 % 16) ∷ [] ≡ hex_digits 2 n
last_two n =
    let high : n % 256 / 16 ≡ n / 16 % 16 = omega arith in
    let low : n % 256 % 16 ≡ n % 16 = omega arith in
    rw (high, low)

-- a number's digits are those of its front and of its back
pub digits_apart : (j k n : ℕ) → hex_digits (j + k) n ≡ hex_digits j (n / 16 ^ k) ++ hex_digits k n
digits_apart j zero n =
    let e : j + 0 ≡ j = omega arith in
    let whole : n ≡ n / 1 = sym (div-one n) in
    ap (λ (i : ℕ). hex_digits i n) e ∙ ap (hex_digits j) whole ∙ sym (append-nil (hex_digits j (n / 1)))
digits_apart j (suc k) n =
    let e : j + suc k ≡ suc (j + k) = omega arith in
    let shorter : n / 16 / 16 ^ k ≡ n / 16 ^ suc k = div-div-eq-div-mul n 16 (16 ^ k) ∙ ap (λ (d : ℕ). n / d) (sym (pow-succ' 16 k)) in
    let digit : List ℕ = hex_digit (n % 16) ∷ [] in
    ap (λ (i : ℕ). hex_digits i n) e ∙ ap (λ (t : List ℕ). t ++ digit) (digits_apart j k (n / 16)) ∙ append_assoc (hex_digits j (n / 16 / 16 ^ k)) (hex_digits k (n / 16)) digit
    ∙ ap (λ (m : ℕ). hex_digits j m ++ (hex_digits k (n / 16) ++ digit)) shorter

digit_ascii : (d : ℕ) → d < 16 → hex_digit d < 128
digit_ascii d h = grind (arith, nat_tests)

-- digits are in ASCII
pub digits_ascii : (k n : ℕ) → IsAscii (hex_digits k n)
digits_ascii zero n = IsAscii-nil
digits_ascii (suc k) n = IsAscii-push (hex_digits k (n / 16)) (hex_digit (n % 16)) (digits_ascii k (n / 16)) (digit_ascii (n % 16) (omega arith))

pub bytes_ascii : (bytes : List ℕ) → IsAscii (flat_map (hex_digits 2) bytes)
bytes_ascii [] = IsAscii-nil
bytes_ascii (b ∷ bs) = IsAscii-append (hex_digits 2 b) (flat_map (hex_digits 2) bs) (digits_ascii 2 b) (bytes_ascii bs)

-- all digits of the bytes are written
pub all_bytes : (out bytes : List ℕ) (i : ℕ) → i ≡ length bytes → length out ≡ 2 * length bytes → take (2 * i) out ≡ flat_map (hex_digits 2) (take i bytes) → out ≡ flat_map (hex_digits 2) bytes
all_bytes out bytes i e room so_far =
    let two : length out ≤ 2 * i = omega arith in
    let one : length bytes ≤ i = omega arith in
    sym (take_all (2 * i) out two) ∙ so_far ∙ ap (flat_map (hex_digits 2)) (take_all i bytes one)
