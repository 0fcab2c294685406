-- Values of a size that isn't 0 are the numbers in their bytes.
use Rattle.std.proofs.Common.{◌≡◌, ℕ, zero, suc, ◌*◌, ◌/◌, ◌<◌, ◌≤◌, List, [], ◌∷◌, length, drop, sym, ap, ◌∙◌, arith}
use Rattle.std.proofs.Math.Nat.{mul-div_cancel}
use Rattle.std.proofs.lemmas.List.{length-drop}
use Rattle.byteorder.specs.Endian.{little_number}
use Rattle.xdf_model.specs.Reading.{many_at}
use Rattle.xdf_model.specs.Sample.{Value, number, value_at}
use Rattle.sample_values.specs.Raw.{listed, IsAll}
use Rattle.sample_values.specs.Numbers.{numbers_in}
use Rattle.sample_values.proofs.Rests.{left_is}
use Rattle.sample_values.proofs.Cuts.{many_first, many_none, one_number, values_long}

none_long : (b : List ℕ) → left_is b ≡ left_is [] → length b ≡ 0
none_long b e = let same : b ≡ [] = cc in ap length same

sized : (k n : ℕ) (b : List ℕ) → IsAll (many_at (value_at (suc k)) n b) → (length b ≡ n * suc k) × (listed (many_at (value_at (suc k)) n b) ≡ numbers_in (suc k) n b)
unfolding many_at
sized k zero b all =
    let none : length b ≡ 0 = none_long b all in
    (omega arith, many_none (value_at (suc k)) b)
sized k (suc n) b all =
    let long : suc n * suc k ≤ length b = values_long k (suc n) b all in
    let room : suc k ≤ length b = omega arith in
    let f = many_first (value_at (suc k)) n b (drop (suc k) b) (number (little_number (suc k) b)) (one_number k b room) all in
    let s = sized k n (drop (suc k) b) f.0 in
    let count : length (drop (suc k) b) ≡ n * suc k = s.0 in
    (omega (arith, length-drop (suc k) b), f.1 ∙ ap (λ (l : List Value). number (little_number (suc k) b) ∷ l) s.1)

-- the values are the numbers that the bytes hold
pub numbers_are : (size n : ℕ) (b : List ℕ) → 0 < size → IsAll (many_at (value_at size) n b) → listed (many_at (value_at size) n b) ≡ numbers_in size (length b / size) b
numbers_are zero n b some all = absurd (omega arith)
numbers_are (suc k) n b some all =
    let s = sized k n b all in
    let count : n ≡ length b / suc k = sym (ap (λ (m : ℕ). m / suc k) s.0 ∙ mul-div_cancel n (omega arith)) in
    s.1 ∙ ap (λ (i : ℕ). numbers_in (suc k) i b) count
