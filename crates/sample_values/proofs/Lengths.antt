-- How long the least texts of values are.
use Rattle.std.proofs.Common.{◌≡◌, ◌≢◌, ℕ, ◌+◌, ◌*◌, List, [], ◌∷◌, length, ap, arith}
use Rattle.std.proofs.lemmas.List.{length-append}
use Rattle.std.proofs.lemmas.List.Concat.{flat_map-cons}
use Rattle.std.specs.List.{flat_map, AllByRecursion}
use Rattle.byteorder.specs.Numbers.{length-bytes_low_first}
use Rattle.xdf_model.specs.Varlen.{least_width, least_varlen}
use Rattle.xdf_lengths.proofs.Lengths.{length-least_varlen}
use Rattle.xdf_model.specs.Sample.{Value, number, text, FitsValue, least_value_text}

pub length-text : (t : List ℕ) → length (least_value_text 0 (text t)) ≡ 1 + least_width (length t) + length t
length-text t = omega (arith, length-append (least_varlen (length t)) t, length-least_varlen (length t))

-- numbers of one size
pub length-numbers : (size : ℕ) (vs : List Value) → size ≢ 0 → AllByRecursion (FitsValue size) vs → length (flat_map (least_value_text size) vs) ≡ length vs * size
length-numbers size [] some fits = omega arith
length-numbers size (number n ∷ vs) some fits =
    let parts = flat_map-cons (least_value_text size) (number n) vs in
    let more = length-numbers size vs some fits.1 in
    omega (arith, ap length parts, length-append (least_value_text size (number n)) (flat_map (least_value_text size) vs), length-bytes_low_first 0 size n, more)
length-numbers size (text t ∷ vs) some fits = absurd (some fits.0)
