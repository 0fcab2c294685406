-- How long the text of a sample of numbers may be.
use Rattle.std.proofs.Common.{◌≡◌, ℕ, ◌*◌, ◌≤◌, List, [], ◌∷◌, length, sym, ap, length-append, arith}
use Rattle.std.specs.List.{AllByRecursion, flat_map}
use Rattle.std.proofs.Math.Nat.{mul-le-mul_left}
use Rattle.std.proofs.lemmas.List.Concat.{flat_map-cons}
use Rattle.xdf_model.specs.declared.types.Format.{Format}
use Rattle.xdf_model.specs.declared.types.Format.TheVariants as format
use Rattle.xdf_model.specs.declared.types.Shape.{Shape}
use Rattle.xdf_model.specs.declared.types.Stamp.{Stamp}
use Rattle.xdf_model.specs.declared.types.Stamp.TheVariants.{None, Bits}
use Rattle.xdf_model.specs.Sample.{Value, number, text, Sample, size_of, FitsValue, FitsShape, stamp_text, least_value_text, least_sample_text}
use Rattle.xdf_model_laws.proofs.Bytes.{length-little_bytes}

stamp_size : (s : Stamp) → length (stamp_text s) ≤ 9
stamp_size None = omega arith
stamp_size (Bits n) = omega (arith, length-little_bytes 8 n)

value_size : (size : ℕ) (v : Value) → 1 ≤ size → FitsValue size v → length (least_value_text size v) ≡ size
value_size size (number n) some fits = length-little_bytes size n
value_size size (text t) some fits = absurd (omega (arith, fits))

values_size : (size : ℕ) (vs : List Value) → 1 ≤ size → AllByRecursion (FitsValue size) vs → length (flat_map (least_value_text size) vs) ≡ size * length vs
values_size size [] some fits = let none : size * 0 ≡ 0 = omega arith in sym none
values_size size (v ∷ vs) some fits =
    let one = value_size size v some fits.0 in
    let more = values_size size vs some fits.1 in
    let parts = ap length (flat_map-cons (least_value_text size) v vs) in
    let long = length-append (least_value_text size v) (flat_map (least_value_text size) vs) in
    omega (arith, one, more, parts, long)

size_small : (f : Format) → size_of f ≤ 8
size_small format.Float32 = omega arith
size_small format.Double64 = omega arith
size_small format.Text = omega arith
size_small format.Int32 = omega arith
size_small format.Int16 = omega arith
size_small format.Int8 = omega arith
size_small format.Int64 = omega arith

-- the text of a sample of numbers
pub text_small : (shape : Shape) (s : Sample) → 1 ≤ size_of shape.format → shape.count ≤ 4096 → FitsShape shape s → length (least_sample_text shape s) ≤ 32_777
text_small shape s some few fits =
    let size = size_of shape.format in
    let long = length-append (stamp_text s.stamp) (flat_map (least_value_text size) s.values) in
    let values = values_size size s.values some fits.values in
    let count = ap (λ (n : ℕ). size * n) fits.count in
    let most : size * shape.count ≤ size * 4096 = mul-le-mul_left size few in
    omega (arith, long, values, count, most, stamp_size s.stamp, size_small shape.format)
