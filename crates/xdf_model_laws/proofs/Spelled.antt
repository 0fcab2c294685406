-- What fits has a text, the least one.
use Rattle.std.proofs.Common.{ℕ, ◌+◌, ◌^◌, ◌<◌, List, [], ◌∷◌, length, refl, ap, arith}
use Rattle.std.specs.List.{flat_map, AllByRecursion}
use Rattle.std.proofs.lemmas.List.{length-append}
use Rattle.std.proofs.lemmas.List.Concat.{flat_map-cons}
use Rattle.xdf_model.specs.declared.types.Shape.{Shape}
use Rattle.xdf_model.specs.Varlen.{least_varlen}
use Rattle.xdf_model.specs.Sample.{Value, number, text, Sample, size_of, FitsValue, FitsShape, Joined, stamp_text, IsValueText, IsSampleText, least_value_text, least_sample_text}
use Rattle.xdf_model_laws.proofs.LeastTexts.{least_is}

pub value_spelled : (size : ℕ) (v : Value) → FitsValue size v → length (least_value_text size v) < 2 ^ 64 → IsValueText size v (least_value_text size v)
value_spelled size (number n) fits small = (fits.0, fits.1, refl)
value_spelled size (text t) fits small =
    let shorter : length t < 2 ^ 64 = omega (arith, length-append (least_varlen (length t)) t, small) in
    (fits, least_varlen (length t), least_is (length t) shorter, refl)

values_spelled : (size : ℕ) (vs : List Value) → AllByRecursion (FitsValue size) vs → length (flat_map (least_value_text size) vs) < 2 ^ 64 → Joined (IsValueText size) vs (flat_map (least_value_text size) vs)
values_spelled size [] fits small = refl
values_spelled size (v ∷ vs) fits small =
    let parts = flat_map-cons (least_value_text size) v vs in
    let sum : length (least_value_text size v) + length (flat_map (least_value_text size) vs) < 2 ^ 64 = omega (arith, small, ap length parts, length-append (least_value_text size v) (flat_map (least_value_text size) vs)) in
    (least_value_text size v, flat_map (least_value_text size) vs, value_spelled size v fits.0 (omega (arith, sum)), values_spelled size vs fits.1 (omega (arith, sum)), parts)

pub sample_spelled : (shape : Shape) (s : Sample) → FitsShape shape s → length (least_sample_text shape s) < 2 ^ 64 → IsSampleText shape s (least_sample_text shape s)
sample_spelled shape s fits small =
    let size = size_of shape.format in
    let values = flat_map (least_value_text size) s.values in
    let shorter : length values < 2 ^ 64 = omega (arith, small, length-append (stamp_text s.stamp) values) in
    record { fits = fits; values = values; each = values_spelled size s.values fits.values shorter; whole = refl }

pub samples_spelled : (shape : Shape) (ss : List Sample) → AllByRecursion (FitsShape shape) ss → length (flat_map (least_sample_text shape) ss) < 2 ^ 64 → Joined (IsSampleText shape) ss (flat_map (least_sample_text shape) ss)
samples_spelled shape [] fits small = refl
samples_spelled shape (s ∷ ss) fits small =
    let parts = flat_map-cons (least_sample_text shape) s ss in
    let sum : length (least_sample_text shape s) + length (flat_map (least_sample_text shape) ss) < 2 ^ 64 = omega (arith, small, ap length parts, length-append (least_sample_text shape s) (flat_map (least_sample_text shape) ss)) in
    (least_sample_text shape s, flat_map (least_sample_text shape) ss, sample_spelled shape s fits.0 (omega (arith, sum)), samples_spelled shape ss fits.1 (omega (arith, sum)), parts)
