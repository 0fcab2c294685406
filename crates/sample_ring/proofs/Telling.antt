-- A text tells its sample, so a block that was given a sample's text is full.
use Rattle.std.proofs.Common.{◌≡◌, ℕ, ◌+◌, ◌*◌, ◌^◌, ◌<◌, ◌≤◌, List, [], ◌∷◌, length, refl, sym, ap, ◌∙◌, subst, arith}
use Rattle.std.specs.List.{flat_map, AllByRecursion}
use Rattle.std.proofs.lemmas.List.{append-nil, length-append}
use Rattle.byteorder.specs.Endian.{little_bytes}
use Rattle.xdf_model.specs.declared.types.Format.{Format}
use Rattle.xdf_model.specs.declared.types.Format.TheVariants.{Float32, Double64, Text, Int32, Int16, Int8, Int64}
use Rattle.xdf_model.specs.declared.types.Shape.{Shape}
use Rattle.xdf_model.specs.declared.types.Stamp.{Stamp}
use Rattle.xdf_model.specs.declared.types.Stamp.TheVariants.{None, Bits}
use Rattle.xdf_model.specs.Sample.{Value, number, text, Sample, size_of, FitsValue, FitsShape, stamp_text, least_value_text, least_sample_text, sample_at}
use Rattle.xdf_model_laws.proofs.Bytes.{length-little_bytes}
use Rattle.xdf_model_laws.proofs.Samples.{reads_sample}
use Rattle.xdf_model_laws.proofs.Spelled.{sample_spelled}
use Rattle.sample_values.specs.Raw.{found_in}
use Rattle.sample_pool.specs.Block.{BlockValue}
use Rattle.sample_pool.specs.Fills.{FitsGiven}
use Rattle.sample_ring.specs.Seen.{sample_in, IsFull}

pub text_tells : (shape : Shape) (s : Sample) → FitsShape shape s → length (least_sample_text shape s) < 2 ^ 64 → sample_in shape (least_sample_text shape s) ≡ s
text_tells shape s fits short =
    let text = sample_spelled shape s fits short in
    let read = (reads_sample shape).complete s (least_sample_text shape s) [] text in
    ap found_in (ap (sample_at shape) (sym (append-nil (least_sample_text shape s))) ∙ read)

-- ---- how long the text of a sample of numbers is

stamp_short : (stamp : Stamp) → length (stamp_text stamp) ≤ 9
stamp_short None = omega arith
stamp_short (Bits n) = omega (arith, length-little_bytes 8 n)

numbers_length : (size : ℕ) (values : List Value) → 1 ≤ size → AllByRecursion (FitsValue size) values → length (flat_map (least_value_text size) values) ≡ size * length values
numbers_length size [] some fit = omega arith
numbers_length size (number n ∷ values) some fit =
    let more = numbers_length size values some fit.1 in
    let long = length-append (little_bytes size n) (flat_map (least_value_text size) values) in
    let product : size * (length values + 1) ≡ size * length values + size = omega arith in
    omega (arith, more, long, length-little_bytes size n, product)
numbers_length size (text t ∷ values) some fit = absurd (omega (arith, fit.0))

-- by a case for each format, since then no product of two unknowns is left
below : (format : Format) (count n : ℕ) → count < 2 ^ 16 → n ≤ 9 + size_of format * count → n < 2 ^ 64
below Float32 count n low le = omega arith
below Double64 count n low le = omega arith
below Text count n low le = omega arith
below Int32 count n low le = omega arith
below Int16 count n low le = omega arith
below Int8 count n low le = omega arith
below Int64 count n low le = omega arith

pub numbers_short : (shape : Shape) (s : Sample) → 1 ≤ size_of shape.format → shape.count < 2 ^ 16 → FitsShape shape s → length (least_sample_text shape s) < 2 ^ 64
numbers_short shape s some low fits =
    let size = size_of shape.format in
    let long = length-append (stamp_text s.stamp) (flat_map (least_value_text size) s.values) in
    let values : length (flat_map (least_value_text size) s.values) ≡ size * shape.count = numbers_length size s.values some fits.values ∙ ap (λ (n : ℕ). size * n) fits.count in
    below shape.format shape.count (length (least_sample_text shape s)) low (omega (arith, long, values, stamp_short s.stamp))

-- ---- a block with a sample's text

pub is_full_of : (shape : Shape) (s : Sample) (block : BlockValue) → 1 ≤ size_of shape.format → shape.count < 2 ^ 16 → block.bytes ≡ least_sample_text shape s → FitsGiven shape s → IsFull shape block.length block
is_full_of shape s block some low is fits =
    let tells : sample_in shape block.bytes ≡ s = ap (sample_in shape) is ∙ text_tells shape s fits.0 (numbers_short shape s some low fits.0) in
    (refl, is ∙ ap (least_sample_text shape) (sym tells), subst (λ (x : Sample). FitsGiven shape x) (sym tells) fits)
