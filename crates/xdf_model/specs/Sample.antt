-- Samples, and their texts (XDF, "Samples chunk").
use Rattle.std.specs.Prelude.{◌≡◌, ℕ, zero, suc, ◌+◌, ◌<◌, ◌^◌, ◌==◌, List, [], ◌∷◌, ◌++◌, length, Ok, Err, if◌then◌else◌}
use Rattle.std.specs.List.{flat_map, AllByRecursion}
use Rattle.byteorder.specs.Endian.{little_bytes}
use Rattle.xdf_model.specs.declared.types.Format.{Format}
use Rattle.xdf_model.specs.declared.types.Format.TheVariants.{Float32, Double64, Text, Int32, Int16, Int8, Int64}
use Rattle.xdf_model.specs.declared.types.Shape.{Shape}
use Rattle.xdf_model.specs.declared.types.Stamp.{Stamp}
use Rattle.xdf_model.specs.declared.types.Stamp.TheVariants.{None, Bits}
use Rattle.xdf_model.specs.declared.types.Why.TheVariants.{BadStampWidth, SamplesShort}
use Rattle.xdf_model.specs.Varlen.{IsVarlen, least_varlen}
use Rattle.xdf_model.specs.Reading.{outside, wrong, Found, ◌>>=◌, front_at, number_at, length_at, many_at, told}

pub data Value : Type 0 where
  number : ℕ → Value
  text : List ℕ → Value

pub record Sample : Type 0 where
  pub stamp : Stamp
  pub values : List Value

-- the bytes of a number of a format, 0 for texts
abbrev pub size_of : Format → ℕ
size_of Float32 = 4
size_of Double64 = 8
size_of Text = 0
size_of Int32 = 4
size_of Int16 = 2
size_of Int8 = 1
size_of Int64 = 8

-- values of a size, where size 0 stands for texts
abbrev pub FitsValue : ℕ → Value → Type 0
FitsValue size (number n) = (0 < size) × (n < 256 ^ size)
FitsValue size (text t) = size ≡ 0

abbrev pub FitsStamp : Stamp → Type 0
FitsStamp None = Unit {0}
FitsStamp (Bits n) = n < 2 ^ 64

-- a sample of a shape
pub record FitsShape (shape : Shape) (s : Sample) : Type 0 where
  pub count : length s.values ≡ shape.count
  pub values : AllByRecursion (FitsValue (size_of shape.format)) s.values
  pub stamp : FitsStamp s.stamp

-- texts of the items, one directly after the other
abbrev pub Joined : {A : Type 0} → (A → List ℕ → Type 0) → List A → List ℕ → Type 0
Joined R [] b = b ≡ []
Joined R (a ∷ more) b = (x : List ℕ) × (y : List ℕ) × R a x × Joined R more y × (b ≡ x ++ y)

abbrev pub stamp_text : Stamp → List ℕ
stamp_text None = 0 ∷ []
stamp_text (Bits n) = 8 ∷ little_bytes 8 n

-- a number in size bytes, or a text behind its length
abbrev pub IsValueText : ℕ → Value → List ℕ → Type 0
IsValueText size (number n) b = (0 < size) × (n < 256 ^ size) × (b ≡ little_bytes size n)
IsValueText size (text t) b = (size ≡ 0) × (len : List ℕ) × IsVarlen (length t) len × (b ≡ len ++ t)

-- b is a text of the sample s
pub record IsSampleText (shape : Shape) (s : Sample) (b : List ℕ) : Type 0 where
  pub fits : FitsShape shape s
  pub values : List ℕ
  pub each : Joined (IsValueText (size_of shape.format)) s.values values
  pub whole : b ≡ stamp_text s.stamp ++ values

-- the text with the least widths
abbrev pub least_value_text : ℕ → Value → List ℕ
least_value_text size (number n) = little_bytes size n
least_value_text size (text t) = least_varlen (length t) ++ t

abbrev pub least_sample_text : Shape → Sample → List ℕ
least_sample_text shape s = stamp_text s.stamp ++ flat_map (least_value_text (size_of shape.format)) s.values

-- reading a sample from left to right
unfoldable pub stamp_at : List ℕ → Found Stamp
stamp_at [] = Err outside
stamp_at (w ∷ b) =
    if w == 0 then Ok (None, b)
    else if w == 8 then (number_at 8 b >>= λ n. Ok (Bits n.0, n.1))
    else Err (wrong (length b + 1) BadStampWidth)

unfoldable pub text_at : List ℕ → Found Value
text_at b = do
  len ← length_at b
  t ← front_at len.0 len.1
  Ok (text t.0, t.1)

unfoldable pub bits_at : ℕ → List ℕ → Found Value
bits_at size b = do
  n ← number_at size b
  Ok (number n.0, n.1)

-- size 0 stands for texts
abbrev pub value_at : ℕ → List ℕ → Found Value
value_at zero b = text_at b
value_at (suc k) b = bits_at (suc k) b

unfoldable pub sample_at : Shape → List ℕ → Found Sample
sample_at shape b = do
  stamp ← stamp_at b
  values ← many_at (value_at (size_of shape.format)) shape.count stamp.1
  Ok (record { stamp = stamp.0; values = values.0 }, values.1)

-- a byte that lies outside is told at the first byte of its sample
unfoldable pub samples_at : Shape → ℕ → List ℕ → Found (List Sample)
samples_at shape n b = many_at (λ rest. told (length rest) SamplesShort (sample_at shape rest)) n b
