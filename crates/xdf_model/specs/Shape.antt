-- The shape that a document tells: a channel count and a channel format, each by its first occurrence.
use Rattle.std.specs.Prelude.{ℕ, ◌&&◌, List, [], ◌∷◌, ◌++◌, length, drop, Option, Some, None, Result, Ok, Err, nat_eq, nat_lt, if◌then◌else◌, codes, take_while}
use Rattle.std.specs.List.{starts_with}
use Rattle.std.specs.Char.{is_ascii_digit}
use Rattle.std.specs.Str.Parse.{digits_value}
use Rattle.xdf_model.specs.declared.types.Format.{Format}
use Rattle.xdf_model.specs.declared.types.Format.TheVariants.{Float32, Double64, Text, Int32, Int16, Int8, Int64}
use Rattle.xdf_model.specs.declared.types.Shape.{Shape}
use Rattle.xdf_model.specs.declared.types.NoShape.{NoShape}
use Rattle.xdf_model.specs.declared.types.NoShape.TheVariants.{NoCount, BadCount, NoFormat, BadFormat}
use Rattle.xdf_model.specs.Reading.{◌>>=◌}

-- what stands behind the first occurrence of a pattern
abbrev pub behind_first : List ℕ → List ℕ → Option (List ℕ)
behind_first pattern [] = None
behind_first pattern (x ∷ b) =
    if starts_with nat_eq (x ∷ b) pattern then Some (drop (length pattern) (x ∷ b)) else behind_first pattern b

abbrev pub digits_front : List ℕ → List ℕ
digits_front b = take_while is_ascii_digit b

-- 1 to 5 digits and then at once the closing element, with a number of 1 to 4096
abbrev pub count_in : List ℕ → Option ℕ
count_in b =
    let digits = digits_front b in
    let n = digits_value 10 digits in
    if nat_lt 0 (length digits) && nat_lt (length digits) 6
    && starts_with nat_eq (drop (length digits) b) (codes "</channel_count>")
    && nat_lt 0 n && nat_lt n 4097
    then Some n else None

abbrev pub format_name : Format → List ℕ
format_name Float32 = codes "float32"
format_name Double64 = codes "double64"
format_name Text = codes "string"
format_name Int32 = codes "int32"
format_name Int16 = codes "int16"
format_name Int8 = codes "int8"
format_name Int64 = codes "int64"

-- the format whose name stands at the front, and then at once the closing element
abbrev pub format_among : List Format → List ℕ → Option Format
format_among [] b = None
format_among (f ∷ more) b =
    if starts_with nat_eq b (format_name f ++ codes "</channel_format>") then Some f else format_among more b

abbrev pub all_formats : List Format
all_formats = Float32 ∷ Double64 ∷ Text ∷ Int32 ∷ Int16 ∷ Int8 ∷ Int64 ∷ []

abbrev pub or_else : {A : Type 0} → NoShape → Option A → Result A NoShape
or_else reason None = Err reason
or_else reason (Some x) = Ok x

-- the shape of a document, or the first reason why it has none
unfoldable pub shape_in : List ℕ → Result Shape NoShape
shape_in doc = do
  at_count ← or_else NoCount (behind_first (codes "<channel_count>") doc)
  count ← or_else BadCount (count_in at_count)
  at_format ← or_else NoFormat (behind_first (codes "<channel_format>") doc)
  format ← or_else BadFormat (format_among all_formats at_format)
  Ok (record { count = count; format = format })
