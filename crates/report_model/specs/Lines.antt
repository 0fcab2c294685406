-- The lines that are said of a chunk. This project's own.
use Rattle.std.specs.Prelude.{ℕ, zero, suc, ◌+◌, ◌-◌, ◌*◌, ◌^◌, ◌/◌, ◌%◌, nat_lt, List, [], ◌∷◌, ◌++◌, length, map, Option, Some, None, Result, Ok, Err, codes, if◌then◌else◌}
use Rattle.std.specs.List.{flat_map}
use Rattle.std.specs.Fmt.{decimal}
use Rattle.xdf_model.specs.declared.types.Format.{Format}
use Rattle.xdf_model.specs.declared.types.Format.TheVariants.{Float32, Double64, Text, Int32, Int16, Int8, Int64}
use Rattle.xdf_model.specs.declared.types.Shape.{Shape}
use Rattle.xdf_model.specs.declared.types.NoShape.{NoShape}
use Rattle.xdf_model.specs.declared.types.Stamp.{Stamp}
use Rattle.xdf_model.specs.declared.types.Stamp.TheVariants as stamp
use Rattle.xdf_model.specs.Shape.{shape_in, format_name}
use Rattle.xdf_model.specs.Sample.{Value, number, text, Sample}
use Rattle.chunk_grammar.specs.declared.chunk.Chunk.{Chunk}
use Rattle.chunk_grammar.specs.declared.chunk.Chunk.TheVariants.{FileHeader, StreamHeader, Samples, ClockOffset, Boundary, StreamFooter, Other}
use Rattle.chunk_grammar.specs.Chunk.{Context, shape_of}

-- a hexadecimal digit, in lower case
abbrev pub hex_digit : ℕ → ℕ
hex_digit d = if nat_lt d 10 then 48 + d else 87 + d

-- a number in so many hexadecimal digits, the highest first
abbrev pub hex_digits : ℕ → ℕ → List ℕ
hex_digits zero n = []
hex_digits (suc k) n = hex_digits k (n / 16) ++ hex_digit (n % 16) ∷ []

-- the number that a two's complement pattern of so many bytes stands for
abbrev pub signed_decimal : ℕ → ℕ → List ℕ
signed_decimal size n = if nat_lt n (2 ^ (8 * size - 1)) then decimal n else 45 ∷ decimal (2 ^ (8 * size) - n)

abbrev pub number_word : Format → ℕ → List ℕ
number_word Float32 n = hex_digits 8 n
number_word Double64 n = hex_digits 16 n
number_word Text n = []
number_word Int32 n = signed_decimal 4 n
number_word Int16 n = signed_decimal 2 n
number_word Int8 n = signed_decimal 1 n
number_word Int64 n = signed_decimal 8 n

-- a text is an `x` and two digits a byte
abbrev pub value_word : Format → Value → List ℕ
value_word format (number n) = number_word format n
value_word format (text t) = 120 ∷ flat_map (hex_digits 2) t

abbrev pub stamp_word : Stamp → List ℕ
stamp_word stamp.None = codes "none"
stamp_word (stamp.Bits n) = hex_digits 16 n

-- two blanks and the stamp, then each value behind one blank
abbrev pub sample_line : Format → Sample → List ℕ
sample_line format s = 32 ∷ 32 ∷ stamp_word s.stamp ++ flat_map (λ v. 32 ∷ value_word format v) s.values

abbrev pub sample_lines : Option Shape → List Sample → List (List ℕ)
sample_lines None samples = []
sample_lines (Some shape) samples = map (sample_line shape.format) samples

-- what is said of a stream's shape
abbrev pub shape_words : Result Shape NoShape → List ℕ
shape_words (Ok shape) = codes " channels " ++ decimal shape.count ++ codes " format " ++ format_name shape.format
shape_words (Err reason) = []

-- the lines of a chunk that begins at this byte of the file, in the context of the streams before it
abbrev pub chunk_lines : Context → ℕ → Chunk → List (List ℕ)
chunk_lines ctx at (FileHeader doc) = (decimal at ++ codes " file-header bytes " ++ decimal (length doc)) ∷ []
chunk_lines ctx at (StreamHeader id doc) =
    (decimal at ++ codes " stream-header id " ++ decimal id ++ shape_words (shape_in doc) ++ codes " bytes " ++ decimal (length doc)) ∷ []
chunk_lines ctx at (Samples id samples) =
    (decimal at ++ codes " samples id " ++ decimal id ++ codes " count " ++ decimal (length samples)) ∷ sample_lines (shape_of ctx id) samples
chunk_lines ctx at (ClockOffset id time offset) =
    (decimal at ++ codes " clock-offset id " ++ decimal id ++ codes " time " ++ hex_digits 16 time ++ codes " offset " ++ hex_digits 16 offset) ∷ []
chunk_lines ctx at Boundary = (decimal at ++ codes " boundary") ∷ []
chunk_lines ctx at (StreamFooter id doc) = (decimal at ++ codes " stream-footer id " ++ decimal id ++ codes " bytes " ++ decimal (length doc)) ∷ []
chunk_lines ctx at (Other tag body) = (decimal at ++ codes " other tag " ++ decimal tag ++ codes " bytes " ++ decimal (length body)) ∷ []
