-- Numbers of width 1, 4 or 8 (XDF, "NumLengthBytes" and the number behind it).
use Rattle.std.specs.Prelude.{◌≡◌, ℕ, ◌+◌, ◌<◌, ◌^◌, ◌==◌, ◌||◌, Bool, IsTrue, nat_lt, if◌then◌else◌, List, [], ◌∷◌, length}
use Rattle.byteorder.specs.Endian.{little_bytes, little_number}
use Rattle.xdf_model.specs.declared.types.NumRead.{NumRead}
use Rattle.xdf_model.specs.declared.types.NumRead.TheVariants.{Read, Short, BadWidth}

abbrev pub is_width : ℕ → Bool
is_width w = w == 1 || w == 4 || w == 8

-- b is a text of n: a width, and then n in so many bytes, the lowest first
pub record IsVarlen (n : ℕ) (b : List ℕ) : Type 0 where
  pub width : ℕ
  pub width_is_one : IsTrue (is_width width)
  pub fits : n < 256 ^ width
  pub text : b ≡ width ∷ little_bytes width n

-- the least width that n fits
abbrev pub least_width : ℕ → ℕ
least_width n = if nat_lt n 256 then 1 else if nat_lt n (2 ^ 32) then 4 else 8

-- the text of n with the least width
unfoldable pub least_varlen : ℕ → List ℕ
least_varlen n = least_width n ∷ little_bytes (least_width n) n

-- what stands at the front of b
unfoldable pub varlen_at : List ℕ → NumRead
varlen_at [] = Short
varlen_at (w ∷ b) = if is_width w then (if nat_lt (length b) w then Short else Read (little_number w b) (w + 1)) else BadWidth w
