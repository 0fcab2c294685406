-- Numbers that stand one after the other.
use Rattle.std.specs.Prelude.{ℕ, zero, suc, List, [], ◌∷◌, drop}
use Rattle.byteorder.specs.Endian.{little_number}
use Rattle.xdf_model.specs.Sample.{Value, number}

-- so many numbers of a size at the front of some bytes, each with its lowest byte first
abbrev pub numbers_in : ℕ → ℕ → List ℕ → List Value
numbers_in size zero b = []
numbers_in size (suc n) b = number (little_number size b) ∷ numbers_in size n (drop size b)
