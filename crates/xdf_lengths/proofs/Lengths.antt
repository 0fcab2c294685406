-- How long the least text of a number is.
use Rattle.std.proofs.Common.{◌≡◌, ℕ, ◌+◌, length, arith}
use Rattle.byteorder.specs.Numbers.{length-bytes_low_first}
use Rattle.xdf_model.specs.Varlen.{least_width, least_varlen}

pub length-least_varlen : (n : ℕ) → length (least_varlen n) ≡ 1 + least_width n
unfolding least_varlen
length-least_varlen n = omega (arith, length-bytes_low_first 0 (least_width n) n)
