-- What the rings of a recording cost. This project's own.
use Rattle.std.specs.Prelude.{ℕ, ◌+◌, ◌*◌, List, sum_by}
use Rattle.xdf_model.specs.declared.types.Shape.{Shape}
use Rattle.xdf_model.specs.declared.types.Format.{Format}
use Rattle.xdf_model.specs.declared.types.Format.TheVariants.{Float32, Double64, Text, Int32, Int16, Int8, Int64}

-- the bytes that are counted for a value: those of a number, and 8 for a text
abbrev pub value_size : Format → ℕ
value_size Float32 = 4
value_size Double64 = 8
value_size Text = 8
value_size Int32 = 4
value_size Int16 = 2
value_size Int8 = 1
value_size Int64 = 8

-- a ring has room for so many samples and two more, each with 9 bytes and its values
abbrev pub ring_bytes : ℕ → Shape → ℕ
ring_bytes ring shape = (ring + 2) * (9 + shape.count * value_size shape.format)

abbrev pub cost_of : ℕ → List Shape → ℕ
cost_of ring shapes = sum_by (ring_bytes ring) shapes
