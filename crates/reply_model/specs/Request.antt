-- The request for a feed (LSL, `streamfeed` with data protocol 1.10).
use Rattle.std.specs.Prelude.{ℕ, ◌+◌, List, [], ◌∷◌, ◌++◌, codes}
use Rattle.xdf_model.specs.declared.types.Shape.{Shape}
use Rattle.xdf_model.specs.Sample.{size_of}
use Rattle.reply_model.specs.Lines.{line_end}

-- a line with its end (LSL, `streamfeed` with data protocol 1.10)
abbrev pub ended : List ℕ → List ℕ
ended text = text ++ line_end

-- seven header lines, of which one tells the size of a value, 0 for texts, and an empty line (which lines are sent, and their
-- values, are this project's own)
abbrev pub request_lines : Shape → List ℕ
request_lines shape =
    ended (codes "Native-Byte-Order: 1234")
    ++ ended (codes "Has-IEEE754-Floats: 1")
    ++ ended (codes "Supports-Subnormals: 1")
    ++ ended (codes "Value-Size: " ++ (48 + size_of shape.format) ∷ [])
    ++ ended (codes "Data-Protocol-Version: 110")
    ++ ended (codes "Max-Buffer-Length: 36000")
    ++ ended (codes "Max-Chunk-Length: 0")
    ++ ended []

-- the request line with the stream's uid, and the header lines (LSL, `streamfeed` with data protocol 1.10)
unfoldable pub request_bytes : List ℕ → Shape → List ℕ
request_bytes uid shape = codes "LSL:streamfeed/110 " ++ (uid ++ (line_end ++ request_lines shape))
