-- Samples that the writer takes. This project's own.
use Rattle.std.specs.Prelude.{◌≡◌, ℕ, ◌≤◌, List, sum_by, slice_get, Some}
use Rattle.xdf_model.specs.declared.types.Shape.{Shape}
use Rattle.xdf_model.specs.Sample.{Sample, FitsShape, size_of}
use Rattle.feed_model.specs.Feed.{text_size, text_limit}
use Rattle.recording_model.specs.declared.stream.StreamDoc.{StreamDoc}

-- a sample that the writer takes
abbrev pub IsFitting : Shape → Sample → Type 0
IsFitting shape s = FitsShape shape s × (sum_by text_size s.values ≤ text_limit)

-- every stream is one of numbers
abbrev pub AreNumbers : List StreamDoc → Type 0
AreNumbers streams = (p : ℕ) (s : StreamDoc) → slice_get streams p ≡ Some s → 1 ≤ size_of s.shape.format
