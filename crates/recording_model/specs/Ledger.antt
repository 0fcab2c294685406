-- What a file says was lost, and what it holds of each stream. The ledger is this project's own.
use Rattle.std.specs.Prelude.{ℕ, ◌^◌, ◌==◌, ◌&&◌, nat_lt, nat_le, Bool, List, [], ◌∷◌, ◌++◌, Option, Some, None, filter, if◌then◌else◌}
use Rattle.std.specs.List.{filter_map}
use Rattle.xdf_model.specs.declared.types.Stamp.{Stamp}
use Rattle.xdf_model.specs.declared.types.Stamp.TheVariants as stamp
use Rattle.xdf_model.specs.Sample.{Value, number, Sample}
use Rattle.chunk_grammar.specs.declared.chunk.Chunk.{Chunk}
use Rattle.chunk_grammar.specs.declared.chunk.Chunk.TheVariants.{FileHeader, StreamHeader, Samples, ClockOffset, Boundary, StreamFooter, Other}
use Rattle.recording_model.specs.declared.row.Row.{Row}

-- a row that may stand in a ledger
abbrev pub is_in_range : Row → Bool
is_in_range row =
    nat_le 1 row.stream && nat_le row.stream 65_535 && nat_lt row.first (2 ^ 62) && nat_le 1 row.count && nat_le row.count (2 ^ 62)

-- how a row stands in the ledger stream: three numbers and no stamp
abbrev pub row_sample : Row → Sample
row_sample row = record { stamp = stamp.None; values = number row.stream ∷ number row.first ∷ number row.count ∷ [] }

abbrev pub in_range : Row → Option Row
in_range row = if is_in_range row then Some row else None

abbrev pub row_from : Stamp → List Value → Option Row
row_from stamp.None (number stream ∷ number first ∷ number count ∷ []) = in_range (record { stream = stream; first = first; count = count })
row_from _ _ = None

-- the row that a sample is, where it is one in range
abbrev pub row_in : Sample → Option Row
row_in s = row_from s.stamp s.values

-- the samples of all Samples chunks of a stream, in order
abbrev pub stream_samples : ℕ → List Chunk → List Sample
stream_samples id [] = []
stream_samples id (Samples stream samples ∷ cs) = (if stream == id then samples else []) ++ stream_samples id cs
stream_samples id (FileHeader doc ∷ cs) = stream_samples id cs
stream_samples id (StreamHeader stream doc ∷ cs) = stream_samples id cs
stream_samples id (ClockOffset stream time offset ∷ cs) = stream_samples id cs
stream_samples id (Boundary ∷ cs) = stream_samples id cs
stream_samples id (StreamFooter stream doc ∷ cs) = stream_samples id cs
stream_samples id (Other tag body ∷ cs) = stream_samples id cs

-- the rows of the ledger, stream 0, in order
abbrev pub all_rows : List Chunk → List Row
all_rows cs = filter_map row_in (stream_samples 0 cs)

-- those that name a stream
abbrev pub ledger_rows : ℕ → List Chunk → List Row
ledger_rows id cs = filter (λ row. row.stream == id) (all_rows cs)
