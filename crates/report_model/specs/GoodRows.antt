-- Which rows of a ledger count. A ledger and its rows are this project's own.
use Rattle.std.specs.Prelude.{ℕ, ◌+◌, ◌==◌, ◌&&◌, ◌||◌, Bool, false, not, List, [], ◌∷◌, ◌++◌, Option, Some, None, is_some, nat_le, sum_by, if◌then◌else◌}
use Rattle.std.specs.List.{list_any, list_all, filter}
use Rattle.std.specs.Str.{bytes_eq}
use Rattle.xdf_model.specs.Sample.{Sample}
use Rattle.chunk_grammar.specs.declared.chunk.Chunk.{Chunk}
use Rattle.chunk_grammar.specs.declared.chunk.Chunk.TheVariants.{StreamHeader, Samples}
use Rattle.chunk_grammar.specs.Chunk.{Context, shape_of}
use Rattle.chunk_grammar.specs.Standing.{context_after_all}
use Rattle.recording_model.specs.declared.row.Row.{Row}
use Rattle.recording_model.specs.Ledger.{row_in}
use Rattle.recording_model.specs.Recording.{ledger_document}

-- a ledger is stream 0, where its header document is the ledger's, byte for byte
abbrev pub is_ledger_header : Chunk → Bool
is_ledger_header (StreamHeader id doc) = id == 0 && bytes_eq doc ledger_document
is_ledger_header _ = false

-- the header of a ledger is among these chunks
abbrev pub has_ledger : List Chunk → Bool
has_ledger cs = list_any is_ledger_header cs

-- a row names a stream whose header came before, and begins at or behind the end of each good row before it that names the same stream
abbrev pub is_good : Context → List Row → Row → Bool
is_good ctx good row =
    is_some (shape_of ctx row.stream)
    && list_all (λ earlier. not (earlier.stream == row.stream) || nat_le (earlier.first + earlier.count) row.first) good

abbrev pub if_good : Context → List Row → Option Row → Option Row
if_good ctx good None = None
if_good ctx good (Some row) = if is_good ctx good row then Some row else None

-- the good row that a sample is, behind these good rows
abbrev pub good_row : Context → List Row → Sample → Option Row
good_row ctx good s = if_good ctx good (row_in s)

abbrev pub with_row : List Row → Option Row → List Row
with_row good None = good
with_row good (Some row) = good ++ row ∷ []

-- these good rows, and those of the samples behind them
abbrev pub rows_behind : Context → List Row → List Sample → List Row
rows_behind ctx good [] = good
rows_behind ctx good (s ∷ more) = rows_behind ctx (with_row good (good_row ctx good s)) more

-- one of the samples is no good row
abbrev pub has_bad_row : Context → List Row → List Sample → Bool
has_bad_row ctx good [] = false
has_bad_row ctx good (s ∷ more) = not (is_some (good_row ctx good s)) || has_bad_row ctx (with_row good (good_row ctx good s)) more

-- the good rows behind a chunk: only samples of a ledger add to them
abbrev pub rows_after : List Chunk → List Row → Chunk → List Row
rows_after before good (Samples id samples) =
    if has_ledger before && id == 0 then rows_behind (context_after_all [] before) good samples else good
rows_after before good _ = good

abbrev pub rows_of_chunks : List Chunk → List Row → List Chunk → List Row
rows_of_chunks before good [] = good
rows_of_chunks before good (c ∷ more) = rows_of_chunks (before ++ c ∷ []) (rows_after before good c) more

-- the good rows of the ledger of these chunks, in order
abbrev pub good_rows : List Chunk → List Row
good_rows cs = rows_of_chunks [] [] cs

-- how many positions of a stream these rows name
abbrev pub lost_among : ℕ → List Row → ℕ
lost_among id rows = sum_by (λ row. row.count) (filter (λ row. row.stream == id) rows)
