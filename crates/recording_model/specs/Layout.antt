-- How the groups of a recording are laid out: rows of the ledger before them, boundaries behind them. This project's own.
use Rattle.std.specs.Prelude.{ℕ, ◌+◌, ◌-◌, ◌==◌, nat_lt, List, [], ◌∷◌, ◌++◌, length, Option, Some, None, slice_get, if◌then◌else◌}
use Rattle.xdf_model.specs.Sample.{Sample}
use Rattle.chunk_grammar.specs.declared.chunk.Chunk.{Chunk}
use Rattle.chunk_grammar.specs.declared.chunk.Chunk.TheVariants.{Samples, Boundary}
use Rattle.chunk_grammar.specs.Chunk.{Context, least_chunk_text}
use Rattle.recording_model.specs.declared.stream.StreamDoc.{StreamDoc}
use Rattle.recording_model.specs.Ledger.{row_sample}
use Rattle.recording_model.specs.Batch.{Group, samples_in, end_of}

-- what becomes one Samples chunk
pub record ChunkSamples : Type 0 where
  pub id : ℕ
  pub samples : List Sample

-- the position after the last entry of a place in these groups, n where there is none
abbrev pub expected_from : ℕ → ℕ → List Group → ℕ
expected_from place n [] = n
expected_from place n (g ∷ gs) = expected_from place (if g.place == place then end_of g else n) gs

-- the position that a place's next entry has where none is lost
abbrev pub expected : ℕ → List Group → ℕ
expected place gs = expected_from place 0 gs

-- the row of the positions from `next` to the one before `first`, where there are any
abbrev pub row_before : ℕ → ℕ → ℕ → List ChunkSamples
row_before stream next first =
    if next == first then [] else record { id = 0; samples = row_sample (record { stream = stream; first = next; count = first - next }) ∷ [] } ∷ []

abbrev pub id_of : Option StreamDoc → ℕ
id_of None = 0
id_of (Some s) = s.id

-- the id of the stream at a place
abbrev pub id_at : List StreamDoc → ℕ → ℕ
id_at streams place = id_of (slice_get streams place)

-- the groups in order, behind those that came before, each with its row before it
abbrev pub with_rows : List StreamDoc → List Group → List Group → List ChunkSamples
with_rows streams before [] = []
with_rows streams before (g ∷ gs) =
    row_before (id_at streams g.place) (expected g.place before) g.first
    ++ record { id = id_at streams g.place; samples = samples_in g } ∷ with_rows streams (before ++ g ∷ []) gs

-- a boundary stands behind a chunk that ends so many bytes or more behind the end of the last one
abbrev pub boundary_gap : ℕ
boundary_gap = 65_536

abbrev pub samples_text : Context → ChunkSamples → List ℕ
samples_text ctx c = least_chunk_text ctx (Samples c.id c.samples)

-- the Samples chunks with boundaries, where so many bytes stand since the end of the last boundary, or since the file's first byte
abbrev pub with_boundaries : Context → ℕ → List ChunkSamples → List Chunk
with_boundaries ctx since [] = []
with_boundaries ctx since (c ∷ cs) =
    if nat_lt (since + length (samples_text ctx c)) boundary_gap
    then Samples c.id c.samples ∷ with_boundaries ctx (since + length (samples_text ctx c)) cs
    else Samples c.id c.samples ∷ Boundary ∷ with_boundaries ctx 0 cs

-- the body of a recording behind headers that have so many bytes
abbrev pub laid_chunks : Context → ℕ → List StreamDoc → List Group → List Chunk
laid_chunks ctx since streams gs = with_boundaries ctx since (with_rows streams [] gs)
