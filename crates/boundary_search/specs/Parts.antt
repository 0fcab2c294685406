-- What is still whole in a damaged file: its parts, one directly behind the other. This project's own.
use Rattle.std.specs.Prelude.{◌≡◌, ℕ, ◌+◌, ◌<◌, ◌≤◌, Bool, true, false, List, [], ◌∷◌, ◌++◌, length, take, Option, Some, None, ◌⊎◌}
use Rattle.memchr.specs.Find.{OccursAt}
use Rattle.chunk_grammar.specs.declared.chunk.Chunk.{Chunk}
use Rattle.chunk_grammar.specs.Chunk.{Context, context_after, IsChunkText, AreChunkTexts, boundary_bytes, magic}
use Rattle.chunk_grammar.specs.Standing.{Standing, whole, torn, bad, standing_at, IsWhole}

-- a chunk with its bytes, or a range of bytes that is skipped
pub data Part : Type 0 where
  kept : Chunk → List ℕ → Part
  skipped : List ℕ → Part

abbrev pub part_bytes : Part → List ℕ
part_bytes (kept c text) = text
part_bytes (skipped text) = text

-- the streams whose headers came before, behind a part: a skipped range has no chunk
abbrev pub context_behind : Context → Part → Context
context_behind ctx (kept c text) = context_after ctx c
context_behind ctx (skipped text) = ctx

-- the bytes of a boundary stand in some bytes at a place
abbrev pub HasBoundary : List ℕ → ℕ → Type 0
HasBoundary b place = OccursAt b boundary_bytes place

-- they stand nowhere
abbrev pub HasNoBoundary : List ℕ → Type 0
HasNoBoundary b = (place : ℕ) → HasBoundary b place → ⊥

-- the first place from `from` on at which they stand
abbrev pub FindsBoundary : List ℕ → ℕ → Option ℕ → Type 0
FindsBoundary b from (Some i) = (from ≤ i) × HasBoundary b i × ((k : ℕ) → from ≤ k → k < i → HasBoundary b k → ⊥)
FindsBoundary b from None = (k : ℕ) → from ≤ k → HasBoundary b k → ⊥

-- a range ends with the first of them: what begins before the last sixteen bytes and is one lies within the range
pub record EndsWithFirst (range : List ℕ) : Type 0 where
  pub front : List ℕ
  pub ends : range ≡ front ++ boundary_bytes
  pub first : (place : ℕ) → place < length front → HasBoundary range place → ⊥

-- what stands there is bad, whatever follows
abbrev pub IsBad : Standing → Type 0
IsBad (whole c used) = ⊥
IsBad torn = ⊥
IsBad (bad place reason) = Unit {0}

-- what is skipped, where these bytes follow and nothing else: no whole chunk stands at its first byte, and it ends with the first boundary's
-- bytes, or has none and is all that remains
pub record IsSkipped (ctx : Context) (range behind : List ℕ) : Type 0 where
  pub some : 0 < length range
  pub none_stands : IsWhole (standing_at ctx (range ++ behind)) → ⊥
  pub ends : EndsWithFirst range ⊎ ((behind ≡ []) × HasNoBoundary range)

-- what is skipped, whatever follows behind these bytes
pub record IsSurelySkipped (ctx : Context) (range behind : List ℕ) : Type 0 where
  pub bad : IsBad (standing_at ctx (range ++ behind))
  pub ends : EndsWithFirst range

-- a part before some bytes, in its context; `ended` where nothing follows behind them
abbrev pub IsPart : Bool → Context → Part → List ℕ → Type 0
IsPart ended ctx (kept c text) behind = IsChunkText ctx c text
IsPart true ctx (skipped range) behind = IsSkipped ctx range behind
IsPart false ctx (skipped range) behind = IsSurelySkipped ctx range behind

-- the first parts of some bytes, and the rest behind them; each has for its context the chunks before it
abbrev pub AreFirstParts : Bool → Context → List Part → List ℕ → List ℕ → Type 0
AreFirstParts ended ctx [] b rest = b ≡ rest
AreFirstParts ended ctx (part ∷ parts) b rest =
    (behind : List ℕ) × (b ≡ part_bytes part ++ behind) × IsPart ended ctx part behind × AreFirstParts ended (context_behind ctx part) parts behind rest

abbrev pub context_behind_all : Context → List Part → Context
context_behind_all ctx [] = ctx
context_behind_all ctx (part ∷ parts) = context_behind_all (context_behind ctx part) parts

-- the parts of a whole file, behind the magic and up to its end
pub record AreSalvageParts (b : List ℕ) (parts : List Part) : Type 0 where
  pub rest : List ℕ
  pub begins : b ≡ magic ++ rest
  pub all : AreFirstParts true [] parts rest []

-- neither a chunk nor a range is told here, of bytes behind which others follow: what stands there may yet become whole, or no boundary's
-- bytes come behind what is bad
abbrev pub IsStuck : Context → List ℕ → Type 0
IsStuck ctx b = (standing_at ctx b ≡ torn) ⊎ (IsBad (standing_at ctx b) × HasNoBoundary b)

-- the parts that are told of a file of which only the first bytes count, and which has more
pub record AreCountedParts (b : List ℕ) (limit : ℕ) (parts : List Part) : Type 0 where
  pub rest : List ℕ
  pub left : List ℕ
  pub begins : take limit b ≡ magic ++ rest
  pub first : AreFirstParts false [] parts rest left
  pub stuck : IsStuck (context_behind_all [] parts) left

-- ---- what is kept of the parts

-- the bytes of the chunks, as they stand there
abbrev pub kept_bytes : List Part → List ℕ
kept_bytes [] = []
kept_bytes (kept c text ∷ parts) = text ++ kept_bytes parts
kept_bytes (skipped range ∷ parts) = kept_bytes parts

abbrev pub kept_chunks : List Part → List Chunk
kept_chunks [] = []
kept_chunks (kept c text ∷ parts) = c ∷ kept_chunks parts
kept_chunks (skipped range ∷ parts) = kept_chunks parts

-- how many bytes are skipped
abbrev pub skipped_size : List Part → ℕ
skipped_size [] = 0
skipped_size (kept c text ∷ parts) = skipped_size parts
skipped_size (skipped range ∷ parts) = length range + skipped_size parts

-- chunks as parts, from their texts
abbrev pub chunk_parts : (ctx : Context) (cs : List Chunk) (text : List ℕ) → AreChunkTexts ctx cs text → List Part
chunk_parts ctx [] text are = []
chunk_parts ctx (c ∷ cs) text are = kept c are.0 ∷ chunk_parts (context_after ctx c) cs are.1 are.3
