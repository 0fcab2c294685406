-- What a file holds that is cut (this project's own).
use Rattle.std.specs.Prelude.{◌≡◌, ℕ, ◌-◌, List, [], ◌∷◌, length, if◌then◌else◌, nat_lt, ◌⊎◌}
use Rattle.chunk_grammar.specs.declared.chunk.Chunk.{Chunk}
use Rattle.chunk_grammar.specs.Chunk.{Context, context_after, AreChunkTexts}
use Rattle.chunk_grammar.specs.Standing.{standing_at, torn}

-- the first of the chunks, as many as have their texts whole within so many bytes
abbrev pub chunks_within : (ctx : Context) (cs : List Chunk) (texts : List ℕ) → AreChunkTexts ctx cs texts → ℕ → List Chunk
chunks_within ctx [] texts are room = []
chunks_within ctx (c ∷ cs) texts are room =
    if nat_lt room (length are.0) then [] else c ∷ chunks_within (context_after ctx c) cs are.1 are.3 (room - length are.0)

-- a rest that is empty or torn
abbrev pub IsEndOrTorn : Context → List ℕ → Type 0
IsEndOrTorn ctx rest = (rest ≡ []) ⊎ (standing_at ctx rest ≡ torn)
