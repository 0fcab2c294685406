-- The answers of one who reads a file from its front, up to a limit (this project's own).
use Rattle.std.specs.Prelude.{◌≡◌, ℕ, ◌+◌, Bool, true, false, nat_lt, List, [], ◌∷◌, ◌++◌, length, take}
use Rattle.chunk_grammar.specs.declared.chunk.Chunk.{Chunk as ChunkValue}
use Rattle.chunk_grammar.specs.Chunk.{Context, context_after, AreChunkTexts}
use Rattle.chunk_grammar.specs.Standing.{Standing, bad, standing_at, context_after_all, IsFront}
use Rattle.file_model.specs.declared.next.Next.{Next}
use Rattle.file_model.specs.declared.next.Next.TheVariants.{Chunk, End, Torn, Bad, SizeLimit}

-- the chunks with their places, of which the first is given
abbrev pub placed : (ctx : Context) (cs : List ChunkValue) (texts : List ℕ) → AreChunkTexts ctx cs texts → ℕ → List Next
placed ctx [] texts are place = []
placed ctx (c ∷ cs) texts are place = Chunk place c ∷ placed (context_after ctx c) cs are.1 are.3 (place + length are.0)

-- the answer behind the chunks, by what stands there: the first that holds of a fault, more bytes than the
-- limit, no byte, and a torn chunk
abbrev pub last_reading : Bool → ℕ → List ℕ → Standing → Next
last_reading longer place rest (bad from_here reason) = Bad (place + from_here) reason
last_reading true place rest _ = SizeLimit
last_reading false place [] _ = End place
last_reading false place (x ∷ rest) _ = Torn place (length rest + 1)

-- the answers for a file of which the first bytes are read, as many as the limit
pub record AreReadings (b : List ℕ) (limit : ℕ) (answers : List Next) : Type 0 where
  pub cs : List ChunkValue
  pub rest : List ℕ
  pub front : IsFront (take limit b) cs rest
  pub all : answers ≡ placed [] cs front.text front.chunks 4
      ++ last_reading (nat_lt limit (length b)) (4 + length front.text) rest (standing_at (context_after_all [] cs) rest) ∷ []
