-- What an answer of the reader beneath says, before a salvager follows it. This project's own.
use Rattle.std.specs.Prelude.{◌≡◌, ℕ, Bool, List, Option, IsTrue, ⊤, ◌⊎◌}
use Rattle.std.specs.Io.KnownBytes.{IsAtEnd}
use Rattle.chunk_grammar.specs.Chunk.{Context}
use Rattle.chunk_grammar.specs.Standing.{standing_at}
use Rattle.file_model.specs.declared.next.Next.{Next}
use Rattle.file_model.specs.declared.next.Next.TheVariants.{Chunk, End, Torn}
use Rattle.file_reader.specs.AsNext.{chunk_of}
use Rattle.file_reader.specs.FileInlet.{FileInlet, IsGiven, Tells}
use Rattle.boundary_search.specs.Salvage.{Goes}

-- an answer by the end of input
abbrev pub IsByEnd : Next → Type 0
IsByEnd (End at) = ⊤
IsByEnd (Torn at left) = ⊤
IsByEnd _ = ⊥

-- nothing was taken once the source had ended, what was gone past is the chunk that was given, and an end tells what stands there
pub record IsReadSo (before left : Option (List ℕ)) (ended : Bool) (old new : FileInlet) (next : Next) : Type 0 where
  pub goes : Goes before left ended old new new.last
  pub given : IsGiven old new next
  pub tells : Tells new next
  pub by_end : IsByEnd next → IsTrue ended ⊎ IsAtEnd left

-- a chunk has the value that its text has in a context
abbrev pub HasValueIn : Context → List ℕ → Next → Type 0
HasValueIn context text (Chunk at c) = chunk_of (standing_at context text) ≡ c
HasValueIn context text _ = ⊤
