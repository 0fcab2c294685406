-- What is told of a chunk that was gone past, as `next` tells it.
use Rattle.std.specs.Prelude.{◌≡◌, List, ℕ, Option, Some, ⊤}
use Rattle.chunk_grammar.specs.declared.chunk.Chunk.{Chunk as ChunkValue}
use Rattle.chunk_grammar.specs.declared.chunk.Chunk.TheVariants.{Boundary}
use Rattle.chunk_grammar.specs.Chunk.{Context}
use Rattle.chunk_grammar.specs.Standing.{Standing, whole, torn, bad, standing_at}
use Rattle.file_model.specs.declared.end.FileEnd.{FileEnd}
use Rattle.file_model.specs.declared.end.FileEnd.TheVariants as ended
use Rattle.file_model.specs.declared.next.Next.{Next}
use Rattle.file_model.specs.declared.next.Next.TheVariants as next
use Rattle.file_reader.specs.declared.passed.Passed.{Passed}
use Rattle.file_reader.specs.declared.passed.Passed.TheVariants.{Chunk, End, Torn, Bad, ReadFault, SizeLimit, Memory}
use Rattle.file_reader.specs.FileInlet.{FileInlet}

-- the chunk, where a whole one stands
abbrev pub chunk_of : Standing → ChunkValue
chunk_of (whole c used) = c
chunk_of torn = Boundary
chunk_of (bad place why) = Boundary

-- the answer with the value of the chunk that has this text, in the context of the streams before it
abbrev pub as_next : Context → List ℕ → Passed → Next
as_next context text (Chunk at) = next.Chunk at (chunk_of (standing_at context text))
as_next context text (End at) = next.End at
as_next context text (Torn at left) = next.Torn at left
as_next context text (Bad at why) = next.Bad at why
as_next context text ReadFault = next.ReadFault
as_next context text SizeLimit = next.SizeLimit
as_next context text Memory = next.Memory

-- the same, where the answer took a reader from old to new
abbrev pub next_in : FileInlet → FileInlet → Passed → Next
next_in old new passed = as_next old.context new.last passed

-- an end, as it is told
abbrev pub passed_end : FileEnd → Passed
passed_end (ended.End at) = End at
passed_end (ended.Torn at left) = Torn at left
passed_end (ended.Bad at why) = Bad at why
passed_end ended.ReadFault = ReadFault
passed_end ended.SizeLimit = SizeLimit

-- the value of the chunk that was given
abbrev pub HasValue : Next → Option ChunkValue → Type 0
HasValue (next.Chunk at c) value = value ≡ Some c
HasValue _ value = ⊤
