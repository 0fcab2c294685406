-- The value of a chunk that a salvager gives.
use Rattle.std.proofs.Common.{◌≡◌, ℕ, Bool, List, Option, Some, refl, sym, ap, ◌∙◌, subst}
use Rattle.chunk_grammar.specs.declared.chunk.Chunk.{Chunk as ChunkValue}
use Rattle.chunk_grammar.specs.Chunk.{Context}
use Rattle.chunk_grammar.specs.Standing.{standing_at}
use Rattle.file_model.specs.declared.next.Next.{Next}
use Rattle.file_model.specs.declared.next.Next.TheVariants.{Chunk, End, Torn, Bad, ReadFault, SizeLimit, Memory}
use Rattle.file_reader.specs.AsNext.{HasValue, as_next, chunk_of}
use Rattle.file_reader.specs.FileInlet.{FileInlet, IsGiven}
use Rattle.file_reader.specs.declared.passed.Passed.{Passed}
use Rattle.file_reader.specs.declared.passed.Passed.TheVariants as passes
use Rattle.file_reader.proofs.Passing.{same_chunk}
use Rattle.boundary_search.specs.Following.{HasValueIn, IsReadSo}
use Rattle.boundary_search.specs.Salvage.{as_step}
use Rattle.boundary_search.specs.declared.step.Salvaged.{Salvaged}
use Rattle.boundary_search.specs.declared.step.Salvaged.TheVariants as found
use Rattle.boundary_search.specs.declared.step.SalvageStep.TheVariants as step

value_given : (old new : FileInlet) (next : Next) → IsGiven old new next → HasValueIn old.context new.last next
value_given old new (Chunk at c) g = same_chunk old.context c new.last g.1
value_given old new (End at) g = tt
value_given old new (Torn at left) g = tt
value_given old new (Bad at why) g = tt
value_given old new ReadFault g = tt
value_given old new SizeLimit g = tt
value_given old new Memory g = tt

pub value_read : (a b : Option (List ℕ)) (e : Bool) (old new : FileInlet) (next : Next) → IsReadSo a b e old new next → HasValueIn old.context new.last next
value_read a b e old new next h = value_given old new next h.given

-- the value of a chunk that was passed
pub value_of : (context : Context) (text : List ℕ) (passed : Passed) (next : Next) (value : Option ChunkValue) (at : ℕ) → as_next context text passed ≡ next → HasValue next value → passed ≡ passes.Chunk at → value ≡ Some (chunk_of (standing_at context text))
value_of context text passed next value at same has is =
    let next_is : next ≡ Chunk at (chunk_of (standing_at context text)) = sym same ∙ ap (as_next context text) is in
    subst (λ (n : Next). HasValue n value) next_is has

pub fault_found : (context : Context) (text : List ℕ) (f : Salvaged) → as_step context text f ≡ step.ReadFault → f ≡ found.ReadFault
fault_found context text (found.Chunk at) e = absurd cc
fault_found context text (found.Skipped from to) e = absurd cc
fault_found context text found.End e = absurd cc
fault_found context text found.ReadFault e = refl
fault_found context text found.SizeLimit e = absurd cc
fault_found context text found.Memory e = absurd cc
