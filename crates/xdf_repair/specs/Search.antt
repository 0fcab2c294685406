-- What a repair that searches behind damage writes, and what its numbers are. This project's own.
use Rattle.std.specs.Prelude.{◌≡◌, ℕ, ◌<◌, ◌≤◌, Bool, List, [], ◌++◌, length, Option, IsTrue}
use Rattle.std.specs.Io.KnownBytes.{Appends, Consumes, IsAtEnd}
use Rattle.rec_base.specs.Known.{AppendsFront}
use Rattle.chunk_grammar.specs.Chunk.{magic}
use Rattle.boundary_search.specs.Parts.{Part, AreCountedParts, AreFirstParts, AreSalvageParts, kept_bytes, kept_chunks, skipped_size}
use Rattle.xdf_repair.specs.declared.repaired.Repaired.{Repaired}
use Rattle.xdf_repair.specs.declared.repaired.Repaired.TheVariants.{Done, ReadFault, WriteFault, SizeLimit, Memory}

-- behind the magic the input had these bytes, all within the limit; the sink grew by just the magic and the chunks of the parts of the file,
-- as they stand there; and the numbers are right
pub record IsSearch (before left held held' : Option (List ℕ)) (limit chunks bytes skipped : ℕ) : Type 0 where
  pub taken : List ℕ
  pub lost : Consumes before left taken
  pub all : IsAtEnd left
  pub within : length (magic ++ taken) ≤ limit
  pub parts : List Part
  pub salvaged : AreSalvageParts (magic ++ taken) parts
  pub written : Appends held held' (magic ++ kept_bytes parts)
  pub chunk_count : chunks ≡ length (kept_chunks parts)
  pub byte_count : bytes ≡ length (magic ++ kept_bytes parts)
  pub skipped_count : skipped ≡ skipped_size parts

-- behind the magic these bytes were taken, with these first parts, and the sink grew by a front of the magic and of their chunks; that nothing
-- follows was taken to be so only where the input has ended
pub record IsSearchCut (before left held held' : Option (List ℕ)) : Type 0 where
  pub taken : List ℕ
  pub lost : Consumes before left taken
  pub ended : Bool
  pub all : IsTrue ended → IsAtEnd left
  pub parts : List Part
  pub rest : List ℕ
  pub first : AreFirstParts ended [] parts taken rest
  pub written : AppendsFront held held' (magic ++ kept_bytes parts)

-- what each answer says of the bytes that were taken and written, where so many bytes count; at the limit the parts are all that are told of
-- the bytes that count
abbrev pub SearchedSo : Option (List ℕ) → Option (List ℕ) → Option (List ℕ) → Option (List ℕ) → ℕ → Repaired → Type 0
SearchedSo before left held held' limit (Done chunks bytes skipped) = IsSearch before left held held' limit chunks bytes skipped
SearchedSo before left held held' limit ReadFault = (cut : IsSearchCut before left held held') × (length (magic ++ cut.taken) ≤ limit)
SearchedSo before left held held' limit SizeLimit = (cut : IsSearchCut before left held held') × (limit < length (magic ++ cut.taken)) × AreCountedParts (magic ++ cut.taken) limit cut.parts
SearchedSo before left held held' limit WriteFault = IsSearchCut before left held held'
SearchedSo before left held held' limit Memory = IsSearchCut before left held held'
