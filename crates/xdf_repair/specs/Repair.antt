-- What a repair of a file writes, and what its numbers are. This project's own.
use Rattle.std.specs.Prelude.{◌≡◌, ℕ, ◌<◌, ◌≤◌, List, [], ◌++◌, length, Option, None, false}
use Rattle.std.specs.Io.KnownBytes.{Appends, Consumes, IsAtEnd}
use Rattle.rec_base.specs.Known.{AppendsFront}
use Rattle.chunk_grammar.specs.declared.chunk.Chunk.{Chunk}
use Rattle.chunk_grammar.specs.Chunk.{magic, AreChunkTexts}
use Rattle.chunk_grammar.specs.Standing.{IsFront}
use Rattle.file_reader.specs.declared.rest.Rest.{Rest}
use Rattle.file_reader.specs.FileInlet.{FileInlet, outlook}
use Rattle.xdf_repair.specs.declared.repaired.Repaired.{Repaired}
use Rattle.xdf_repair.specs.declared.repaired.Repaired.TheVariants.{Done, ReadFault, WriteFault, SizeLimit, Memory}

-- a reader of a file of which just the magic was taken
abbrev pub IsFresh : FileInlet → Option Rest → Type 0
IsFresh x skipped = ((outlook x).is_over ≡ false) × (x.context ≡ []) × (x.place ≡ 4) × (x.ahead ≡ []) × (skipped ≡ None)

-- behind the magic the input had these bytes, all within the limit; the sink grew by just the magic and the text of the whole chunks at the
-- front, as it stands there; and the numbers are right
pub record IsRepair (before left held held' : Option (List ℕ)) (limit chunks bytes skipped : ℕ) : Type 0 where
  pub taken : List ℕ
  pub lost : Consumes before left taken
  pub all : IsAtEnd left
  pub within : length (magic ++ taken) ≤ limit
  pub cs : List Chunk
  pub rest : List ℕ
  pub front : IsFront (magic ++ taken) cs rest
  pub written : Appends held held' (magic ++ front.text)
  pub chunk_count : chunks ≡ length cs
  pub byte_count : bytes ≡ length (magic ++ front.text)
  pub skipped_count : skipped ≡ length rest

-- behind the magic these bytes were taken, and the sink grew by a front of the magic and of the text of the whole chunks that were met
pub record IsCutOff (before left held held' : Option (List ℕ)) : Type 0 where
  pub taken : List ℕ
  pub lost : Consumes before left taken
  pub cs : List Chunk
  pub text : List ℕ
  pub chunks : AreChunkTexts [] cs text
  pub rest : List ℕ
  pub whole : taken ≡ text ++ rest
  pub written : AppendsFront held held' (magic ++ text)

-- what each answer says of the bytes that were taken and written, where so many bytes count
abbrev pub RepairedSo : Option (List ℕ) → Option (List ℕ) → Option (List ℕ) → Option (List ℕ) → ℕ → Repaired → Type 0
RepairedSo before left held held' limit (Done chunks bytes skipped) = IsRepair before left held held' limit chunks bytes skipped
RepairedSo before left held held' limit ReadFault = (cut : IsCutOff before left held held') × (length (magic ++ cut.taken) ≤ limit)
RepairedSo before left held held' limit SizeLimit = (cut : IsCutOff before left held held') × (limit < length (magic ++ cut.taken))
RepairedSo before left held held' limit WriteFault = IsCutOff before left held held'
RepairedSo before left held held' limit Memory = IsCutOff before left held held'
