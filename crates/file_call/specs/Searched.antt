-- What a repair that searches behind damage leaves, and what a repair of either form leaves, by whether it searches. This project's own.
use Rattle.std.specs.Prelude.{◌≡◌, ℕ, ◌+◌, ◌<◌, ◌≤◌, Bool, true, false, List, [], ◌++◌, length, Option, Some, slice_get, IsTrue}
use Rattle.std.specs.Io.KnownBytes.{Appends, Consumes, IsAtEnd}
use Rattle.rec_base.specs.declared.name.Name.TheVariants.{File}
use Rattle.rec_base.specs.Contents.{Contents, IsInput, IsOpened}
use Rattle.rec_base.specs.Known.{Becomes, BecomesFront, printed_line}
use Rattle.rec_base.specs.Moved.{HasFailed}
use Rattle.chunk_grammar.specs.declared.chunk.Chunk.{Chunk}
use Rattle.chunk_grammar.specs.Chunk.{magic, AreChunkTexts}
use Rattle.chunk_grammar.specs.Standing.{IsWhole, context_after_all, standing_at}
use Rattle.boundary_search.specs.Parts.{Part, AreCountedParts, AreFirstParts, AreSalvageParts, EndsWithFirst, kept_bytes, kept_chunks, skipped_size}
use Rattle.xdf_repair.specs.declared.repaired.Repaired.{Repaired}
use Rattle.xdf_repair.specs.Repair.{RepairedSo}
use Rattle.xdf_repair.specs.Search.{SearchedSo}
use Rattle.file_call.specs.Repaired.{byte_limit, IsRepaired, IsCutRepair, IsFailedRepair, IsLongRepair, IsToldLong, repaired_line}

-- the input's bytes are these, all of them; the output was created and has just the magic and the chunks of their parts, as they stand there,
-- without the ranges that are skipped; and the numbers are right
pub record IsSearched {S : Type 0} (left_of : S → Option (List ℕ)) (contents : Option Contents) (from out : List ℕ) (target target' held held' : Option (List ℕ)) (chunks bytes skipped : ℕ) : Type 0 where
  pub first : S
  pub last : S
  pub opened : IsOpened contents (File from) 0 (left_of first)
  pub all : List ℕ
  pub lost : Consumes (left_of first) (left_of last) all
  pub at_end : IsAtEnd (left_of last)
  pub input : IsInput contents (File from) 0 all
  pub within : length all ≤ byte_limit
  pub parts : List Part
  pub salvaged : AreSalvageParts all parts
  pub created : Becomes target target' out
  pub written : Becomes held held' (magic ++ kept_bytes parts)
  pub chunk_count : chunks ≡ length (kept_chunks parts)
  pub byte_count : bytes ≡ length (magic ++ kept_bytes parts)
  pub skipped_count : skipped ≡ skipped_size parts

-- these bytes of the input were taken, with these first parts; the output was created and has a front of the magic and of their chunks. That
-- nothing follows was taken to be so only where the input has ended.
pub record IsCutSearch {S : Type 0} (left_of : S → Option (List ℕ)) (contents : Option Contents) (from out : List ℕ) (target target' held held' : Option (List ℕ)) : Type 0 where
  pub first : S
  pub last : S
  pub opened : IsOpened contents (File from) 0 (left_of first)
  pub taken : List ℕ
  pub lost : Consumes (left_of first) (left_of last) taken
  pub met : List ℕ
  pub begins : taken ≡ magic ++ met
  pub ended : Bool
  pub all : IsTrue ended → IsAtEnd (left_of last)
  pub parts : List Part
  pub rest : List ℕ
  pub first_parts : AreFirstParts ended [] parts met rest
  pub created : Becomes target target' out
  pub written : BecomesFront held held' (magic ++ kept_bytes parts)

-- and then a read of the input failed
pub record IsFailedSearch {S M : Type 0} (left_of : S → Option (List ℕ)) (faults_of : S → ℕ) (mark_of : S → M) (contents : Option Contents) (from out : List ℕ) (target target' held held' : Option (List ℕ)) : Type 0 where
  pub cut : IsCutSearch left_of contents from out target target' held held'
  pub failed : HasFailed left_of faults_of mark_of cut.first cut.last

-- more bytes than count were taken, and the parts are all that are told of those that count
pub record IsLongSearch {S : Type 0} (left_of : S → Option (List ℕ)) (contents : Option Contents) (from out : List ℕ) (target target' held held' : Option (List ℕ)) : Type 0 where
  pub cut : IsCutSearch left_of contents from out target target' held held'
  pub more : byte_limit < length cut.taken
  pub counted : AreCountedParts cut.taken byte_limit cut.parts
  pub told : IsToldLong contents from

-- where contents are told, and the first text at the name is whole chunks, a damaged part at whose place no whole chunk stands and which ends
-- with the first boundary's bytes in it, and whole chunks behind: the output is created and has just these chunks, and just that part is skipped
abbrev pub GoesOverDamage : Option Contents → List ℕ → List ℕ → Option (List ℕ) → Option (List ℕ) → Option (List ℕ) → Option (List ℕ) → Option (List ℕ) → Option (List ℕ) → ℕ → Type 0
GoesOverDamage contents from out target target' held held' printed printed' status =
    (texts : Contents) (cs ds : List Chunk) (before damage behind : List ℕ) → contents ≡ Some texts → slice_get (texts (File from)) 0 ≡ Some (magic ++ before ++ damage ++ behind)
    → AreChunkTexts [] cs before → AreChunkTexts (context_after_all [] cs) ds behind
    → (IsWhole (standing_at (context_after_all [] cs) (damage ++ behind)) → ⊥) → EndsWithFirst damage
    → (status ≡ 1) × Becomes target target' out × Becomes held held' (magic ++ before ++ behind)
    × Appends printed printed' (printed_line (repaired_line (length cs + length ds) (length (magic ++ before ++ behind)) (length damage)))

-- ---- of a repair of either form: whether it searches comes first

-- it is done
abbrev pub IsKept : {S : Type 0} → Bool → (S → Option (List ℕ)) → Option Contents → List ℕ → List ℕ → Option (List ℕ) → Option (List ℕ) → Option (List ℕ) → Option (List ℕ) → ℕ → ℕ → ℕ → Type 0
IsKept false left_of contents from out target target' held held' chunks bytes skipped = IsRepaired left_of contents from out target target' held held' chunks bytes skipped
IsKept true left_of contents from out target target' held held' chunks bytes skipped = IsSearched left_of contents from out target target' held held' chunks bytes skipped

-- it was cut short
abbrev pub IsCut : {S : Type 0} → Bool → (S → Option (List ℕ)) → Option Contents → List ℕ → List ℕ → Option (List ℕ) → Option (List ℕ) → Option (List ℕ) → Option (List ℕ) → Type 0
IsCut false left_of contents from out target target' held held' = IsCutRepair left_of contents from out target target' held held'
IsCut true left_of contents from out target target' held held' = IsCutSearch left_of contents from out target target' held held'

-- it was cut short by a read that failed
abbrev pub IsFailed : {S M : Type 0} → Bool → (S → Option (List ℕ)) → (S → ℕ) → (S → M) → Option Contents → List ℕ → List ℕ → Option (List ℕ) → Option (List ℕ) → Option (List ℕ) → Option (List ℕ) → Type 0
IsFailed false left_of faults_of mark_of contents from out target target' held held' = IsFailedRepair left_of faults_of mark_of contents from out target target' held held'
IsFailed true left_of faults_of mark_of contents from out target target' held held' = IsFailedSearch left_of faults_of mark_of contents from out target target' held held'

-- it was cut short since the input is longer than counts
abbrev pub IsLong : {S : Type 0} → Bool → (S → Option (List ℕ)) → Option Contents → List ℕ → List ℕ → Option (List ℕ) → Option (List ℕ) → Option (List ℕ) → Option (List ℕ) → Type 0
IsLong false left_of contents from out target target' held held' = IsLongRepair left_of contents from out target target' held held'
IsLong true left_of contents from out target target' held held' = IsLongSearch left_of contents from out target target' held held'

-- what an answer of the repair beneath says of the bytes that were taken and written
abbrev pub WroteSo : Bool → Option (List ℕ) → Option (List ℕ) → Option (List ℕ) → Option (List ℕ) → ℕ → Repaired → Type 0
WroteSo false before left held held' limit answer = RepairedSo before left held held' limit answer
WroteSo true before left held held' limit answer = SearchedSo before left held held' limit answer
