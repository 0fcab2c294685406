-- What contracts see of a salvager, and what a call does. This project's own.
use Rattle.std.specs.Prelude.{◌≡◌, ℕ, ◌+◌, ◌-◌, ◌<◌, ◌≤◌, Bool, true, false, List, [], ◌++◌, length, take, Option, Some, None, IsTrue}
use Rattle.std.specs.Io.KnownBytes.{Consumes}
use Rattle.chunk_grammar.specs.Chunk.{Context, context_after, IsChunkText}
use Rattle.chunk_grammar.specs.Standing.{standing_at}
use Rattle.file_reader.specs.AsNext.{chunk_of}
use Rattle.file_reader.specs.FileInlet.{FileInlet}
use Rattle.boundary_search.specs.declared.step.SalvageEnd.{SalvageEnd}
use Rattle.boundary_search.specs.declared.step.SalvageEnd.TheVariants as end
use Rattle.boundary_search.specs.declared.step.Salvaged.{Salvaged}
use Rattle.boundary_search.specs.declared.step.Salvaged.TheVariants.{Chunk, Skipped, End, ReadFault, SizeLimit, Memory}
use Rattle.boundary_search.specs.declared.step.SalvageStep.{SalvageStep}
use Rattle.boundary_search.specs.declared.step.SalvageStep.TheVariants as step
use Rattle.boundary_search.specs.Parts.{skipped, IsPart, IsStuck}

-- the source, what is held of it, whether it has ended, so that nothing more is read, and the end, once it was answered
pub record Salvage (S : Type 0) : Type 0 where
  pub source : S
  pub file : FileInlet
  pub ended : Bool
  pub end : Option SalvageEnd

-- the bytes of those that were taken behind the last part that count
abbrev pub counted : FileInlet → List ℕ
counted x = take (x.byte_limit - x.place) x.ahead

-- some bytes were taken of the source, none once it had ended, and these of all bytes were gone past
pub record Goes (before left : Option (List ℕ)) (ended : Bool) (old new : FileInlet) (gone : List ℕ) : Type 0 where
  pub taken : List ℕ
  pub lost : Consumes before left taken
  pub none : IsTrue ended → taken ≡ []
  pub all : old.ahead ++ taken ≡ gone ++ new.ahead
  pub place : new.place ≡ old.place + length gone
  pub limit : new.byte_limit ≡ old.byte_limit

-- a chunk stood at the place in its context, all bytes of it count, and its text is kept
pub record IsChunkFound {S : Type 0} (before left : Option (List ℕ)) (old new : Salvage S) (at : ℕ) : Type 0 where
  pub goes : Goes before left old.ended old.file new.file new.file.last
  pub place : at ≡ old.file.place
  pub text : IsChunkText old.file.context (chunk_of (standing_at old.file.context new.file.last)) new.file.last
  pub context : new.file.context ≡ context_after old.file.context (chunk_of (standing_at old.file.context new.file.last))
  pub within : new.file.place ≤ new.file.byte_limit
  pub ended : new.ended ≡ old.ended
  pub goes_on : new.end ≡ None

-- a range was gone past. Where the source has not ended, it is skipped whatever follows the bytes that count; where it has, nothing follows.
pub record IsGonePast (before left : Option (List ℕ)) (ended ended' : Bool) (old new : FileInlet) : Type 0 where
  pub range : List ℕ
  pub goes : Goes before left ended old new range
  pub sure : ended' ≡ false → IsPart false old.context (skipped range) (counted new)
  pub all : IsTrue ended' → IsPart true old.context (skipped range) new.ahead
  pub context : new.context ≡ old.context
  pub within : new.place ≤ new.byte_limit
  pub counts : IsTrue ended' → new.place + length new.ahead ≤ new.byte_limit
  pub none : new.last ≡ []

pub record IsRangeSkipped {S : Type 0} (before left : Option (List ℕ)) (old new : Salvage S) (from to : ℕ) : Type 0 where
  pub past : IsGonePast before left old.ended new.ended old.file new.file
  pub begins : from ≡ old.file.place
  pub ends : to ≡ new.file.place
  pub goes_on : new.end ≡ None

-- the source ended behind the last part, within the limit
pub record IsEndFound {S : Type 0} (before left : Option (List ℕ)) (old new : Salvage S) : Type 0 where
  pub goes : Goes before left old.ended old.file new.file []
  pub nothing : new.file.ahead ≡ []
  pub ended : new.ended ≡ true
  pub within : new.file.place ≤ new.file.byte_limit
  pub none : new.file.last ≡ []
  pub over : new.end ≡ Some end.End

-- a byte past the limit was taken, and of the bytes before it nothing further is told
pub record IsPastLimit (before left : Option (List ℕ)) (ended : Bool) (old new : FileInlet) : Type 0 where
  pub gone : List ℕ
  pub goes : Goes before left ended old new gone
  pub more : new.byte_limit < new.place + length new.ahead
  pub stuck : IsStuck old.context (take (old.byte_limit - old.place) (gone ++ new.ahead))
  pub none : new.last ≡ []

-- a read failed; all bytes that were taken before count
pub record IsBroken (before left : Option (List ℕ)) (ended : Bool) (old new : FileInlet) : Type 0 where
  pub gone : List ℕ
  pub goes : Goes before left ended old new gone
  pub within : new.place + length new.ahead ≤ new.byte_limit
  pub none : new.last ≡ []

-- there was no memory, and nothing was gone past
pub record IsUnanswered {S : Type 0} (before left : Option (List ℕ)) (old new : Salvage S) : Type 0 where
  pub goes : Goes before left old.ended old.file new.file []
  pub context : new.file.context ≡ old.file.context
  pub ended : new.ended ≡ old.ended
  pub none : new.file.last ≡ []
  pub goes_on : new.end ≡ None

-- what an answer says of the bytes, where no end was answered before
abbrev pub IsFound : {S : Type 0} → Option (List ℕ) → Option (List ℕ) → Salvage S → Salvage S → Salvaged → Type 0
IsFound before left old new (Chunk at) = IsChunkFound before left old new at
IsFound before left old new (Skipped from to) = IsRangeSkipped before left old new from to
IsFound before left old new End = IsEndFound before left old new
IsFound before left old new ReadFault = IsBroken before left old.ended old.file new.file × (new.end ≡ Some end.ReadFault)
IsFound before left old new SizeLimit = IsPastLimit before left old.ended old.file new.file × (new.end ≡ Some end.SizeLimit)
IsFound before left old new Memory = IsUnanswered before left old new

-- an end, as it is told
abbrev pub told_end : SalvageEnd → Salvaged
told_end end.End = End
told_end end.ReadFault = ReadFault
told_end end.SizeLimit = SizeLimit

-- a salvager of which just the magic was taken
abbrev pub IsFresh : {S : Type 0} → Salvage S → Type 0
IsFresh x = (x.file.context ≡ []) × (x.file.place ≡ 4) × (x.file.last ≡ []) × (x.file.ahead ≡ []) × (x.ended ≡ false) × (x.end ≡ None)

-- ---- with the value of a chunk

-- the answer with the value of the chunk that has this text, in the context of the chunks before it
abbrev pub as_step : Context → List ℕ → Salvaged → SalvageStep
as_step context text (Chunk at) = step.Chunk at (chunk_of (standing_at context text))
as_step context text (Skipped from to) = step.Skipped from to
as_step context text End = step.End
as_step context text ReadFault = step.ReadFault
as_step context text SizeLimit = step.SizeLimit
as_step context text Memory = step.Memory
