-- What a repair has written so far, and what it does next.
use Rattle.std.specs.Prelude.{◌≡◌, ℕ, ◌+◌, ◌≤◌, List, [], ◌++◌, length, Option, IsTrue}
use Rattle.std.specs.Io.KnownBytes.{Appends, Consumes}
use Rattle.chunk_grammar.specs.declared.chunk.Chunk.{Chunk as ChunkValue}
use Rattle.chunk_grammar.specs.Chunk.{magic, AreChunkTexts}
use Rattle.chunk_grammar.specs.Standing.{IsWhole, context_after_all, standing_at}
use Rattle.file_model.specs.declared.next.Next.{Next}
use Rattle.file_model.specs.declared.next.Next.TheVariants.{Chunk, End, Torn, Bad, ReadFault, SizeLimit, Memory}
use Rattle.file_reader.specs.FileInlet.{FileInlet, had_ended}
use Rattle.xdf_repair.specs.declared.repaired.Repaired.TheVariants as repaired
use Rattle.xdf_repair.specs.declared.turn.Turn.{Turn}
use Rattle.xdf_repair.specs.declared.turn.Turn.TheVariants.{Copy, Skip, Stop}

abbrev pub turn_by : Next → Turn
turn_by (Chunk at c) = Copy
turn_by (End at) = Skip
turn_by (Torn at left) = Skip
turn_by (Bad at why) = Skip
turn_by ReadFault = Stop repaired.ReadFault
turn_by SizeLimit = Stop repaired.SizeLimit
turn_by Memory = Stop repaired.Memory

-- these bytes were taken: the text of whole chunks, and what the reader holds behind them
pub record IsMet (before left : Option (List ℕ)) (now : FileInlet) (chunks bytes : ℕ) : Type 0 where
  pub taken : List ℕ
  pub lost : Consumes before left taken
  pub cs : List ChunkValue
  pub text : List ℕ
  pub texts : AreChunkTexts [] cs text
  pub whole : taken ≡ text ++ now.ahead
  pub context : now.context ≡ context_after_all [] cs
  pub place : now.place ≡ 4 + length text
  pub chunk_count : chunks ≡ length cs
  pub byte_count : bytes ≡ now.place
  pub few : chunks ≤ now.place

-- their text was written behind the magic, but for the bytes that wait
pub record IsGathered (before left held held' : Option (List ℕ)) (now : FileInlet) (chunks bytes : ℕ) (waiting : List ℕ) : Type 0 where
  pub met : IsMet before left now chunks bytes
  pub went : List ℕ
  pub all : magic ++ met.text ≡ went ++ waiting
  pub written : Appends held held' went

-- their text was written behind the magic
pub record IsCopied (before left held held' : Option (List ℕ)) (now : FileInlet) (chunks bytes : ℕ) : Type 0 where
  pub met : IsMet before left now chunks bytes
  pub written : Appends held held' (magic ++ met.text)

-- a front of these bytes was written, and the rest waits
pub record Gathers (held held' : Option (List ℕ)) (bytes waiting : List ℕ) : Type 0 where
  pub went : List ℕ
  pub all : bytes ≡ went ++ waiting
  pub written : Appends held held' went

-- no whole chunk stands at the place, whatever follows; where the input has ended, nothing follows
abbrev pub NoneStands : FileInlet → Type 0
NoneStands x = (more : List ℕ) → (IsTrue (had_ended x.reading) → more ≡ []) → IsWhole (standing_at x.context (x.ahead ++ more)) → ⊥
