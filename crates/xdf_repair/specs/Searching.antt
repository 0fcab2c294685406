-- What a repair that searches behind damage has written so far.
use Rattle.std.specs.Prelude.{◌≡◌, ℕ, ◌+◌, ◌-◌, ◌≤◌, Bool, false, List, [], ◌++◌, length, take, Option, IsTrue}
use Rattle.std.specs.Io.KnownBytes.{Appends, Consumes, IsAtEnd}
use Rattle.chunk_grammar.specs.Chunk.{magic}
use Rattle.file_reader.specs.FileInlet.{FileInlet}
use Rattle.boundary_search.specs.Parts.{Part, AreFirstParts, context_behind_all, kept_bytes, kept_chunks, skipped_size}
use Rattle.boundary_search.specs.Salvage.{counted}

-- these bytes were taken: those of the first parts, and what is held behind them; where the input has not ended, the parts are those of the bytes
-- that count
pub record ArePassed (before left : Option (List ℕ)) (ended : Bool) (now : FileInlet) (chunks bytes skipped : ℕ) : Type 0 where
  pub taken : List ℕ
  pub lost : Consumes before left taken
  pub all : IsTrue ended → IsAtEnd left
  pub parts : List Part
  pub first : AreFirstParts ended [] parts taken now.ahead
  pub first_counted : ended ≡ false → AreFirstParts false [] parts (take (now.byte_limit - 4) taken) (counted now)
  pub within : IsTrue ended → now.place + length now.ahead ≤ now.byte_limit
  pub context : now.context ≡ context_behind_all [] parts
  pub size : now.place + length now.ahead ≡ 4 + length taken
  pub chunk_count : chunks ≡ length (kept_chunks parts)
  pub byte_count : bytes ≡ 4 + length (kept_bytes parts)
  pub skipped_count : skipped ≡ skipped_size parts
  pub both : bytes + skipped ≡ now.place
  pub few : chunks ≤ now.place

-- the bytes of their chunks were written behind the magic, but for those that wait
pub record AreGathered (before left held held' : Option (List ℕ)) (ended : Bool) (now : FileInlet) (chunks bytes skipped : ℕ) (waiting : List ℕ) : Type 0 where
  pub passed : ArePassed before left ended now chunks bytes skipped
  pub went : List ℕ
  pub whole : magic ++ kept_bytes passed.parts ≡ went ++ waiting
  pub written : Appends held held' went
