-- A file as one gives it who reads it from left to right: its chunks with their places, and the end (this project's own).
use Rattle.std.specs.Prelude.{ℕ, ◌+◌, ◌-◌, List, [], ◌∷◌, ◌++◌, length, map, Some}
use Rattle.reading_model.specs.Outlook.{How, ended, failed, over, All, Kind, final, at_end, at_fault, at_limit}
use Rattle.reading_model.specs.Rules.{Front, Rules, short, last}
use Rattle.reading_model.specs.Rules as front
use Rattle.reading_model.specs.Reading.{all_within}
use Rattle.chunk_grammar.specs.declared.chunk.Chunk.{Chunk as ChunkValue}
use Rattle.chunk_grammar.specs.Chunk.{Context, context_after}
use Rattle.chunk_grammar.specs.Standing.{Standing, whole, torn, bad, standing_at}
use Rattle.file_model.specs.declared.end.FileEnd.{FileEnd}
use Rattle.file_model.specs.declared.end.FileEnd.TheVariants as end
use Rattle.file_model.specs.declared.next.Next.{Next}
use Rattle.file_model.specs.declared.next.Next.TheVariants.{Chunk, End, Torn, Bad, ReadFault, SizeLimit}

-- where a reader stands: the streams whose headers came before, and the place
pub record FileState : Type 0 where
  pub context : Context
  pub place : ℕ

-- a chunk, and the place of its first byte
abbrev pub ChunkAt : Type 0
ChunkAt = ℕ × ChunkValue

abbrev pub behind_chunk : FileState → ChunkValue → ℕ → FileState
behind_chunk s c used = record { context = context_after s.context c; place = s.place + used }

abbrev pub by_standing : FileState → Standing → Front FileState ChunkAt FileEnd
by_standing s (whole c used) = front.whole (Some (s.place, c)) used (behind_chunk s c used)
by_standing s torn = short
by_standing s (bad from_here why) = last (end.Bad (s.place + from_here) why)

-- what stands at the front, as a reader has it
abbrev pub file_front : FileState → List ℕ → Front FileState ChunkAt FileEnd
file_front s b = by_standing s (standing_at s.context b)

-- the end where nothing whole and no fault stands in what is left
abbrev pub file_end : FileState → List ℕ → How → FileEnd
file_end s b failed = end.ReadFault
file_end s b over = end.SizeLimit
file_end s [] ended = end.End s.place
file_end s (x ∷ b) ended = end.Torn s.place (length b + 1)

abbrev pub file_kind : FileEnd → Kind
file_kind (end.End at) = at_end
file_kind (end.Torn at left) = at_end
file_kind (end.Bad at why) = final
file_kind end.ReadFault = at_fault
file_kind end.SizeLimit = at_limit

abbrev pub file_rules : Rules FileState ChunkAt FileEnd
file_rules = record { at = file_front; end = file_end; kind = file_kind }

-- a reader that has gone past the magic
abbrev pub behind_magic : FileState
behind_magic = record { context = []; place = 4 }

-- the chunks of the bytes behind the magic, and the end, where so many of these bytes count and the input goes on so behind them
abbrev pub file_counted : ℕ → List ℕ → How → All ChunkAt FileEnd
file_counted room b how = all_within file_rules behind_magic room b how

-- the chunks behind the magic of a whole file, and the end, where so many bytes of the file count
abbrev pub file_within : ℕ → List ℕ → All ChunkAt FileEnd
file_within limit b = file_counted (limit - 4) b ended

abbrev pub end_reading : FileEnd → Next
end_reading (end.End at) = End at
end_reading (end.Torn at left) = Torn at left
end_reading (end.Bad at why) = Bad at why
end_reading end.ReadFault = ReadFault
end_reading end.SizeLimit = SizeLimit

-- the same as the answers of a reader, one by one
abbrev pub readings_of : All ChunkAt FileEnd → List Next
readings_of all = map (λ c. Chunk c.0 c.1) all.0 ++ end_reading all.1 ∷ []
