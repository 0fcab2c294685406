-- What a reader of a file keeps, and what a step does to it.
use Rattle.std.specs.Prelude.{◌≡◌, ℕ, List, [], ◌++◌, take, Option, Some, None, ⊤}
use Rattle.reading_model.specs.Outlook.{Got, item, end, nothing}
use Rattle.reading_model.specs.Reading.{Reading, going, done}
use Rattle.reading_model.specs.Rules.{short}
use Rattle.piece_reader.specs.Steps.{Passes, EndsAs, Wants, gained}
use Rattle.file_model.specs.declared.end.FileEnd.{FileEnd}
use Rattle.file_model.specs.declared.next.Next.{Next}
use Rattle.file_model.specs.declared.next.Next.TheVariants.{End, Torn}
use Rattle.file_model.specs.Reader.{FileState, ChunkAt, file_rules}
use Rattle.file_reader.specs.declared.kept.Inner.{Inner}
use Rattle.file_reader.specs.declared.kept.Inner.TheVariants.{Answer, Want}
use Rattle.file_reader.specs.FileInlet.{FileInlet, IsGiven, Tells, got}
use Rattle.file_reader.specs.AsNext.{HasValue, next_in}

-- where it stands, once the end was answered or not
abbrev pub reading_of : Option FileEnd → FileState → List ℕ → ℕ → Reading FileState FileEnd
reading_of (Some e) state bytes room = done e
reading_of None state bytes room = going state bytes room

-- how far it is now
abbrev pub with_reading : FileInlet → Reading FileState FileEnd → FileInlet
with_reading x reading = record { context = x.context; place = x.place; last = x.last; ahead = x.ahead; reading = reading; byte_limit = x.byte_limit }

-- the last chunk's bytes were gone past
abbrev pub without_last : FileInlet → FileInlet
without_last x = record { context = x.context; place = x.place; last = []; ahead = x.ahead; reading = x.reading; byte_limit = x.byte_limit }

-- some more bytes were taken
abbrev pub with_more : FileInlet → List ℕ → FileInlet
with_more x bytes = record { context = x.context; place = x.place; last = x.last; ahead = x.ahead ++ bytes; reading = gained bytes x.reading; byte_limit = x.byte_limit }

abbrev pub IsGoing : Reading FileState FileEnd → Type 0
IsGoing (done e) = ⊥
IsGoing (going s rest room) = ⊤

abbrev pub IsOver : Reading FileState FileEnd → Type 0
IsOver (done e) = ⊤
IsOver (going s rest room) = ⊥

-- what stands in the bytes that count is short
abbrev pub IsShort : Reading FileState FileEnd → Type 0
IsShort (done e) = ⊥
IsShort (going s rest room) = file_rules.at s (take room rest) ≡ short

-- what an answer of the bytes that were taken takes from what is still to come
abbrev pub TakesGot : Reading FileState FileEnd → Reading FileState FileEnd → Got ChunkAt FileEnd → Type 0
TakesGot old new (item c) = Passes file_rules old (Some c) new
TakesGot old new (end e) = EndsAs file_rules old e × (new ≡ done e)
TakesGot old new nothing = new ≡ old

-- an answer of the bytes that were taken
abbrev pub Answers : FileInlet → FileInlet → Next → Type 0
Answers old new next = TakesGot old.reading new.reading (got next) × IsGiven old new next × (new.byte_limit ≡ old.byte_limit)

-- what was answered of the bytes that were taken, or that more are wanted
abbrev pub Does : FileInlet → FileInlet → Inner → Type 0
Does old new (Answer passed value) = Answers old new (next_in old new passed)
Does old new Want = Wants file_rules old.reading × (new ≡ old)

-- the answer comes with the chunk's value
abbrev pub Values : FileInlet → FileInlet → Inner → Type 0
Values old new (Answer passed value) = HasValue (next_in old new passed) value
Values old new Want = ⊤

-- an answer that the bytes alone give, whether the input ended or not
abbrev pub IsOfBytes : Next → Type 0
IsOfBytes (End at) = ⊥
IsOfBytes (Torn at left) = ⊥
IsOfBytes _ = ⊤

-- what an answer of the bytes that were taken tells of them
abbrev pub Shows : FileInlet → FileInlet → Inner → Type 0
Shows old new (Answer passed value) = (old.ahead ≡ new.last ++ new.ahead) × IsOfBytes (next_in old new passed) × Tells new (next_in old new passed)
Shows old new Want = ⊤
