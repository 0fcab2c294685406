-- What contracts see of a reader of a file. This project's own.
use Rattle.std.specs.Prelude.{◌≡◌, ℕ, ◌+◌, ◌-◌, ◌<◌, ◌≤◌, ◌⊎◌, Bool, true, false, List, [], ◌++◌, length, take, drop, Option, Some, None, IsTrue, ⊤}
use Rattle.std.specs.Io.KnownBytes.{Consumes, IsAtEnd}
use Rattle.reading_model.specs.Outlook.{Outlook, Got, item, end, nothing}
use Rattle.reading_model.specs.Reading.{Reading, going, done, outlook_of}
use Rattle.chunk_grammar.specs.Chunk.{Context, context_after, magic, IsChunkText}
use Rattle.chunk_grammar.specs.Standing.{torn, bad, standing_at}
use Rattle.file_model.specs.declared.end.FileEnd.{FileEnd}
use Rattle.file_model.specs.declared.end.FileEnd.TheVariants as ended
use Rattle.file_model.specs.declared.next.Next.{Next}
use Rattle.file_model.specs.declared.next.Next.TheVariants.{Chunk, End, Torn, Bad, ReadFault, SizeLimit, Memory}
use Rattle.file_model.specs.Reader.{FileState, ChunkAt, file_rules, end_reading}
use Rattle.file_reader.specs.declared.rest.Rest.{Rest}
use Rattle.file_reader.specs.declared.rest.Rest.TheVariants as rest

-- the streams whose headers were given, the place behind the last chunk that was given, the bytes of the last answer's chunk, those that were
-- taken from the place on, how far the reading is, and how many bytes of the file count
pub record FileInlet : Type 0 where
  pub context : Context
  pub place : ℕ
  pub last : List ℕ
  pub ahead : List ℕ
  pub reading : Reading FileState FileEnd
  pub byte_limit : ℕ

-- what it will still answer
abbrev pub outlook : FileInlet → Outlook ChunkAt FileEnd
outlook x = outlook_of file_rules x.reading

-- an answer, as readers of all kinds answer
abbrev pub got : Next → Got ChunkAt FileEnd
got (Chunk at c) = item (at, c)
got (End at) = end (ended.End at)
got (Torn at left) = end (ended.Torn at left)
got (Bad at why) = end (ended.Bad at why)
got ReadFault = end ended.ReadFault
got SizeLimit = end ended.SizeLimit
got Memory = nothing

-- the chunk that was given stood at the place, its text is kept, and all bytes of it count; it changes the context and the place. Another
-- answer changes neither, and keeps no text.
abbrev pub IsGiven : FileInlet → FileInlet → Next → Type 0
IsGiven old new (Chunk at c) = (at ≡ old.place) × IsChunkText old.context c new.last × (new.place ≡ old.place + length new.last) × (new.place ≤ old.byte_limit) × (new.context ≡ context_after old.context c)
IsGiven old new _ = (new.last ≡ []) × (new.place ≡ old.place) × (new.context ≡ old.context)

-- where it goes on, it stands at the place, in the context, and the bytes from there up to the limit count
abbrev pub StandsAt : FileInlet → Reading FileState FileEnd → Type 0
StandsAt x (done e) = ⊤
StandsAt x (going s rest room) = (s.context ≡ x.context) × (s.place ≡ x.place) × (room ≡ x.byte_limit - x.place)

-- the end, once it was answered
abbrev pub end_in : Reading FileState FileEnd → Option FileEnd
end_in (done e) = Some e
end_in (going s rest room) = None

-- the end that was answered is answered again
abbrev pub IsSameEnd : Reading FileState FileEnd → Next → Type 0
IsSameEnd (done e) next = next ≡ end_reading e
IsSameEnd (going s rest room) next = ⊤

-- so many of the bytes that were taken were gone past, whatever they are
abbrev pub without_front : ℕ → FileInlet → FileInlet
without_front n x = record { context = x.context; place = x.place + n; last = []; ahead = drop n x.ahead; reading = x.reading; byte_limit = x.byte_limit }

-- it goes on at the place, whatever was answered before
abbrev pub resumed : FileInlet → FileInlet
resumed x = record { context = x.context; place = x.place; last = x.last; ahead = x.ahead; reading = going (record { context = x.context; place = x.place }) x.ahead (x.byte_limit - x.place); byte_limit = x.byte_limit }

-- the bytes that were taken are four and not the magic, or they are fewer than four and all that there were
pub record IsNotXdf (before left : Option (List ℕ)) : Type 0 where
  pub taken : List ℕ
  pub lost : Consumes before left taken
  pub other : ((length taken ≡ 4) × (taken ≡ magic → ⊥)) ⊎ ((length taken < 4) × IsAtEnd left)

-- some bytes were taken, and all that were taken from the old place on are the bytes of the chunk that was given and those behind it
abbrev pub KeepsAll : Option (List ℕ) → Option (List ℕ) → FileInlet → FileInlet → Type 0
KeepsAll before left old new = (bytes : List ℕ) × Consumes before left bytes × (old.ahead ++ bytes ≡ new.last ++ new.ahead)

-- what an end tells of the bytes from the place on, as far as they were taken; and a fault or the limit of those of them that count
abbrev pub Tells : FileInlet → Next → Type 0
Tells x (Chunk at c) = ⊤
Tells x (End at) = (x.reading ≡ done (ended.End at)) × (at ≡ x.place) × (x.ahead ≡ []) × (x.place + length x.ahead ≤ x.byte_limit)
Tells x (Torn at left) =
    (x.reading ≡ done (ended.Torn at left)) × (at ≡ x.place) × (left ≡ length x.ahead) × (standing_at x.context x.ahead ≡ torn) × (x.place + length x.ahead ≤ x.byte_limit) × (0 < left)
Tells x (Bad at why) = (x.reading ≡ done (ended.Bad at why)) × (n : ℕ) × (at ≡ x.place + n) × (standing_at x.context (take (x.byte_limit - x.place) x.ahead) ≡ bad n why)
Tells x ReadFault = x.place + length x.ahead ≤ x.byte_limit
Tells x SizeLimit = (x.byte_limit < x.place + length x.ahead) × (standing_at x.context (take (x.byte_limit - x.place) x.ahead) ≡ torn)
Tells x Memory = ⊤

-- the end, a torn chunk or a bad one was answered; before the first two the input had ended, within the limit
abbrev pub HasStopped : Option (List ℕ) → FileInlet → Reading FileState FileEnd → Type 0
HasStopped left x (done (ended.End at)) = IsAtEnd left × (x.place + length x.ahead ≤ x.byte_limit)
HasStopped left x (done (ended.Torn at n)) = IsAtEnd left × (x.place + length x.ahead ≤ x.byte_limit)
HasStopped left x (done (ended.Bad at why)) = ⊤
HasStopped left x (done ended.ReadFault) = ⊥
HasStopped left x (done ended.SizeLimit) = ⊥
HasStopped left x (going s rest room) = ⊥

-- so it is after such an answer
abbrev pub Stops : Option (List ℕ) → FileInlet → Next → Type 0
Stops left x (Chunk at c) = ⊤
Stops left x (End at) = HasStopped left x x.reading
Stops left x (Torn at n) = HasStopped left x x.reading
Stops left x (Bad at why) = HasStopped left x x.reading
Stops left x ReadFault = ⊤
Stops left x SizeLimit = ⊤
Stops left x Memory = ⊤

-- the input had ended before
abbrev pub had_ended : Reading FileState FileEnd → Bool
had_ended (done (ended.End at)) = true
had_ended (done (ended.Torn at n)) = true
had_ended (done (ended.Bad at why)) = false
had_ended (done ended.ReadFault) = false
had_ended (done ended.SizeLimit) = false
had_ended (going s rest room) = false

-- how the input goes on behind so many bytes, where so many count
abbrev pub RestIs : Option (List ℕ) → ℕ → ℕ → Rest → Type 0
RestIs left size limit (rest.End n) = (n ≡ size) × (size ≤ limit) × IsAtEnd left
RestIs left size limit rest.ReadFault = size ≤ limit
RestIs left size limit rest.SizeLimit = limit < size

-- the bytes behind those that had been taken, so many, were read, and kept nowhere; where the input had ended there are none
pub record IsSkipped (before left : Option (List ℕ)) (ended : Bool) (taken limit : ℕ) (result : Rest) : Type 0 where
  pub bytes : List ℕ
  pub lost : Consumes before left bytes
  pub none : IsTrue ended → bytes ≡ []
  pub is : RestIs left (taken + length bytes) limit result
