-- What a reader gives, with the ends apart from the chunks.
use Rattle.std.specs.Prelude.{⊤}
use Rattle.reading_model.specs.Outlook.{Got, item, end, nothing}
use Rattle.file_model.specs.declared.end.FileEnd.{FileEnd}
use Rattle.file_model.specs.Reader.{ChunkAt}
use Rattle.file_model.specs.declared.next.Next.TheVariants as next
use Rattle.file_reader.specs.FileInlet.{FileInlet, IsGiven}
use Rattle.stream_check.specs.declared.next.Step.{Step}
use Rattle.stream_check.specs.declared.next.Step.TheVariants.{Chunk, End, Memory}

abbrev pub got_step : Step → Got ChunkAt FileEnd
got_step (Chunk at c) = item (at, c)
got_step (End e) = end e
got_step Memory = nothing

abbrev pub IsGivenStep : FileInlet → FileInlet → Step → Type 0
IsGivenStep old new (Chunk at c) = IsGiven old new (next.Chunk at c)
IsGivenStep old new (End e) = ⊤
IsGivenStep old new Memory = ⊤
