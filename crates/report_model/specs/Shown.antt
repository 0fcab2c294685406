-- The lines of a file, by what a reader of it is given. This project's own.
use Rattle.std.specs.Prelude.{◌≡◌, ℕ, List, [], ◌∷◌, ◌++◌, length, codes}
use Rattle.std.specs.List.{flat_map}
use Rattle.std.specs.Fmt.{decimal}
use Rattle.rec_base.specs.Known.{printed_line}
use Rattle.reading_model.specs.Outlook.{How, All}
use Rattle.reading_model.specs.Read.{Reader}
use Rattle.chunk_grammar.specs.Chunk.{Context, context_after}
use Rattle.file_model.specs.declared.end.FileEnd.{FileEnd}
use Rattle.file_model.specs.declared.end.FileEnd.TheVariants.{End, Torn, Bad, ReadFault, SizeLimit}
use Rattle.file_model.specs.Reader.{ChunkAt}
use Rattle.report_model.specs.Lines.{chunk_lines}
use Rattle.report_model.specs.Reasons.{reason_number}

-- the context behind these chunks
abbrev pub context_behind : Context → List ChunkAt → Context
context_behind ctx [] = ctx
context_behind ctx (c ∷ more) = context_behind (context_after ctx c.1) more

-- the lines of these chunks, each in the context that the ones before it leave
abbrev pub lines_of_chunks : Context → List ChunkAt → List (List ℕ)
lines_of_chunks ctx [] = []
lines_of_chunks ctx (c ∷ more) = chunk_lines ctx c.0 c.1 ++ lines_of_chunks (context_after ctx c.1) more

-- the last line, behind so many chunks: the file's size, the place of a torn chunk with the number of its bytes, or the place and the reason
-- of a bad one. Where a read failed or the file is too long, there is none.
abbrev pub end_lines : ℕ → FileEnd → List (List ℕ)
end_lines count (End at) = (codes "end " ++ decimal at ++ codes " chunks " ++ decimal count) ∷ []
end_lines count (Torn at left) = (codes "torn " ++ decimal at ++ codes " left " ++ decimal left) ∷ []
end_lines count (Bad at why) = (codes "bad " ++ decimal at ++ codes " why " ++ decimal (reason_number why)) ∷ []
end_lines count ReadFault = []
end_lines count SizeLimit = []

-- all lines of a file
abbrev pub show_lines : All ChunkAt FileEnd → List (List ℕ)
show_lines all = lines_of_chunks [] all.0 ++ end_lines (length all.0) all.1

-- lines as they are printed
abbrev pub printed_lines : List (List ℕ) → List ℕ
printed_lines lines = flat_map printed_line lines

-- these are the first lines of a file of which these bytes were taken, whatever follows
abbrev pub AreFirstLines : Reader ChunkAt FileEnd → List ℕ → List (List ℕ) → Type 0
AreFirstLines reader taken lines = (more : List ℕ) (how : How) → (rest : List (List ℕ)) × (show_lines (reader (taken ++ more) how) ≡ lines ++ rest)
