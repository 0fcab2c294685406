-- The first of a chunk's lines, and the ones behind it.
use Rattle.std.specs.Prelude.{ℕ, List, [], drop, get_or}
use Rattle.chunk_grammar.specs.declared.chunk.Chunk.{Chunk}
use Rattle.chunk_grammar.specs.Chunk.{Context}
use Rattle.report_model.specs.Lines.{chunk_lines}

-- the first line, which the streams before the chunk don't touch
abbrev pub first_line : ℕ → Chunk → List ℕ
first_line at c = get_or (chunk_lines [] at c) 0 []

-- the lines behind the first one, which the place doesn't touch
abbrev pub later_lines : Context → Chunk → List (List ℕ)
later_lines ctx c = drop 1 (chunk_lines ctx 0 c)
