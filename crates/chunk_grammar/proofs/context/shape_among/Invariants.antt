use Rattle.std.proofs.Common.{◌≡◌, drop}
use Rattle.chunk_grammar.specs.Chunk.{shape_of}
use Rattle.chunk_grammar.proofs.context.shape_among.Given as goal

abbrev pub invariant-loop-stream : goal.invariant-loop-stream
invariant-loop-stream l = shape_of l.streams l.id ≡ shape_of (drop l.stream-index l.streams) l.id
