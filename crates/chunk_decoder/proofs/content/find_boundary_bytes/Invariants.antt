use Rattle.std.proofs.Common.{◌≡◌, drop}
use Rattle.chunk_grammar.specs.Chunk.{boundary_bytes}
use Rattle.chunk_grammar.specs.Standing.{same_bytes}
use Rattle.chunk_decoder.proofs.content.find_boundary_bytes.Given as goal

abbrev pub invariant-loop-i : goal.invariant-loop-i
invariant-loop-i l = same_bytes boundary_bytes l.bytes ≡ same_bytes (drop l.i boundary_bytes) (drop l.i l.bytes)
