use Rattle.std.proofs.Common.{arith}
use Rattle.chunk_grammar.specs.Chunk.{boundary_bytes}
use Rattle.chunk_grammar.specs.Standing.{same_bytes}
use Rattle.chunk_decoder.proofs.Bytes.{same_stays, same_ends}
use Rattle.chunk_decoder.proofs.content.find_boundary_bytes.Goals as goal

pub returns-then-bytes-i : goal.returns-then-bytes-i
returns-then-bytes-i c =
    rw (c.wrong.ensures, ← c.requires) (same_ends boundary_bytes c.args.bytes.now c.loop-i.i (same_bytes boundary_bytes c.args.bytes.now) (omega arith) (omega arith) c.if-bytes-i.true c.loop-i.invariant)

pub loop-i-preserved : goal.loop-i-preserved
loop-i-preserved c = same_stays boundary_bytes c.args.bytes.now c.loop-i.i (same_bytes boundary_bytes c.args.bytes.now) (omega arith) (omega arith) c.if-bytes-i.false c.loop-i.invariant
