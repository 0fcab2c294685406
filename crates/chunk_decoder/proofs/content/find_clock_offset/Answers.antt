use Rattle.std.proofs.Common.{arith}
use Rattle.chunk_decoder.proofs.ClockOffsets.{clock_offset_is}
use Rattle.chunk_decoder.proofs.content.find_clock_offset.Goals as goal

pub returns : goal.returns
returns c = clock_offset_is c.args.bytes.now c.in_ok-id.id c.in_ok-time.time c.in_ok-offset.offset c.in_ok-id.rest.now c.in_ok-time.rest.now c.in_ok-offset.field-0-1.now (λ i. omega (arith, c.type_inv.bytes i)) c.if-bytes-lt20.false c.if-bytes-gt20.false c.in_ok-id.ensures c.in_ok-time.ensures c.in_ok-offset.ensures
