use Rattle.std.proofs.Common.{arith}
use Rattle.chunk_decoder.proofs.Told.{is_whole, is_found, is_sized, is_placed}
use Rattle.chunk_decoder.proofs.place.read_chunk.Goals as goal

pub returns-clause-whole : goal.returns-clause-whole
returns-clause-whole c = is_whole c.args.ctx.now c.args.bytes.now c.answer.result (λ i. omega (arith, c.type_inv.bytes i)) c.answer.ensures

pub returns-clause-found : goal.returns-clause-found
returns-clause-found c = is_found c.args.ctx.now c.args.bytes.now c.answer.result c.answer.ensures

pub returns-clause-size : goal.returns-clause-size
returns-clause-size c = is_sized c.args.ctx.now c.args.bytes.now c.answer.result (λ i. omega (arith, c.type_inv.bytes i)) c.answer.ensures

pub returns-clause-place : goal.returns-clause-place
returns-clause-place c = is_placed c.args.ctx.now c.args.bytes.now c.answer.result (λ i. omega (arith, c.type_inv.bytes i)) c.answer.ensures
