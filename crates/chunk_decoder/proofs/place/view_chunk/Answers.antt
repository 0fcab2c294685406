use Rattle.std.proofs.Common.{arith}
use Rattle.chunk_decoder.proofs.Told.{view_whole, view_placed, view_sized}
use Rattle.chunk_decoder.proofs.place.view_chunk.Goals as goal

pub returns-clause-whole : goal.returns-clause-whole
returns-clause-whole c = view_whole c.args.ctx.now c.args.bytes.now c.view.result (λ i. omega (arith, c.type_inv.bytes i)) c.view.ensures

pub returns-clause-place : goal.returns-clause-place
returns-clause-place c = view_placed c.args.ctx.now c.args.bytes.now c.view.result (λ i. omega (arith, c.type_inv.bytes i)) c.view.ensures

pub returns-clause-size : goal.returns-clause-size
returns-clause-size c = view_sized c.args.ctx.now c.args.bytes.now c.view.result (λ i. omega (arith, c.type_inv.bytes i)) c.view.ensures
