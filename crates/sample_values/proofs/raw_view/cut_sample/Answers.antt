use Rattle.std.proofs.Common.{arith}
use Rattle.sample_values.proofs.Cuts.{cut_is}
use Rattle.sample_values.proofs.raw_view.cut_sample.Goals as goal

pub slice_bounds-own-count : goal.slice_bounds-own-count
slice_bounds-own-count c = (cut_is c.args.shape.now c.args.bytes.now c.in-Ok.rest.now (λ i. omega (arith, c.type_inv.bytes i)) c.in-Ok.ensures).0

pub of-requires : goal.of-requires
of-requires c = (cut_is c.args.shape.now c.args.bytes.now c.in-Ok.rest.now (λ i. omega (arith, c.type_inv.bytes i)) c.in-Ok.ensures).1

pub returns-in-Ok : goal.returns-in-Ok
returns-in-Ok c = rw c.of.ensures ((cut_is c.args.shape.now c.args.bytes.now c.in-Ok.rest.now (λ i. omega (arith, c.type_inv.bytes i)) c.in-Ok.ensures).2)
