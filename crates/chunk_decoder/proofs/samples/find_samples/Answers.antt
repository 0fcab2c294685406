use Rattle.std.proofs.Common.{◌∙◌, sym, ap, List, arith}
use Rattle.xdf_model.specs.Sample.{Sample}
use Rattle.xdf_model_laws.proofs.Readers.{found}
use Rattle.chunk_decoder.proofs.AllCut.{all_cut}
use Rattle.chunk_decoder.proofs.samples.find_samples.Goals as goal

pub slice_bounds-own-count : goal.slice_bounds-own-count
slice_bounds-own-count c = (all_cut c.args.shape.now c.args.count c.args.bytes.now c.in-Ok.rest.now (λ i. omega (arith, c.type_inv.bytes i)) c.in-Ok.ensures).0

pub of-requires : goal.of-requires
of-requires c = (all_cut c.args.shape.now c.args.count c.args.bytes.now c.in-Ok.rest.now (λ i. omega (arith, c.type_inv.bytes i)) c.in-Ok.ensures).1

pub returns-in-Ok : goal.returns-in-Ok
returns-in-Ok c =
    let k = all_cut c.args.shape.now c.args.count c.args.bytes.now c.in-Ok.rest.now (λ i. omega (arith, c.type_inv.bytes i)) c.in-Ok.ensures in
    k.2 ∙ ap (λ (l : List Sample). found l c.in-Ok.rest.now) (sym c.of.ensures)
