use Rattle.std.proofs.Common.{ap, sym, ◌∙◌, arith}
use Rattle.xdf_model.specs.Varlen.{least_width}
use Rattle.chunk_laws.proofs.LeastChunks.{content_limit}
use Rattle.chunk_encoder.proofs.Steps.{fits_all, length-samples}
use Rattle.chunk_encoder.proofs.size.content_size.Goals as goal

pub samples_size-requires-clause-fits : goal.samples_size-requires-clause-fits
samples_size-requires-clause-fits c =
    fits_all c.args.ctx.now c.args.chunk.now c.requires.1.content c.in-Samples.id c.in-Samples.samples c.in-Some.shape c.requires.1.kind c.in-Samples.is (sym c.shape_of.ensures ∙ c.in-Some.is)

pub samples_size-requires-clause-room : goal.samples_size-requires-clause-room
samples_size-requires-clause-room c =
    let size = length-samples c.args.ctx.now c.args.chunk.now c.in-Samples.id c.in-Samples.samples c.in-Some.shape c.in-Samples.is (sym c.shape_of.ensures ∙ c.in-Some.is) in
    omega (arith, size, content_limit c.args.ctx.now c.args.chunk.now c.requires.0 c.requires.1)

pub overflow_add-result-in-Some-3 : goal.overflow_add-result-in-Some-3
overflow_add-result-in-Some-3 c =
    let size = length-samples c.args.ctx.now c.args.chunk.now c.in-Samples.id c.in-Samples.samples c.in-Some.shape c.in-Samples.is (sym c.shape_of.ensures ∙ c.in-Some.is) in
    omega (arith, size, content_limit c.args.ctx.now c.args.chunk.now c.requires.0 c.requires.1)

pub returns-in-Some : goal.returns-in-Some
returns-in-Some c =
    let size = length-samples c.args.ctx.now c.args.chunk.now c.in-Samples.id c.in-Samples.samples c.in-Some.shape c.in-Samples.is (sym c.shape_of.ensures ∙ c.in-Some.is) in
    omega (arith, size, ap least_width c.len-count.ensures)
