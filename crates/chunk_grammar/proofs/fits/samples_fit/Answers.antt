use Rattle.std.proofs.Common.{◌<◌, ◌^◌, length, sym, ◌∙◌, arith}
use Rattle.chunk_grammar.proofs.Room.{room_tells}
use Rattle.chunk_grammar.proofs.fits.samples_fit.Goals as goal

pub returns : goal.returns
returns c =
    let few : length c.args.samples.now < 2 ^ 64 = omega (arith, c.len.ensures) in
    rw c.is_some.ensures (room_tells c.args.ctx.now c.args.id c.in-Some.shape c.args.samples.now c.behind_samples.result _ c.ranges.id.fits few (sym c.shape_of.ensures ∙ c.in-Some.is) (rw (c.num_size.ensures, c.len.ensures) at c.behind_samples.ensures))
