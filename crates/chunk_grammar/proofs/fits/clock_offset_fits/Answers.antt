use Rattle.chunk_grammar.proofs.Room.{clock_offset_text}
use Rattle.chunk_grammar.proofs.fits.clock_offset_fits.Goals as goal

pub returns : goal.returns
returns c = clock_offset_text c.args.ctx.now c.args.id c.args.time c.args.offset c.ranges.id.fits c.ranges.time.fits c.ranges.offset.fits
