use Rattle.chunk_grammar.proofs.Room.{boundary_text}
use Rattle.chunk_grammar.proofs.fits.chunk_fits.Goals as goal

pub returns-in-Boundary : goal.returns-in-Boundary
returns-in-Boundary c = rw c.in-Boundary.is (boundary_text c.args.ctx.now)
