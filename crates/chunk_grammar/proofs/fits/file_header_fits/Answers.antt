use Rattle.chunk_grammar.proofs.Room.{file_header_text}
use Rattle.chunk_grammar.proofs.fits.file_header_fits.Goals as goal

pub returns : goal.returns
returns c = rw c.bytes.ensures (file_header_text c.args.ctx.now c.args.doc.now)
