use Rattle.std.proofs.Common.{IsTrue, arith}
use Rattle.std.proofs.lemmas.Bool.Decides.{nat_tests}
use Rattle.chunk_grammar.specs.Chunk.{is_other}
use Rattle.chunk_grammar.proofs.Room.{other_text}
use Rattle.chunk_grammar.proofs.fits.other_fits.Goals as goal

pub returns-then-tag-gt6 : goal.returns-then-tag-gt6
returns-then-tag-gt6 c =
    let other : IsTrue (is_other c.args.tag) = let e = c.if-tag-gt6.either in grind (arith, nat_tests) in
    rw c.bytes.ensures (other_text c.args.ctx.now c.args.tag c.args.body.now c.ranges.tag.fits other)
