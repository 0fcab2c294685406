use Rattle.std.proofs.Common.{rules, arith}
use Rattle.std.proofs.lemmas.List.{length-take}
use Rattle.file_reader.proofs.Ahead.{skipping_more}
use Rattle.file_reader.proofs.skip.skip_source.Goals as goal

pub loop-size-preserved : goal.loop-size-preserved
loop-size-preserved g c = record {
  skipping = skipping_more _ _ _ c.args.taken c.loop-size.size c.in-Ok.n _ c.loop-size.invariant.skipping c.in-Ok.ensures.bytes.0 (omega (arith, length-take c.in-Ok.n c.read.new.buf, c.in-Ok.ensures.bound));
  within = omega (arith, length-take c.in-Ok.n c.read.new.buf, c.in-Ok.ensures.bound, c.read.auto.buf, length-take c.min-most.result c.loop-size.buffer);
  quiet = search rules;
  marked = search rules;
}
