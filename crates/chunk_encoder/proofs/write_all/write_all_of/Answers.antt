use Rattle.std.proofs.Common.{rules}
use Rattle.rec_base.proofs.Taken.{Appends-more}
use Rattle.chunk_encoder.proofs.write_all.write_all_of.Goals as goal

pub loop-went-preserved : goal.loop-went-preserved
loop-went-preserved g c = record {
  within = search rules;
  held = Appends-more _ _ _ c.args.bytes.now c.loop-went.went c.in-Ok.n c.loop-went.invariant.held c.in-Ok.ensures.held;
  quiet = search rules;
  rest = search rules;
}
