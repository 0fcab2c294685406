use Rattle.std.proofs.Common.{rules}
use Rattle.rec_base.proofs.Taken.{Appends-more}
use Rattle.real_dock.proofs.said.write_whole.Goals as goal

pub loop-went-preserved : goal.loop-went-preserved
loop-went-preserved g c = record {
  within = search rules;
  written = Appends-more _ _ _ c.args.bytes.now c.loop-went.went c.in-Ok.n c.loop-went.invariant.written c.in-Ok.ensures.bytes;
}
