use Rattle.std.proofs.Common.{arith}
use Rattle.xdf_model.specs.Sample.{size_of}
use Rattle.drill_feeds.specs.Drill.{drill_format, drill_order}
use Rattle.drill_feeds.proofs.Growing.{samples_more}
use Rattle.drill_feeds.proofs.feed.put_samples.Goals as goal

pub loop-next-preserved : goal.loop-next-preserved
loop-next-preserved c = record {
  put = samples_more (drill_order c.args.id) (size_of (drill_format c.args.id)) c.args.samples c.args.id c.loop-next.next _ _ _ c.loop-next.invariant.put c.in_ok-put_sample.ensures;
  few = omega (arith, c.loop-next-test.true);
}
