use Rattle.std.proofs.Common.{◌≡◌, ◌≤◌, ◌-◌, ◌++◌}
use Rattle.std.specs.List.{flat_map}
use Rattle.xdf_model.specs.Sample.{size_of}
use Rattle.drill_feeds.specs.Drill.{drill_format, drill_order, feed_sample_text, first_samples}
use Rattle.drill_feeds.proofs.feed.put_samples.Given as goal

abbrev pub invariant-loop-next : goal.invariant-loop-next
invariant-loop-next l = record {
  put : l.out.items ≡ l.fn.out.items ++ flat_map (feed_sample_text (drill_order l.id) (size_of (drill_format l.id))) (first_samples l.samples l.id l.next);
  few : l.next ≤ l.count;
}

abbrev pub decreases-loop-next : goal.decreases-loop-next
decreases-loop-next l = l.count - l.next
