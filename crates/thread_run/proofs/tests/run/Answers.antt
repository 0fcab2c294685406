use Rattle.std.proofs.Common.{arith}
use Rattle.thread_run.proofs.tests.run.Goals as goal

pub record-requires-clause-ready : goal.record-requires-clause-ready
record-requires-clause-ready g c κs within = (
  8,
  c.args.streams.now,
  c.args.feeds.items,
  record {
    low = omega arith;
    some = c.requires.batch;
    ready = c.in_ok-room.ensures.ready;
    places = c.in_ok-room.ensures.places;
    feed_count = c.requires.feeds;
    work_count = c.in_ok-threads.ensures.count.0;
    head_count = c.in_ok-threads.ensures.count.1;
    each = c.in_ok-threads.ensures.each;
    halt = c.in_ok-threads.ensures.halt;
  },
)
