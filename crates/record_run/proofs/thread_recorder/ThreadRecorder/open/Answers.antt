use Rattle.std.proofs.Common.{rules, ◌≡◌, refl}
use Rattle.record_run.proofs.Starting.{threads_for}
use Rattle.record_run.proofs.thread_recorder.ThreadRecorder.open.Goals as goal

pub invariant_of-result : goal.invariant_of-result
invariant_of-result g c =
    let first : c.deref.result.now ≡ c.args.streams.items = search rules in
    let second : c.deref-2.result.now ≡ c.args.streams.items = search rules in
    let room = c.in_ok-room.ensures in
    let e = c.in_ok-feeds.ensures in
    record {
      ring = c.args.ring;
      streams = c.args.streams.items;
      feeds = c.args.feeds.items;
      are = threads_for c.args.ring c.args.batch c.args.streams.items c.args.feeds.items c.in_ok-feeds.feeds c.in_ok-room.room.desk c.deref.result.now c.deref-2.result.now first second
          c.requires.ring_low c.requires.batch_low room.ready room.places c.requires.feeds e.count e.each e.halt;
    }

pub returns : goal.returns
returns g c =
    let first : c.deref.result.now ≡ c.args.streams.items = search rules in
    let second : c.deref-2.result.now ≡ c.args.streams.items = search rules in
    let room = c.in_ok-room.ensures in
    let e = c.in_ok-feeds.ensures in (
      refl,
      threads_for c.args.ring c.args.batch c.args.streams.items c.args.feeds.items c.in_ok-feeds.feeds c.in_ok-room.room.desk c.deref.result.now c.deref-2.result.now first second
          c.requires.ring_low c.requires.batch_low room.ready room.places c.requires.feeds e.count e.each e.halt,
    )
