use Rattle.std.proofs.Common.{rules, ◌≡◌, ◌≤◌, length, ap, arith}
use Rattle.std.specs.Prelude.{vec_capacity}
use Rattle.record_run.proofs.Starting.{open_for}
use Rattle.record_run.proofs.turn_recorder.TurnRecorder.open.Goals as goal

pub invariant_of-result : goal.invariant_of-result
invariant_of-result g c =
    let first : c.deref.result.now ≡ c.args.streams.items = search rules in
    let second : c.deref-2.result.now ≡ c.args.streams.items = search rules in
    let e = c.in_ok-inlets.ensures in
    let room : length c.in_ok-inlets.inlets.items ≤ vec_capacity c.in_ok-reports.reports = omega (arith, c.in_ok-reports.ensures.capacity, c.len.ensures, e.count, ap length second) in
    let room_for_sources : length c.in_ok-inlets.inlets.items ≤ vec_capacity c.in_ok-sources.sources = omega (arith, c.in_ok-sources.ensures.capacity, c.len-2.ensures, e.count, ap length second) in (
      record {
        ring = c.args.ring;
        batch = c.args.batch;
        streams = c.args.streams.items;
        feeds = c.args.feeds.items;
        is = open_for c.args.ring c.args.batch c.args.streams.items c.args.feeds.items c.in_ok-inlets.inlets.items c.in_ok-room.room.desk c.deref.result.now c.deref-2.result.now
            first second c.requires.ring_low c.requires.batch_low c.in_ok-room.ensures.ready c.in_ok-room.ensures.places c.requires.feeds e.count e.each;
      },
      c.in_ok-reports.ensures.items,
      room,
      c.in_ok-sources.ensures.items,
      room_for_sources,
    )

pub returns : goal.returns
returns g c =
    let first : c.deref.result.now ≡ c.args.streams.items = search rules in
    let second : c.deref-2.result.now ≡ c.args.streams.items = search rules in
    let e = c.in_ok-inlets.ensures in
    open_for c.args.ring c.args.batch c.args.streams.items c.args.feeds.items c.in_ok-inlets.inlets.items c.in_ok-room.room.desk c.deref.result.now c.deref-2.result.now
    first second c.requires.ring_low c.requires.batch_low c.in_ok-room.ensures.ready c.in_ok-room.ensures.places c.requires.feeds e.count e.each
