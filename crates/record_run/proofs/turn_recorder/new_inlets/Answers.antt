use Rattle.std.proofs.Common.{◌≡◌, ◌<◌, List, [], ◌∷◌, ◌++◌, length, drop, slice_get, Some, refl, sym, ap, ◌∙◌, arith, length-append, length-drop}
use Rattle.std.proofs.lemmas.Option.{slice_get_read}
use Rattle.recording_model.specs.declared.stream.StreamDoc.{StreamDoc}
use Rattle.run_model.specs.declared.feed.FeedSource.{FeedSource}
use Rattle.record_run.specs.Inlets.{InletView}
use Rattle.record_run.specs.Opening.{IsNewInlet}
use Rattle.run_model.proofs.Shapes.{stream_small}
use Rattle.record_run.proofs.Starting.{opened_next}
use Rattle.run_model.proofs.Lists.{front_at, drop_next}
use Rattle.record_run.proofs.turn_recorder.new_inlets.Goals as goal

pub new-requires-clause-count : goal.new-requires-clause-count
new-requires-clause-count g c =
    let n = c.loop-place.place in
    let s : StreamDoc = c.index-streams-place.result in
    let at : slice_get c.args.streams.now n ≡ Some s = slice_get_read c.args.streams.now (length c.args.streams.now) n s refl c.loop-place-test.true c.index-streams-place.is in
    stream_small c.args.streams.now c.requires.are n s at

pub loop-place-preserved : goal.loop-place-preserved
loop-place-preserved g c =
    let i = c.loop-place.invariant in
    let n = c.loop-place.place in
    let e = c.in_ok-inlet.ensures in
    let s : StreamDoc = c.index-streams-place.result in
    let d = c.remove-feed.result in
    let at : slice_get c.args.streams.now n ≡ Some s = slice_get_read c.args.streams.now (length c.args.streams.now) n s refl c.loop-place-test.true c.index-streams-place.is in
    let left_some : 0 < length c.loop-place.feeds.items = let long = ap length i.left ∙ length-drop n c.args.feeds.items in omega (arith, long, c.loop-place-test.true, c.requires.feeds) in
    let first : slice_get c.loop-place.feeds.items 0 ≡ Some d = slice_get_read c.loop-place.feeds.items (length c.loop-place.feeds.items) 0 d refl left_some c.remove-feed.ensures.value in
    let there : slice_get c.args.feeds.items n ≡ Some d = sym (front_at n c.args.feeds.items) ∙ ap (λ (l : List (FeedSource g.row.S.Denot)). slice_get l 0) (sym i.left) ∙ first in
    let items : c.push.new.self.items ≡ c.loop-place.inlets.items ++ c.in_ok-inlet.inlet ∷ [] = c.in_ok-push.ensures.items in
    let long = ap length items ∙ length-append c.loop-place.inlets.items (c.in_ok-inlet.inlet ∷ []) in
    let less : c.remove-feed.new.self.items ≡ drop 1 c.loop-place.feeds.items = c.remove-feed.ensures.items in
    let new : IsNewInlet c.args.ring s d c.in_ok-inlet.inlet = record {
      all = e.all;
      goes = e.fresh.0;
      id = e.same.0;
      shape = e.same.1;
      source = e.source;
      end = e.fresh.1;
      drops = e.fresh.2;
      capacity = e.same.2;
      pushes = e.fresh.3;
      queue = e.fresh.4;
      stands = e.stands;
    } in
    record {
      left = less ∙ ap (drop 1) i.left ∙ drop_next n c.args.feeds.items;
      count = omega (arith, long, i.count);
      each = λ p t f y et ef ey.
          opened_next c.args.ring n c.args.streams.now c.args.feeds.items c.loop-place.inlets.items s d c.in_ok-inlet.inlet i.count i.each at there new p t f y et ef
          (ap (λ (l : List (InletView g.row.S.Denot)). slice_get l p) (sym items) ∙ ey);
    }
