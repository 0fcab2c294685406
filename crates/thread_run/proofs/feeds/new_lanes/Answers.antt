use Rattle.std.proofs.Common.{◌≡◌, false, List, [], ◌∷◌, length, drop, slice_get, Some, refl, sym, ap, ◌∙◌, arith, length-append}
use Rattle.std.proofs.lemmas.Option.{slice_get_read}
use Rattle.halt_word.specs.Ends.{LookerView}
use Rattle.recording_model.specs.declared.stream.StreamDoc.{StreamDoc}
use Rattle.run_model.proofs.Lists.{drop_next}
use Rattle.run_model.proofs.Shapes.{stream_small}
use Rattle.thread_run.specs.declared.work.Work.{Work}
use Rattle.thread_run.specs.declared.lane.CountedHead.{CountedHead}
use Rattle.thread_run.proofs.Settling.{first_at}
use Rattle.thread_run.proofs.Starting.{opened_next, each_more}
use Rattle.thread_run.proofs.feeds.new_lanes.Goals as goal

pub new_lane-requires-clause-count : goal.new_lane-requires-clause-count
new_lane-requires-clause-count g c =
    let n = c.loop-place.place in
    let s : StreamDoc = c.index-streams-place.result in
    let at : slice_get c.args.streams.now n ≡ Some s = slice_get_read c.args.streams.now (length c.args.streams.now) n s refl c.loop-place-test.true c.index-streams-place.is in
    stream_small c.args.streams.now c.requires.are n s at

pub loop-place-preserved : goal.loop-place-preserved
loop-place-preserved g c =
    let i = c.loop-place.invariant in
    let n = c.loop-place.place in
    let s : StreamDoc = c.index-streams-place.result in
    let at : slice_get c.args.streams.now n ≡ Some s = slice_get_read c.args.streams.now (length c.args.streams.now) n s refl c.loop-place-test.true c.index-streams-place.is in
    let there = first_at c.loop-place.feeds.items c.args.feeds.items n c.remove-feed.result i.left (omega (arith, c.loop-place-test.true, c.requires.feeds)) c.remove-feed.ensures.value in
    let works = c.push_reserved.ensures.items in
    let heads = c.push_reserved-in-loop-place.ensures.items in
    record {
      left = c.remove-feed.ensures.items ∙ ap (drop 1) i.left ∙ drop_next n c.args.feeds.items;
      work_count = omega (arith, ap length works, length-append c.loop-place.works.items (c.in_ok-work.work ∷ []), i.work_count);
      head_count = omega (arith, ap length heads, length-append c.loop-place.heads.items (c.in_ok-work.head ∷ []), i.head_count);
      work_room = omega (arith, c.push_reserved.ensures.capacity, i.work_room);
      head_room = omega (arith, c.push_reserved-in-loop-place.ensures.capacity, i.head_room);
      each = λ p t f y z et ef ey ez.
          opened_next c.args.ring n c.args.streams.now c.args.feeds.items c.loop-place.works.items c.loop-place.heads.items s c.remove-feed.result c.in_ok-work.work c.in_ok-work.head i.work_count i.head_count i.each at there
          c.in_ok-work.ensures.lane p t f y z et ef (ap (λ (l : List (Work g.row.S.Denot)). slice_get l p) (sym works) ∙ ey) (ap (λ (l : List CountedHead). slice_get l p) (sym heads) ∙ ez);
      left_lookers = omega (arith, i.left_lookers, c.take_looker-looker.ensures.less);
      new = c.take_looker-looker.ensures.new;
      word = c.take_looker-looker.ensures.same.0 ∙ i.word;
      space = c.take_looker-looker.ensures.same.1 ∙ i.space;
      unseen =
          let L = c.take_looker-looker.ensures.looker in
          let is = c.in_ok-work.ensures.looker in
          let P : Work g.row.S.Denot → Type 0 = λ w. (w.looker.word ≡ c.args.lookers.now.word) × (w.looker.saw ≡ false) in
          let one : P c.in_ok-work.work = (ap (λ (l : LookerView). l.word) is ∙ L.0 ∙ i.word, ap (λ (l : LookerView). l.saw) is ∙ L.1) in
          λ p w e. each_more P c.loop-place.works.items c.in_ok-work.work i.unseen one p w (ap (λ (l : List (Work g.row.S.Denot)). slice_get l p) (sym works) ∙ e);
    }
