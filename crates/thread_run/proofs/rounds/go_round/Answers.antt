use Rattle.std.proofs.Common.{rules, ◌≡◌, ◌∙◌, List, map, Some, slice_get, get_or, ap, subst, arith}
use Rattle.std.proofs.lemmas.List.{length-map}
use Rattle.std.proofs.lemmas.Option.{slice_get-get_or}
use Rattle.run_model.proofs.Errors.{on_err, handed}
use Rattle.run_model.proofs.Lists.{map_at}
use Rattle.feed_lane.specs.Lanes.{Lane}
use Rattle.thread_run.specs.declared.lane.CountedHead.{CountedHead}
use Rattle.thread_run.specs.Rounds.{AreDrawn, Given, IsCutOf, given_by}
use Rattle.thread_run.proofs.Going.{lanes_more, lanes_cut, map_set, ends_same, numbers_same}
use Rattle.thread_run.proofs.rounds.go_round.Goals as goal

pub write_some-requires-clause-place : goal.write_some-requires-clause-place
write_some-requires-clause-place g c =
    let i = c.loop-place.invariant in
    let h = c.requires.drawn in
    let k = i.drawn h.0 h.1 h.2 h.3 in
    omega (arith, c.loop-place-test.true, i.count, k.1.count, length-map c.loop-place.heads given_by)

pub write_some-requires-clause-closed : goal.write_some-requires-clause-closed
write_some-requires-clause-closed g c = let h = c.requires.drawn in (c.loop-place.invariant.drawn h.0 h.1 h.2 h.3).1.closed

pub write_some-requires-clause-whole : goal.write_some-requires-clause-whole
write_some-requires-clause-whole g c = let h = c.requires.drawn in (c.loop-place.invariant.drawn h.0 h.1 h.2 h.3).1.whole

pub write_some-requires-clause-next : goal.write_some-requires-clause-next
write_some-requires-clause-next g c =
    let i = c.loop-place.invariant in
    let h = c.requires.drawn in
    let p = c.loop-place.place in
    ((i.drawn h.0 h.1 h.2 h.3).1.each p (given_by (get_or c.loop-place.heads p c.index-heads-place.result)) (map_at given_by c.loop-place.heads p (get_or c.loop-place.heads p c.index-heads-place.result) (slice_get-get_or c.loop-place.heads p c.index-heads-place.result (omega (arith, c.loop-place-test.true, i.count))))).next

pub write_some-requires-clause-shape : goal.write_some-requires-clause-shape
write_some-requires-clause-shape g c =
    let i = c.loop-place.invariant in
    let h = c.requires.drawn in
    let p = c.loop-place.place in
    ((i.drawn h.0 h.1 h.2 h.3).1.each p (given_by (get_or c.loop-place.heads p c.index-heads-place.result)) (map_at given_by c.loop-place.heads p (get_or c.loop-place.heads p c.index-heads-place.result) (slice_get-get_or c.loop-place.heads p c.index-heads-place.result (omega (arith, c.loop-place-test.true, i.count))))).shape

pub returns-in_err-count-clause-lanes : goal.returns-in_err-count-clause-lanes
returns-in_err-count-clause-lanes g c =
    ends_same (λ (h : CountedHead). h.head.lane) c.loop-place.heads c.loop-place.place c.index-heads-place.result c.write_some.new.lane c.write_some.ensures.same ∙ c.loop-place.invariant.lanes

pub returns-in_err-count-clause-cut : goal.returns-in_err-count-clause-cut
returns-in_err-count-clause-cut g c = λ streams base batches st.
    let k = c.loop-place.invariant.drawn streams base batches st in
    let p = c.loop-place.place in
    let here : CountedHead = get_or c.loop-place.heads p c.index-heads-place.result in
    let there : slice_get c.loop-place.heads p ≡ Some here = slice_get-get_or c.loop-place.heads p c.index-heads-place.result (omega (arith, c.loop-place-test.true, c.loop-place.invariant.count)) in
    let e = c.in_err-count.ensures.cut streams base k.0 k.1.written in
    let now = c.write_some.new.lane in
    let P : List Given → Type 0 = λ lanes. IsCutOf streams base (g.K.Sink.held c.write_some.new.writer.sink.now) lanes in
    on_err c.from_residual.result (subst P (map_set given_by c.loop-place.heads p now)
    (lanes_cut c.args.batch p streams base _ _ _ k.0 e.0 (map given_by c.loop-place.heads) (given_by here) (given_by now) k.1 (map_at given_by c.loop-place.heads p here there) e.1 e.2))

pub loop-place-preserved : goal.loop-place-preserved
loop-place-preserved g c =
    let i = c.loop-place.invariant in
    let p = c.loop-place.place in
    let e = c.in_ok-count.ensures in
    let here : CountedHead = get_or c.loop-place.heads p c.index-heads-place.result in
    let there : slice_get c.loop-place.heads p ≡ Some here = slice_get-get_or c.loop-place.heads p c.index-heads-place.result (omega (arith, c.loop-place-test.true, i.count)) in
    record {
      drawn = λ streams base batches st.
          let k = i.drawn streams base batches st in
          let now = c.write_some.new.lane in
          let m = lanes_more c.args.batch p streams base _ _ _ _ k.0 (map given_by c.loop-place.heads) (given_by here) (given_by now) k.1 (map_at given_by c.loop-place.heads p here there) e.wrote (ap (λ (l : Lane). l.shape) e.same) e.counted in
          let w = c.write_some.new.writer in
          (m.0, subst (λ (lanes : List Given). AreDrawn c.args.batch streams base (g.K.Sink.held w.sink.now) w.room.desk m.0 lanes) (map_set given_by c.loop-place.heads p now) m.1);
      count = search rules;
      lanes = ends_same (λ (h : CountedHead). h.head.lane) c.loop-place.heads p c.index-heads-place.result c.write_some.new.lane e.same ∙ i.lanes;
      same_reference = e.same_reference ∙ i.same_reference;
      quiet = e.cause.quiet (λ f. absurd (cc f)) ∙ i.quiet;
      rest = e.rest ∙ i.rest;
    }

pub write_some-requires-clause-counted : goal.write_some-requires-clause-counted
write_some-requires-clause-counted g c =
    let i = c.loop-place.invariant in
    let h = c.requires.drawn in
    let p = c.loop-place.place in
    ((i.drawn h.0 h.1 h.2 h.3).1.each p (given_by (get_or c.loop-place.heads p c.index-heads-place.result)) (map_at given_by c.loop-place.heads p (get_or c.loop-place.heads p c.index-heads-place.result) (slice_get-get_or c.loop-place.heads p c.index-heads-place.result (omega (arith, c.loop-place-test.true, i.count))))).counted

pub returns-in_err-count-clause-memory : goal.returns-in_err-count-clause-memory
returns-in_err-count-clause-memory g c = λ is numbers.
    let i = c.loop-place.invariant in
    let p = c.loop-place.place in
    let here : CountedHead = get_or c.loop-place.heads p c.index-heads-place.result in
    let there : slice_get c.loop-place.heads p ≡ Some here = slice_get-get_or c.loop-place.heads p c.index-heads-place.result (omega (arith, c.loop-place-test.true, i.count)) in
    c.in_err-count.ensures.memory (handed c.from_residual.result c.in_err-count.field-0.0 _ c.from_residual.ensures.1 is) (numbers_same c.args.heads.now c.loop-place.heads i.lanes numbers p (given_by here) (map_at given_by c.loop-place.heads p here there))
