use Rattle.std.proofs.Common.{rules, ◌≡◌, ◌≤◌, inl, inr, [], List, map, get_or, slice_get, Some, refl, sym, ◌∙◌, subst, arith}
use Rattle.std.proofs.lemmas.List.{length-map}
use Rattle.std.proofs.lemmas.Option.{slice_get-get_or, slice_get_within}
use Rattle.xdf_model.specs.declared.types.Shape.{Shape}
use Rattle.xdf_model.specs.Sample.{size_of}
use Rattle.run_model.proofs.Errors.{on_err, handed}
use Rattle.run_model.proofs.Lists.{item_at, map_at, set_cases}
use Rattle.thread_run.specs.declared.settle.Joined.{Joined}
use Rattle.thread_run.specs.Rounds.{AreDrawn, Given, IsCutOf}
use Rattle.thread_run.specs.Settled.{IsSameFeed, given_in}
use Rattle.thread_run.proofs.Going.{lanes_more, lanes_cut, map_set}
use Rattle.thread_run.proofs.Settling.{feed_same, feed_more, set_each}
use Rattle.thread_run.proofs.settle.empty_all.Goals as goal

pub loop-place-init : goal.loop-place-init
loop-place-init g c = record {
  drawn = λ streams base batches st. (batches, st);
  count = refl;
  same = feed_same c.args.joined.now c.requires.reached;
  empty = λ p after low e. absurd (omega (arith, low));
  same_reference = refl;
  quiet = refl;
  rest = refl;
}

pub empty_one-requires-clause-place : goal.empty_one-requires-clause-place
empty_one-requires-clause-place g c =
    let h = c.requires.drawn in
    let i = c.loop-place.invariant in
    let k = i.drawn h.0 h.1 h.2 h.3 in
    omega (arith, c.loop-place-test.true, i.count, k.1.count, length-map c.loop-place.joined (given_in {S = g.row.S.Denot}))

pub empty_one-requires-clause-closed : goal.empty_one-requires-clause-closed
empty_one-requires-clause-closed g c =
    let h = c.requires.drawn in (c.loop-place.invariant.drawn h.0 h.1 h.2 h.3).1.closed

pub empty_one-requires-clause-whole : goal.empty_one-requires-clause-whole
empty_one-requires-clause-whole g c =
    let h = c.requires.drawn in (c.loop-place.invariant.drawn h.0 h.1 h.2 h.3).1.whole

pub empty_one-requires-clause-next : goal.empty_one-requires-clause-next
empty_one-requires-clause-next g c =
    let p = c.loop-place.place in
    let i = c.loop-place.invariant in
    let here : Joined _ = get_or c.loop-place.joined p c.index-joined-place.result in
    let there : slice_get c.loop-place.joined p ≡ Some here = slice_get-get_or c.loop-place.joined p c.index-joined-place.result (omega (arith, c.loop-place-test.true, i.count)) in
    let h = c.requires.drawn in
    ((i.drawn h.0 h.1 h.2 h.3).1.each p (given_in here) (map_at given_in c.loop-place.joined p here there)).next

pub empty_one-requires-clause-shape : goal.empty_one-requires-clause-shape
empty_one-requires-clause-shape g c =
    let p = c.loop-place.place in
    let i = c.loop-place.invariant in
    let here : Joined _ = get_or c.loop-place.joined p c.index-joined-place.result in
    let there : slice_get c.loop-place.joined p ≡ Some here = slice_get-get_or c.loop-place.joined p c.index-joined-place.result (omega (arith, c.loop-place-test.true, i.count)) in
    let h = c.requires.drawn in
    ((i.drawn h.0 h.1 h.2 h.3).1.each p (given_in here) (map_at given_in c.loop-place.joined p here there)).shape

pub empty_one-requires-clause-counted : goal.empty_one-requires-clause-counted
empty_one-requires-clause-counted g c =
    let p = c.loop-place.place in
    let i = c.loop-place.invariant in
    let here : Joined _ = get_or c.loop-place.joined p c.index-joined-place.result in
    let there : slice_get c.loop-place.joined p ≡ Some here = slice_get-get_or c.loop-place.joined p c.index-joined-place.result (omega (arith, c.loop-place-test.true, i.count)) in
    let h = c.requires.drawn in
    ((i.drawn h.0 h.1 h.2 h.3).1.each p (given_in here) (map_at given_in c.loop-place.joined p here there)).counted

pub empty_one-requires-clause-reached : goal.empty_one-requires-clause-reached
empty_one-requires-clause-reached g c =
    let p = c.loop-place.place in
    let i = c.loop-place.invariant in
    let here : Joined _ = get_or c.loop-place.joined p c.index-joined-place.result in
    let there : slice_get c.loop-place.joined p ≡ Some here = slice_get-get_or c.loop-place.joined p c.index-joined-place.result (omega (arith, c.loop-place-test.true, i.count)) in
    let b = item_at c.args.joined.now p (omega (arith, c.loop-place-test.true)) in
    (i.same p b.0 here b.1 there).0.reached

pub returns-in_err-empty_one-clause-same : goal.returns-in_err-empty_one-clause-same
returns-in_err-empty_one-clause-same g c =
    let p = c.loop-place.place in
    let i = c.loop-place.invariant in
    let here : Joined _ = get_or c.loop-place.joined p c.index-joined-place.result in
    let there : slice_get c.loop-place.joined p ≡ Some here = slice_get-get_or c.loop-place.joined p c.index-joined-place.result (omega (arith, c.loop-place-test.true, i.count)) in
    let new = c.empty_one.new.one in
    let P : Joined g.row.S.Denot → Joined g.row.S.Denot → Type 0 = λ b a. IsSameFeed b a in
    set_each P c.args.joined.now c.loop-place.joined p here new there (λ b k. feed_more b here new k c.empty_one.ensures.same) (λ q b a eb ea. (i.same q b a eb ea).0)

pub returns-in_err-empty_one-clause-cut : goal.returns-in_err-empty_one-clause-cut
returns-in_err-empty_one-clause-cut g c = λ streams base batches st.
    let p = c.loop-place.place in
    let i = c.loop-place.invariant in
    let here : Joined _ = get_or c.loop-place.joined p c.index-joined-place.result in
    let there : slice_get c.loop-place.joined p ≡ Some here = slice_get-get_or c.loop-place.joined p c.index-joined-place.result (omega (arith, c.loop-place-test.true, i.count)) in
    let k = i.drawn streams base batches st in
    let e = c.in_err-empty_one.ensures.cut streams base k.0 k.1.written in
    let now = c.empty_one.new.one in
    let P : List Given → Type 0 = λ lanes. IsCutOf streams base (g.K.Sink.held c.empty_one.new.writer.sink.now) lanes in
    on_err c.from_residual.result (subst P (map_set given_in c.loop-place.joined p now)
    (lanes_cut c.args.batch p streams base _ _ _ k.0 e.0 (map given_in c.loop-place.joined) (given_in here) (given_in now) k.1 (map_at given_in c.loop-place.joined p here there) e.1 e.2))

pub returns-in_err-empty_one-clause-memory : goal.returns-in_err-empty_one-clause-memory
returns-in_err-empty_one-clause-memory g c = λ is numbers.
    let p = c.loop-place.place in
    let i = c.loop-place.invariant in
    let here : Joined _ = get_or c.loop-place.joined p c.index-joined-place.result in
    let there : slice_get c.loop-place.joined p ≡ Some here = slice_get-get_or c.loop-place.joined p c.index-joined-place.result (omega (arith, c.loop-place-test.true, i.count)) in
    let b = item_at c.args.joined.now p (omega (arith, c.loop-place-test.true)) in
    let same = (i.same p b.0 here b.1 there).0.lane.shape in
    let few = numbers p (given_in b.0) (map_at given_in c.args.joined.now p b.0 b.1) in
    c.in_err-empty_one.ensures.memory (handed c.from_residual.result c.in_err-empty_one.field-0.0 _ c.from_residual.ensures.1 is) (subst (λ (x : Shape). 1 ≤ size_of x.format) (sym same) few)

pub loop-place-preserved : goal.loop-place-preserved
loop-place-preserved g c =
    let p = c.loop-place.place in
    let i = c.loop-place.invariant in
    let here : Joined _ = get_or c.loop-place.joined p c.index-joined-place.result in
    let there : slice_get c.loop-place.joined p ≡ Some here = slice_get-get_or c.loop-place.joined p c.index-joined-place.result (omega (arith, c.loop-place-test.true, i.count)) in
    let e = c.in_ok-empty_one.ensures in
    let now = c.empty_one.new.one in
    let P : Joined g.row.S.Denot → Joined g.row.S.Denot → Type 0 = λ b a. IsSameFeed b a × (a.lane.last.state.dropped ≡ b.lane.last.state.dropped) in
    record {
      drawn = λ streams base batches st.
          let k = i.drawn streams base batches st in
          let m = lanes_more c.args.batch p streams base _ _ _ _ k.0 (map given_in c.loop-place.joined) (given_in here) (given_in now) k.1 (map_at given_in c.loop-place.joined p here there) e.wrote e.same.lane.shape e.counted in
          let w = c.empty_one.new.writer in
          (m.0, subst (λ (lanes : List Given). AreDrawn c.args.batch streams base (g.K.Sink.held w.sink.now) w.room.desk m.0 lanes) (map_set given_in c.loop-place.joined p now) m.1);
      count = search rules;
      same = set_each P c.args.joined.now c.loop-place.joined p here now there (λ b k. (feed_more b here now k.0 e.same, e.dropped ∙ k.1)) i.same;
      empty = λ q after low eq. elim (set_cases c.loop-place.joined p q now after eq) [
        | inl k ↦ subst (λ (x : Joined g.row.S.Denot). x.lane.last.state.queue ≡ []) (sym k.1) e.empty
        | inr k ↦ i.empty q after (omega (arith, low, k.0)) k.1
      ];
      same_reference = e.same_reference ∙ i.same_reference;
      quiet = e.cause.quiet (λ f. absurd (cc f)) ∙ i.quiet;
      rest = e.rest ∙ i.rest;
    }

pub returns-clause-same : goal.returns-clause-same
returns-clause-same g c = λ p b a eb ea. (c.loop-place.invariant.same p b a eb ea).0

pub returns-clause-empty : goal.returns-clause-empty
returns-clause-empty g c = λ p b a eb ea.
    let i = c.loop-place.invariant in
    let low = slice_get_within c.loop-place.joined p a ea in
    (i.empty p a (omega (arith, low, c.loop-place-test.false, i.count)) ea, (i.same p b a eb ea).1)
