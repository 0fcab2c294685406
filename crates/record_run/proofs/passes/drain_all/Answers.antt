use Rattle.std.proofs.Common.{rules, ◌≡◌, ◌≤◌, ◌+◌, inl, inr, ℕ, suc, List, ◌++◌, map, take, slice_get, get_or, Some, subst, sym, ap, ◌∙◌, arith, append_assoc}
use Rattle.std.proofs.lemmas.Option.{slice_get_within, slice_get-get_or}
use Rattle.std.proofs.lemmas.List.{take_all}
use Rattle.recording_model.specs.Batch.{Batch}
use Rattle.turns_model.specs.Turns.{batch_of}
use Rattle.record_writer.specs.Desk.{next_at}
use Rattle.record_writer.specs.Standing.{IsClosed}
use Rattle.run_model.specs.Rings.{ring_entry}
use Rattle.std.proofs.lemmas.List.{length-map}
use Rattle.xdf_model.specs.declared.types.Shape.{Shape}
use Rattle.record_writer.specs.declared.place.Place.{Place}
use Rattle.run_model.proofs.Errors.{handed}
use Rattle.record_run.specs.Inlets.{InletView, AreWaiting, IsDrained, waiting_batches}
use Rattle.run_model.proofs.Lists.{set_cases, set_else, same_or}
use Rattle.run_model.proofs.Errors.{on_err}
use Rattle.record_run.proofs.Rounds.{waiting_more}
use Rattle.record_run.proofs.Cutting.{cut_queues}
use Rattle.record_run.proofs.passes.drain_all.Goals as goal

pub returns-in_err-drain-clause-cut : goal.returns-in_err-drain-clause-cut
returns-in_err-drain-clause-cut g c = λ streams base batches stands.
    let i = c.loop-place.invariant in
    let p = c.loop-place.place in
    let here = get_or c.loop-place.inlets p c.index-inlets-place.result in
    let there : slice_get c.loop-place.inlets p ≡ Some here = slice_get-get_or c.loop-place.inlets p c.index-inlets-place.result (omega (arith, c.loop-place-test.true, i.count)) in
    let at : slice_get c.args.inlets.now p ≡ Some here = sym (i.todo p (omega arith)) ∙ there in
    let k = c.in_err-drain.ensures.cut streams base (batches ++ waiting_batches 0 (take p c.args.inlets.now)) (i.put streams base batches stands) in
    on_err c.from_residual.result (cut_queues c.args.inlets.now batches k.0 p streams base _ here at k.1 k.2)

pub loop-place-preserved : goal.loop-place-preserved
loop-place-preserved g c =
    let i = c.loop-place.invariant in
    let p = c.loop-place.place in
    let e = c.in_ok-drain.ensures in
    let V = InletView g.row.S.Denot in
    let here : V = get_or c.loop-place.inlets p c.index-inlets-place.result in
    let there : slice_get c.loop-place.inlets p ≡ Some here = slice_get-get_or c.loop-place.inlets p c.index-inlets-place.result (omega (arith, c.loop-place-test.true, i.count)) in
    let at : slice_get c.args.inlets.now p ≡ Some here = sym (i.todo p (omega arith)) ∙ there in
    let one : p + 1 ≡ suc p = omega arith in
    let own = map ring_entry here.ring.queue in
    let at_place : 0 + p ≡ p = omega arith in
    let more = ap (λ (n : ℕ). waiting_batches 0 (take n c.args.inlets.now)) one ∙ waiting_more 0 p c.args.inlets.now here at
    ∙ ap (λ (n : ℕ). waiting_batches 0 (take p c.args.inlets.now) ++ batch_of n own) at_place in
    record {
      same_reference = e.same_reference ∙ i.same_reference;
      count = search rules;
      done = λ q x y low before now. elim (set_cases c.loop-place.inlets p q c.drain.new.self y now) [
        | inl k ↦ let same : x ≡ here = cc (before, at, k.0) in
            subst (λ (z : V). IsDrained z y) (sym same) (subst (λ (z : V). IsDrained here z) (sym k.1) e.drained)
        | inr k ↦ i.done q x y (omega (arith, low, k.0)) before k.1
      ];
      todo = λ q le. set_else c.loop-place.inlets p q c.drain.new.self (λ h. omega (arith, h, le)) ∙ i.todo q (omega (arith, le));
      closed = e.closed;
      whole = e.whole;
      shapes = e.shapes ∙ i.shapes;
      put = λ streams base batches stands.
          let done = waiting_batches 0 (take p c.args.inlets.now) in
          let P : List Batch → Type 0 = λ bs. IsClosed streams base (g.K.Sink.held c.drain.new.writer.sink.now) c.drain.new.writer.room.desk bs in
          subst P (append_assoc batches done (batch_of p own) ∙ ap (λ (bs : List Batch). batches ++ bs) (sym more)) (e.put streams base (batches ++ done) (i.put streams base batches stands));
      next = λ q x low before. elim (same_or q p) [
        | inl k ↦ let same : here ≡ x = cc (before, at, k) in
            subst (λ (n : ℕ). next_at c.drain.new.writer.room.desk n ≤ x.ring.pushes) (sym k) (subst (λ (z : V). next_at c.drain.new.writer.room.desk p ≤ z.ring.pushes) same e.next_here)
        | inr k ↦ subst (λ (n : ℕ). n ≤ x.ring.pushes) (sym (e.next_else q k)) (i.next q x (omega (arith, low, k)) before)
      ];
      low = λ q le. e.next_else q (λ h. omega (arith, h, le)) ∙ i.low q (omega (arith, le));
      quiet = e.cause.quiet (λ f. absurd (cc f)) ∙ i.quiet;
      rest = e.rest ∙ i.rest;
    }

pub returns-clause-drained : goal.returns-clause-drained
returns-clause-drained g c = λ p x y before now.
    c.loop-place.invariant.done p x y (omega (arith, slice_get_within c.args.inlets.now p x before, c.loop-place-test.false)) before now

pub returns-clause-put : goal.returns-clause-put
returns-clause-put g c = λ streams base batches stands.
    let P : List (InletView g.row.S.Denot) → Type 0 = λ l. IsClosed streams base (g.K.Sink.held c.loop-place.writer.sink.now) c.loop-place.writer.room.desk (batches ++ waiting_batches 0 l) in
    subst P (take_all c.loop-place.place c.args.inlets.now c.loop-place-test.false) (c.loop-place.invariant.put streams base batches stands)

pub drain-requires-clause-shape : goal.drain-requires-clause-shape
drain-requires-clause-shape g c =
    let i = c.loop-place.invariant in
    let p = c.loop-place.place in
    let here = get_or c.loop-place.inlets p c.index-inlets-place.result in
    let there : slice_get c.loop-place.inlets p ≡ Some here = slice_get-get_or c.loop-place.inlets p c.index-inlets-place.result (omega (arith, c.loop-place-test.true, i.count)) in
    let w = c.requires.waiting p here (sym (i.todo p (omega arith)) ∙ there) in
    ap (λ (l : List Shape). slice_get l p) i.shapes ∙ w.0

pub drain-requires-clause-place : goal.drain-requires-clause-place
drain-requires-clause-place g c =
    let i = c.loop-place.invariant in
    let p = c.loop-place.place in
    let f : Place → Shape = λ x. x.shape in
    let places = c.loop-place.writer.room.desk.places in
    let here = get_or c.loop-place.inlets p c.index-inlets-place.result in
    let there : slice_get c.loop-place.inlets p ≡ Some here = slice_get-get_or c.loop-place.inlets p c.index-inlets-place.result (omega (arith, c.loop-place-test.true, i.count)) in
    let w = c.requires.waiting p here (sym (i.todo p (omega arith)) ∙ there) in
    let at : slice_get (map f places) p ≡ Some here.inlet.shape = ap (λ (l : List Shape). slice_get l p) i.shapes ∙ w.0 in
    omega (arith, slice_get_within (map f places) p here.inlet.shape at, length-map places f)

pub drain-requires-clause-waiting : goal.drain-requires-clause-waiting
drain-requires-clause-waiting g c =
    let i = c.loop-place.invariant in
    let p = c.loop-place.place in
    let here = get_or c.loop-place.inlets p c.index-inlets-place.result in
    let there : slice_get c.loop-place.inlets p ≡ Some here = slice_get-get_or c.loop-place.inlets p c.index-inlets-place.result (omega (arith, c.loop-place-test.true, i.count)) in
    let w = c.requires.waiting p here (sym (i.todo p (omega arith)) ∙ there) in
    subst (λ (n : ℕ). AreWaiting here.inlet.shape n here) (sym (i.low p (omega arith))) w.1

pub returns-in_err-drain-clause-memory : goal.returns-in_err-drain-clause-memory
returns-in_err-drain-clause-memory g c = λ e numeric.
    let i = c.loop-place.invariant in
    let p = c.loop-place.place in
    let here = get_or c.loop-place.inlets p c.index-inlets-place.result in
    let there : slice_get c.loop-place.inlets p ≡ Some here = slice_get-get_or c.loop-place.inlets p c.index-inlets-place.result (omega (arith, c.loop-place-test.true, i.count)) in
    c.in_err-drain.ensures.memory (handed c.from_residual.result c.in_err-drain.field-0.0 _ c.from_residual.ensures.1 e) (numeric p here (sym (i.todo p (omega arith)) ∙ there))

pub returns-clause-next : goal.returns-clause-next
returns-clause-next g c = λ p x before.
    c.loop-place.invariant.next p x (omega (arith, slice_get_within c.args.inlets.now p x before, c.loop-place-test.false)) before
