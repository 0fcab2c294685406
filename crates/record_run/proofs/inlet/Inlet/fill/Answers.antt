use Rattle.std.proofs.Common.{◌≡◌, ℕ, ◌+◌, true, false, [], Option, None, Some, refl, sym, ap, ◌∙◌, subst, arith}
use Rattle.std.specs.Option.{is_some}
use Rattle.xdf_model.specs.Sample.{Sample}
use Rattle.inlet_ring.specs.Lone.{Lone}
use Rattle.record_run.specs.declared.ring.Given.TheVariants as given
use Rattle.record_run.specs.Inlets.{InletView, IsKept, IsFilled}
use Rattle.record_run.proofs.Filling.{Filling, kept_push, filling_none, filling_more, filled_over, filled_all, filled_end, gives_one, gives_end}
use Rattle.record_run.proofs.inlet.Inlet.fill.Goals as goal

some_of : {A : Type 0} (o : Option A) → is_some o ≡ true → (x : A) × (o ≡ Some x)
some_of None e = absurd cc
some_of (Some x) e = (x, refl)

none_of : {A : Type 0} (o : Option A) → is_some o ≡ false → o ≡ None
none_of None e = refl
none_of (Some x) e = absurd cc

pub returns-then-is_some-clause-filled : goal.returns-then-is_some-clause-filled
returns-then-is_some-clause-filled g c =
    let over = some_of c.self.inside.end (sym c.is_some.ensures ∙ c.if-is_some.true) in
    let P : InletView g.row.S.Denot → Type 0 = λ x. x.ring.queue ≡ [] → IsFilled g.S.Source.left g.S.Source.faults g.S.Source.mark c.args.batch x x in
    subst P c.self.view_is (λ empty. filled_over g.S.Source.left g.S.Source.faults g.S.Source.mark c.args.batch _ over.0 c.self.invariant.0 over.1 empty)

pub loop-init : goal.loop-init
loop-init g c =
    let goes = none_of c.self.inside.end (sym c.is_some.ensures ∙ c.if-is_some.false) in
    let i = c.self.inside in
    let now : InletView g.row.S.Denot = record { id = i.id; source = i.reader.source; inlet = i.reader.inlet; end = i.end; ring = i.ring.lone; drops = i.drops } in
    let P : InletView g.row.S.Denot → Type 0 = λ x. x.ring.queue ≡ [] → Filling g.S.Source.left g.S.Source.faults g.S.Source.mark x now 0 in
    record {
      kept = c.self.invariant.0;
      shape = c.self.invariant.1;
      same = ap (λ (x : InletView g.row.S.Denot). x.inlet.shape) c.self.view_is;
      goes = goes;
      filling = subst P c.self.view_is (filling_none g.S.Source.left g.S.Source.faults g.S.Source.mark now goes);
    }

pub loop-preserved : goal.loop-preserved
loop-preserved g c =
    let i = c.loop.invariant in
    let n = c.in-Sample.ensures in
    let x = c.loop.self-inside in
    let y = c.take_from.new in
    let one = gives_one x.reader.inlet.shape x.ring.lone y.self.lone x.reader.inlet y.reader.inlet (g.S.Source.left x.reader.source) (g.S.Source.left y.reader.source) c.in-Sample.drops n.given.0 n.given.1 n.given.2 n.given.3 n.given.4 in
    let P : ℕ → Type 0 = λ d. IsKept y.reader.inlet y.self.lone (x.drops + d) in
    record {
      kept = subst P (sym one.drops_is) (kept_push x.reader.inlet y.reader.inlet x.ring.lone y.self.lone one.sample x.drops i.kept one.push one.received n.same_shape.1 n.bounded);
      shape = n.shape ∙ i.shape ∙ sym n.same_shape.0;
      same = n.same_shape.0 ∙ i.same;
      goes = i.goes;
      filling = λ empty. filling_more g.S.Source.left g.S.Source.faults g.S.Source.mark c.args.self.now _ _ c.loop.counter one.sample i.kept.low (i.filling empty) (record {
        answer = one.answer;
        fits = one.fits;
        shape = n.same_shape.0;
        marked = n.marked;
        quiet = n.cause.quiet (λ h. absurd (cc h.1));
        id = refl;
        push = one.push;
        drops = ap (λ (d : ℕ). x.drops + d) one.drops_is;
      });
    }

pub returns-in-End-clause-filled : goal.returns-in-End-clause-filled
returns-in-End-clause-filled g c =
    let i = c.loop.invariant in
    let n = c.in-End.ensures in
    let k = i.kept in
    let x = c.loop.self-inside in
    let y = c.take_from.new in
    let e = gives_end x.reader.inlet.shape x.ring.lone y.self.lone x.reader.inlet y.reader.inlet (g.S.Source.left x.reader.source) (g.S.Source.left y.reader.source) c.in-End.end n.given.0 n.given.1 n.given.2 n.given.4 in
    let P : Lone Sample → Type 0 = λ r. IsKept y.reader.inlet r x.drops in
    λ empty. filled_end g.S.Source.left g.S.Source.faults g.S.Source.mark c.args.batch c.loop.counter c.args.self.now _ _ c.in-End.end
    (subst P (sym e.0) (record { low = k.low; received = e.2 ∙ k.received; counted = n.same_shape.1 ∙ k.counted; bounded = k.bounded; within = k.within; few = k.few }))
    (omega (arith, c.loop-test.true))
    (i.filling empty)
    (record {
      answer = e.1;
      cause = record { later = n.cause.later; rose = λ k. n.cause.rose (k.0, ap given.End k.1); quiet = λ other. n.cause.quiet (λ k. other (k.0, cc k.1)) };
      shape = n.same_shape.0;
      marked = n.marked;
      id = refl;
      ring = e.0;
      drops = refl;
      over = refl;
    })

pub returns-clause-filled : goal.returns-clause-filled
returns-clause-filled g c =
    let i = c.loop.invariant in
    let all : c.loop.counter ≡ c.args.batch = omega (arith, c.loop-test.false, c.loop.auto.counter-end) in
    let x = c.loop.self-inside in
    let now : InletView g.row.S.Denot = record { id = x.id; source = x.reader.source; inlet = x.reader.inlet; end = x.end; ring = x.ring.lone; drops = x.drops } in
    let P : ℕ → Type 0 = λ n. Filling g.S.Source.left g.S.Source.faults g.S.Source.mark c.args.self.now now n in
    λ empty. filled_all g.S.Source.left g.S.Source.faults g.S.Source.mark c.args.batch c.args.self.now now i.kept i.goes (subst P all (i.filling empty))
