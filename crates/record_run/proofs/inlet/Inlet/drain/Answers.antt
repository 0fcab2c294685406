use Rattle.std.proofs.Common.{Bool, Result, Ok, Err, refl, sym, ap, ◌∙◌, subst, arith, length, length-drop}
use Rattle.std.specs.Prelude.{OnOk, Option, List, ℕ}
use Rattle.xdf_model.specs.declared.types.Shape.{Shape}
use Rattle.record_writer.specs.Desk.{DeskState}
use Rattle.inlet_ring.specs.Lone.{Lone}
use Rattle.xdf_model.specs.Sample.{Sample}
use Rattle.record_run.specs.FeedRings.{IsOut}
use Rattle.run_model.specs.Putting.{IsTakenAt}
use Rattle.record_run.specs.Inlets.{InletView}
use Rattle.run_model.proofs.Errors.{on_err}
use Rattle.record_run.proofs.Draining.{Draining, draining_none, draining_more, taken_at, closed_so, drained_all}
use Rattle.record_run.proofs.Cutting.{cut_one, cut_so}
use Rattle.record_run.proofs.inlet.Inlet.drain.Goals as goal

on_ok : {T E : Type 0} (r : Result T E) (P : Type 0) → P → OnOk r P
on_ok (Ok x) P p = p
on_ok (Err e) P p = tt

pub entries-init : goal.entries-init
entries-init g c =
    let i = c.self.inside in
    let w = c.args.writer.now in
    let now : InletView g.row.S.Denot = record { id = i.id; source = i.reader.source; inlet = i.reader.inlet; end = i.end; ring = i.ring.lone; drops = i.drops } in
    let P : InletView g.row.S.Denot → Type 0 = λ y. Draining c.args.place c.args.self.now y w.room.desk w.room.desk (g.K.Sink.held w.sink.now) (g.K.Sink.held w.sink.now) in
    record {
      kept = c.self.invariant.0;
      own = c.self.invariant.1 ∙ ap (λ (x : InletView g.row.S.Denot). x.inlet.shape) c.self.view_is;
      reads = c.self.invariant.1;
      draining = subst P (sym c.self.view_is) (draining_none c.args.place c.args.self.now w.room.desk (g.K.Sink.held w.sink.now) c.args.self.now.inlet.shape c.requires.shape c.requires.waiting c.requires.closed c.requires.whole);
      same_reference = refl;
      quiet = refl;
      rest = refl;
    }

pub put_oldest-requires-clause-taken : goal.put_oldest-requires-clause-taken
put_oldest-requires-clause-taken g c = λ e oldest.
    let i = c.entries.invariant in
    let desk = c.entries.writer.room.desk in
    subst (λ (s : Shape). IsTakenAt desk c.args.place s e) (sym i.own)
    (taken_at c.args.place c.args.self.now.inlet.shape c.args.self.now _ _ desk _ _ i.draining c.requires.shape (omega (arith, i.kept.bounded)) e oldest)

pub invariant_of-self : goal.invariant_of-self
invariant_of-self g c =
    let i = c.entries.invariant in
    let k = i.kept in
    let s = c.put_oldest.ensures.fewer in (
      record {
        low = omega (arith, k.low, s.0);
        received = k.received ∙ sym s.1;
        counted = k.counted;
        bounded = omega (arith, k.bounded, s.1);
        within = omega (arith, k.within, s.1, s.2);
        few = omega (arith, k.few, s.0, s.1);
      },
      c.put_oldest.ensures.shape ∙ i.reads,
    )

pub returns-in_err-put_oldest-clause-cut : goal.returns-in_err-put_oldest-clause-cut
returns-in_err-put_oldest-clause-cut g c = λ streams base batches st.
    on_err c.from_residual.result
    (cut_one c.args.place c.args.self.now _ _ _ _ _ _ c.put_oldest.result c.in_err-put_oldest.field-0.0 c.in_err-put_oldest.was c.entries.invariant.draining c.put_oldest.ensures.cut streams base batches st)

pub entries-preserved : goal.entries-preserved
entries-preserved g c =
    let i = c.entries.invariant in
    let x = c.entries.self-inside in
    let y = c.put_oldest.new in
    let O : Bool → Type 0 = λ b. IsOut x.ring.lone y.self.lone c.args.place c.entries.writer.room.desk y.writer.room.desk (g.K.Sink.held c.entries.writer.sink.now) (g.K.Sink.held y.writer.sink.now) b in
    let o = subst O c.if-branch.true c.in_ok-put_oldest.ensures.out in
    let k = i.kept in
    let t = o.1 in
    let p = c.put_oldest.ensures in
    let less = length-drop 1 x.ring.lone.queue in
    record {
      kept = record {
        low = omega (arith, k.low, t.capacity);
        received = k.received ∙ sym t.pushes;
        counted = k.counted;
        bounded = omega (arith, k.bounded, t.pushes);
        within = omega (arith, k.within, t.pushes, ap length t.queue, less);
        few = omega (arith, k.few, t.pushes, t.capacity);
      };
      own = p.shape ∙ i.own;
      reads = p.shape ∙ i.reads;
      draining = draining_more c.args.place c.args.self.now _ _ c.args.writer.now.room.desk c.entries.writer.room.desk y.writer.room.desk _ (g.K.Sink.held c.entries.writer.sink.now) _ o.0 i.draining t
          (record { id = refl; source = refl; inlet = refl; end = refl; drops = refl; pushes = t.pushes; capacity = t.capacity }) o.2;
      same_reference = p.same_reference ∙ i.same_reference;
      quiet = c.in_ok-put_oldest.ensures.cause.quiet (λ f. absurd (cc f)) ∙ i.quiet;
      rest = p.rest ∙ i.rest;
    }

pub returns-clause-put : goal.returns-clause-put
returns-clause-put g c =
    let x = c.entries.self-inside in
    let y = c.put_oldest.new in
    let now : InletView g.row.S.Denot = record { id = x.id; source = x.reader.source; inlet = x.reader.inlet; end = x.end; ring = x.ring.lone; drops = x.drops } in
    let O : Bool → Type 0 = λ b. IsOut x.ring.lone y.self.lone c.args.place c.entries.writer.room.desk y.writer.room.desk (g.K.Sink.held c.entries.writer.sink.now) (g.K.Sink.held y.writer.sink.now) b in
    let o = subst O c.if-branch.false c.in_ok-put_oldest.ensures.out in
    let before = c.args.writer.now.room.desk in
    let base_held = g.K.Sink.held c.args.writer.now.sink.now in
    let D : DeskState → Type 0 = λ d. Draining c.args.place c.args.self.now now before d base_held (g.K.Sink.held c.entries.writer.sink.now) in
    let H : Option (List ℕ) → Type 0 = λ h. Draining c.args.place c.args.self.now now before y.writer.room.desk base_held h in
    let d = subst H (sym o.3) (subst D (sym o.2) c.entries.invariant.draining) in
    closed_so c.args.place c.args.self.now now before y.writer.room.desk c.close_batch.new.self.room.desk base_held (g.K.Sink.held y.writer.sink.now) (g.K.Sink.held c.close_batch.new.self.sink.now) c.close_batch.result d o.0 c.close_batch.ensures.closed

pub returns-clause-cut : goal.returns-clause-cut
returns-clause-cut g c =
    let x = c.entries.self-inside in
    let y = c.put_oldest.new in
    let now : InletView g.row.S.Denot = record { id = x.id; source = x.reader.source; inlet = x.reader.inlet; end = x.end; ring = x.ring.lone; drops = x.drops } in
    let O : Bool → Type 0 = λ b. IsOut x.ring.lone y.self.lone c.args.place c.entries.writer.room.desk y.writer.room.desk (g.K.Sink.held c.entries.writer.sink.now) (g.K.Sink.held y.writer.sink.now) b in
    let o = subst O c.if-branch.false c.in_ok-put_oldest.ensures.out in
    let before = c.args.writer.now.room.desk in
    let base_held = g.K.Sink.held c.args.writer.now.sink.now in
    let D : DeskState → Type 0 = λ d. Draining c.args.place c.args.self.now now before d base_held (g.K.Sink.held c.entries.writer.sink.now) in
    let H : Option (List ℕ) → Type 0 = λ h. Draining c.args.place c.args.self.now now before y.writer.room.desk base_held h in
    let d = subst H (sym o.3) (subst D (sym o.2) c.entries.invariant.draining) in
    cut_so c.args.place c.args.self.now now before y.writer.room.desk base_held (g.K.Sink.held y.writer.sink.now) (g.K.Sink.held c.close_batch.new.self.sink.now) c.close_batch.result d o.0 c.close_batch.ensures.cut

pub returns-clause-drained : goal.returns-clause-drained
returns-clause-drained g c =
    let x = c.entries.self-inside in
    let y = c.put_oldest.new in
    let O : Bool → Type 0 = λ b. IsOut x.ring.lone y.self.lone c.args.place c.entries.writer.room.desk y.writer.room.desk (g.K.Sink.held c.entries.writer.sink.now) (g.K.Sink.held y.writer.sink.now) b in
    let o = subst O c.if-branch.false c.in_ok-put_oldest.ensures.out in
    on_ok c.close_batch.result _ (drained_all c.args.place c.args.self.now _ _ _ _ _ _ c.entries.invariant.draining o.0 o.1
    (record { id = refl; source = refl; inlet = refl; end = refl; drops = refl; pushes = ap (λ (r : Lone Sample). r.pushes) o.1; capacity = ap (λ (r : Lone Sample). r.capacity) o.1 }))
