use Rattle.std.proofs.Common.{[], ◌∷◌, refl, sym, ap, subst, Err}
use Rattle.xdf_model.specs.Sample.{Sample}
use Rattle.inlet_ring.specs.Lone.{Lone}
use Rattle.record_run.specs.FeedRings.{IsTake}
use Rattle.record_writer.specs.Standing.{closed}
use Rattle.run_model.proofs.Batches.{cut_text}
use Rattle.record_run.proofs.Cutting.{cut_longer}
use Rattle.record_run.proofs.ring.put_texts.Goals as goal

pub returns-in-Ok-clause-out : goal.returns-in-Ok-clause-out
returns-in-Ok-clause-out g c =
    let e = c.in-Some.entry in
    let t = c.in-Some.ensures in
    let o = c.in-Ok.ensures in
    let take : IsTake c.args.ring.now c.take.new.self e = record { oldest = sym t.oldest; queue = t.queue; pushes = t.pushes; capacity = t.capacity; steps = t.steps } in
    let T : Lone Sample → Type 0 = λ r. IsTake c.args.ring.now r e in (
      e,
      subst T (sym c.give.ensures) take,
      record { put = o.put; next = o.next; shapes = o.shapes; place_is = o.open.1; whole = o.whole },
    )

pub returns-in-Err-clause-cut : goal.returns-in-Err-clause-cut
returns-in-Err-clause-cut g c = λ streams base batches current st.
    let e = c.in-Some.entry in
    let f = c.in-Err.ensures in
    let k = cut_text c.args.place e [] (e ∷ []) c.args.writer.now.room.desk (g.K.Sink.held c.args.writer.now.sink.now) (g.K.Sink.held c.put-put.new.self.sink.now) c.in-Err.fault refl c.requires.free
    (λ ss b bs o at is. f.cut ss b bs o at (ap Err is)) (λ is. ap g.K.Sink.held (f.memory (ap Err is)).1) streams base batches current st in
    (k.0, k.1, cut_longer c.args.place e c.args.ring.now.queue (closed batches current) k.0 (sym c.in-Some.ensures.oldest) k.2)
