use Rattle.std.proofs.Common.{◌≡◌, ℕ, ◌∷◌, ◌++◌, [], map, slice_get, Some, refl, sym, ap, ◌∙◌, subst, arith}
use Rattle.std.proofs.lemmas.List.{map-append}
use Rattle.ring_model.specs.Ring.{RingState}
use Rattle.loss_model.specs.Loss.{behind_last}
use Rattle.record_writer.specs.Desk.{next_at, shapes_of}
use Rattle.sample_pool.specs.Block.{BlockValue}
use Rattle.sample_ring.specs.Seen.{entry_in}
use Rattle.run_model.specs.Rings.{ring_entry}
use Rattle.run_model.proofs.Lists.{nil_of}
use Rattle.run_model.proofs.Errors.{on_err}
use Rattle.feed_lane.specs.Lanes.{LastView, IsOneLess}
use Rattle.feed_lane.specs.Kinds.{told_by, told_state, block_last}
use Rattle.feed_lane.proofs.Telling.{behind_told, meets_full, reached_told, took, last_view}
use Rattle.feed_lane.proofs.Putting.{block_put, block_cut}
use Rattle.feed_lane.proofs.block_last.BlockLast.put_oldest.Goals as goal

pub returns-in_default-clause-out : goal.returns-in_default-clause-out
returns-in_default-clause-out g c =
    let x = c.self.inside in
    let t = c.in_default.ensures in
    let none = ap (map (entry_in x.shape)) (nil_of x.last.state.queue (sym t.oldest)) in
    let Q : LastView → Type 0 = λ l. l.state.queue ≡ [] in
    let V : LastView → Type 0 = λ l. block_last x.shape c.take.new.self ≡ l in
    let same : block_last x.shape c.take.new.self ≡ block_last x.shape x.last =
    ap (λ (n : ℕ). last_view x.shape n (told_state x.shape c.take.new.self.state)) t.same.0
    ∙ ap (λ (s : RingState BlockValue). last_view x.shape x.last.capacity (told_state x.shape s)) t.step in
    (subst Q c.self.view_is none, subst V c.self.view_is same, refl, refl)

pub put_block-put-requires-clause-low : goal.put_block-put-requires-clause-low
put_block-put-requires-clause-low g c =
    let x = c.self.inside in
    let N : LastView → Type 0 = λ l. next_at c.args.writer.now.room.desk c.args.place ≡ behind_last (map ring_entry l.state.taken) in
    let next = subst N (sym c.self.view_is) c.requires.next in
    omega (arith, next, behind_told x.shape x.last.state.taken c.in-Some.entry.position c.in-Some.ensures.above)

pub returns-in_err-put-clause-reached : goal.returns-in_err-put-clause-reached
returns-in_err-put-clause-reached g c = reached_told c.self.inside.shape c.take.new.self.capacity c.take.new.self.state c.in-Some.ensures.reached

pub returns-in_err-put-clause-cut : goal.returns-in_err-put-clause-cut
returns-in_err-put-clause-cut g c = λ streams base batches current st.
    let x = c.self.inside in
    let b = c.in-Some.entry.value in
    let w = c.args.writer.now in
    let now = c.put_block-put.new.self in
    let f = entry_in x.shape in
    let e = c.in-Some.entry in
    let t = c.in-Some.ensures in
    let k = took x.last.capacity x.last.state c.take.new.self.state e t.step t.oldest in
    let S : LastView → Type 0 = λ l. slice_get (shapes_of w.room.desk) c.args.place ≡ Some l.shape in
    let T : LastView → Type 0 = λ l. map f c.take.new.self.state.taken ≡ l.state.taken ++ f e ∷ [] in
    on_err c.from_residual.result
    (block_cut c.args.place e.position x.shape b w.room.desk now.room.desk (g.K.Sink.held w.sink.now) (g.K.Sink.held now.sink.now) c.args.self.now.state.taken (map f c.take.new.self.state.taken)
    (subst T c.self.view_is (ap (map f) k.0 ∙ map-append f x.last.state.taken (e ∷ []))) c.requires.free (subst S (sym c.self.view_is) c.requires.shape)
    (meets_full x.last.terms x.shape b c.self.invariant.1 c.in-Some.ensures.carried.value) c.in_err-put.ensures.cut streams base batches current st)

pub returns-clause-reached : goal.returns-clause-reached
returns-clause-reached g c = reached_told c.self.inside.shape c.take.new.self.capacity c.take.new.self.state c.in-Some.ensures.reached

pub returns-clause-out : goal.returns-clause-out
returns-clause-out g c =
    let x = c.self.inside in
    let e = c.in-Some.entry in
    let w = c.args.writer.now in
    let now = c.put_block-put.new.self in
    let f = entry_in x.shape in
    let t = c.in-Some.ensures in
    let p = c.in_ok-put.ensures in
    let k = took x.last.capacity x.last.state c.take.new.self.state e t.step t.oldest in
    let S : LastView → Type 0 = λ l. slice_get (shapes_of w.room.desk) c.args.place ≡ Some l.shape in
    let T : LastView → Type 0 = λ l. IsOneLess l (block_last x.shape c.take.new.self) (f e) in (
      f e,
      subst T c.self.view_is (record {
        capacity = t.same.0;
        shape = refl;
        puts = ap (told_by x.shape) k.1;
        dropped = ap (map f) k.2;
        taken = ap (map f) k.0 ∙ map-append f x.last.state.taken (e ∷ []);
      }),
      block_put c.args.place e.position x.shape e.value w.room.desk now.room.desk (g.K.Sink.held w.sink.now) (g.K.Sink.held now.sink.now) (subst S (sym c.self.view_is) c.requires.shape)
          (meets_full x.last.terms x.shape e.value c.self.invariant.1 t.carried.value) p.put p.next p.shapes p.open.1 p.whole,
    )
