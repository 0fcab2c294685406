use Rattle.std.proofs.Common.{◌≡◌, ◌∷◌, ◌++◌, [], map, slice_get, Some, sym, ap, ◌∙◌, subst, arith}
use Rattle.std.proofs.lemmas.List.{map-append}
use Rattle.loss_model.specs.Loss.{behind_last}
use Rattle.record_writer.specs.Desk.{next_at, shapes_of}
use Rattle.sample_ring.specs.Seen.{entry_in}
use Rattle.run_model.specs.Rings.{ring_entry}
use Rattle.run_model.proofs.Errors.{on_err}
use Rattle.feed_lane.specs.Lanes.{HeadView}
use Rattle.feed_lane.proofs.Telling.{behind_told, meets_full}
use Rattle.feed_lane.proofs.Putting.{block_put, block_cut}
use Rattle.feed_lane.proofs.block_head.BlockHead.put_oldest.Goals as goal

pub put_block-put-requires-clause-low : goal.put_block-put-requires-clause-low
put_block-put-requires-clause-low g c =
    let x = c.self.inside in
    let N : HeadView → Type 0 = λ h. next_at c.args.writer.now.room.desk c.args.place ≡ behind_last (map ring_entry h.taken) in
    let next = subst N (sym c.self.view_is) c.requires.next in
    omega (arith, next, behind_told x.shape x.head.taken c.in-Some.entry.position c.in-Some.ensures.above)

pub returns-in_err-put-clause-cut : goal.returns-in_err-put-clause-cut
returns-in_err-put-clause-cut g c = λ streams base batches current st.
    let x = c.self.inside in
    let b = c.in-Some.entry.value in
    let w = c.args.writer.now in
    let now = c.put_block-put.new.self in
    let f = entry_in x.shape in
    let e = c.in-Some.entry in
    let S : HeadView → Type 0 = λ h. slice_get (shapes_of w.room.desk) c.args.place ≡ Some h.lane.shape in
    let T : HeadView → Type 0 = λ h. map f c.take.new.self.taken ≡ h.taken ++ f e ∷ [] in
    on_err c.from_residual.result
    (block_cut c.args.place e.position x.shape b w.room.desk now.room.desk (g.K.Sink.held w.sink.now) (g.K.Sink.held now.sink.now) c.args.self.now.taken (map f c.take.new.self.taken)
    (subst T c.self.view_is (ap (map f) c.in-Some.ensures.taken ∙ map-append f x.head.taken (e ∷ []))) c.requires.free (subst S (sym c.self.view_is) c.requires.shape)
    (meets_full x.head.terms x.shape b c.self.invariant.1 c.in-Some.ensures.carried.value) c.in_err-put.ensures.cut streams base batches current st)

pub returns-clause-out : goal.returns-clause-out
returns-clause-out g c =
    let x = c.self.inside in
    let e = c.in-Some.entry in
    let w = c.args.writer.now in
    let now = c.put_block-put.new.self in
    let f = entry_in x.shape in
    let p = c.in_ok-put.ensures in
    let S : HeadView → Type 0 = λ h. slice_get (shapes_of w.room.desk) c.args.place ≡ Some h.lane.shape in
    let T : HeadView → Type 0 = λ h. map f c.take.new.self.taken ≡ h.taken ++ f e ∷ [] in (
      f e,
      subst T c.self.view_is (ap (map f) c.in-Some.ensures.taken ∙ map-append f x.head.taken (e ∷ [])),
      block_put c.args.place e.position x.shape e.value w.room.desk now.room.desk (g.K.Sink.held w.sink.now) (g.K.Sink.held now.sink.now) (subst S (sym c.self.view_is) c.requires.shape)
          (meets_full x.head.terms x.shape e.value c.self.invariant.1 c.in-Some.ensures.carried.value) p.put p.next p.shapes p.open.1 p.whole,
    )
