use Rattle.std.proofs.Common.{rules, ◌≡◌, ◌∷◌, ◌++◌, [], map, slice_get, Some, sym, ap, subst, arith}
use Rattle.loss_model.specs.Loss.{behind_last}
use Rattle.record_writer.specs.Desk.{next_at, shapes_of}
use Rattle.run_model.specs.Rings.{ring_entry}
use Rattle.feed_lane.specs.Lanes.{HeadView}
use Rattle.feed_lane.proofs.Telling.{behind_below, meets_fits}
use Rattle.feed_lane.proofs.Putting.{text_cut, text_fits}
use Rattle.feed_lane.proofs.text_head.TextHead.put_oldest.Goals as goal

pub put-requires-clause-low : goal.put-requires-clause-low
put-requires-clause-low g c =
    let x = c.self.inside in
    let N : HeadView → Type 0 = λ h. next_at c.args.writer.now.room.desk c.args.place ≡ behind_last (map ring_entry h.taken) in
    let next = subst N (sym c.self.view_is) c.requires.next in
    omega (arith, next, behind_below x.head.taken c.in-Some.entry.position c.in-Some.ensures.above)

pub put-requires-clause-fits : goal.put-requires-clause-fits
put-requires-clause-fits g c =
    let x = c.self.inside in
    let desk = c.args.writer.now.room.desk in
    let S : HeadView → Type 0 = λ h. slice_get (shapes_of desk) c.args.place ≡ Some h.lane.shape in
    text_fits desk.places c.args.place x.shape c.in-Some.entry.value (subst S (sym c.self.view_is) c.requires.shape) (meets_fits x.head.terms x.shape c.in-Some.entry.value c.self.invariant.1 c.in-Some.ensures.carried.value).0

pub returns-in_err-put-clause-cut : goal.returns-in_err-put-clause-cut
returns-in_err-put-clause-cut g c =
    let e = c.in-Some.entry in
    let T : HeadView → Type 0 = λ h. c.take.new.self.taken ≡ h.taken ++ e ∷ [] in
    text_cut c.args.place e c.args.self.now.taken c.take.new.self.taken c.args.writer.now.room.desk (g.K.Sink.held c.args.writer.now.sink.now) (g.K.Sink.held c.put.new.self.sink.now) c.from_residual.result
    (subst T c.self.view_is c.in-Some.ensures.taken) c.requires.free
    (λ streams base batches current st is. c.in_err-put.ensures.cut streams base batches current st (search rules))
    (λ is. let same = c.in_err-put.ensures.memory (search rules) in ap g.K.Sink.held same.1)

pub returns-clause-out : goal.returns-clause-out
returns-clause-out g c =
    let e = c.in-Some.entry in
    let p = c.in_ok-put.ensures in
    let T : HeadView → Type 0 = λ h. c.take.new.self.taken ≡ h.taken ++ e ∷ [] in
    (e, subst T c.self.view_is c.in-Some.ensures.taken, record { put = p.put; next = p.next; shapes = p.shapes; place_is = p.open.1; whole = p.whole })
