use Rattle.std.proofs.Common.{rules, ◌≡◌, ℕ, ◌∷◌, ◌++◌, [], map, slice_get, Some, refl, sym, ap, ◌∙◌, subst, arith}
use Rattle.loss_model.specs.Loss.{behind_last}
use Rattle.record_writer.specs.Desk.{next_at, shapes_of}
use Rattle.run_model.specs.Rings.{ring_entry}
use Rattle.run_model.proofs.Lists.{nil_of}
use Rattle.feed_lane.specs.Lanes.{LastView, IsOneLess}
use Rattle.feed_lane.specs.Kinds.{text_last}
use Rattle.feed_lane.proofs.Telling.{behind_below, meets_fits, took, last_view}
use Rattle.feed_lane.proofs.Putting.{text_cut, text_fits}
use Rattle.feed_lane.proofs.text_last.TextLast.put_oldest.Goals as goal

pub returns-in_default-clause-out : goal.returns-in_default-clause-out
returns-in_default-clause-out g c =
    let x = c.self.inside in
    let t = c.in_default.ensures in
    let Q : LastView → Type 0 = λ l. l.state.queue ≡ [] in
    let V : LastView → Type 0 = λ l. text_last x.shape c.take.new.self ≡ l in
    let same : text_last x.shape c.take.new.self ≡ text_last x.shape x.last =
    ap (λ (n : ℕ). last_view x.shape n c.take.new.self.state) t.same.0 ∙ ap (last_view x.shape x.last.capacity) t.step in
    (subst Q c.self.view_is (nil_of x.last.state.queue (sym t.oldest)), subst V c.self.view_is same, refl, refl)

pub put-requires-clause-low : goal.put-requires-clause-low
put-requires-clause-low g c =
    let x = c.self.inside in
    let N : LastView → Type 0 = λ l. next_at c.args.writer.now.room.desk c.args.place ≡ behind_last (map ring_entry l.state.taken) in
    let next = subst N (sym c.self.view_is) c.requires.next in
    omega (arith, next, behind_below x.last.state.taken c.in-Some.entry.position c.in-Some.ensures.above)

pub put-requires-clause-fits : goal.put-requires-clause-fits
put-requires-clause-fits g c =
    let x = c.self.inside in
    let desk = c.args.writer.now.room.desk in
    let S : LastView → Type 0 = λ l. slice_get (shapes_of desk) c.args.place ≡ Some l.shape in
    text_fits desk.places c.args.place x.shape c.in-Some.entry.value (subst S (sym c.self.view_is) c.requires.shape) (meets_fits x.last.terms x.shape c.in-Some.entry.value c.self.invariant.1 c.in-Some.ensures.carried.value).0

pub returns-in_err-put-clause-cut : goal.returns-in_err-put-clause-cut
returns-in_err-put-clause-cut g c =
    let x = c.self.inside in
    let e = c.in-Some.entry in
    let t = c.in-Some.ensures in
    let k = took x.last.capacity x.last.state c.take.new.self.state e t.step t.oldest in
    let T : LastView → Type 0 = λ l. c.take.new.self.state.taken ≡ l.state.taken ++ e ∷ [] in
    text_cut c.args.place e c.args.self.now.state.taken c.take.new.self.state.taken c.args.writer.now.room.desk (g.K.Sink.held c.args.writer.now.sink.now) (g.K.Sink.held c.put.new.self.sink.now) c.from_residual.result
    (subst T c.self.view_is k.0) c.requires.free
    (λ streams base batches current st is. c.in_err-put.ensures.cut streams base batches current st (search rules))
    (λ is. let same = c.in_err-put.ensures.memory (search rules) in ap g.K.Sink.held same.1)

pub returns-clause-out : goal.returns-clause-out
returns-clause-out g c =
    let x = c.self.inside in
    let e = c.in-Some.entry in
    let t = c.in-Some.ensures in
    let p = c.in_ok-put.ensures in
    let k = took x.last.capacity x.last.state c.take.new.self.state e t.step t.oldest in
    let T : LastView → Type 0 = λ l. IsOneLess l (text_last x.shape c.take.new.self) e in (
      e,
      subst T c.self.view_is (record { capacity = t.same.0; shape = refl; puts = k.1; dropped = k.2; taken = k.0 }),
      record { put = p.put; next = p.next; shapes = p.shapes; place_is = p.open.1; whole = p.whole },
    )
