use Rattle.std.proofs.Common.{◌≡◌, ◌<◌, [], ◌∷◌, ◌++◌, length, map, drop, slice_get, Some, refl, sym, ap, ◌∙◌, append_assoc, arith, length-append, List}
use Rattle.std.proofs.lemmas.List.{append-nil}
use Rattle.std.proofs.lemmas.Option.{slice_get_read}
use Rattle.record_run.specs.Inlets.{InletView}
use Rattle.run_model.proofs.Lists.{cons_of}
use Rattle.record_run.proofs.turn_recorder.sources_of.Goals as goal

empty_of : {A : Type 0} (xs : List A) → length xs ≡ 0 → xs ≡ []
empty_of [] e = refl
empty_of (x ∷ xs) e = absurd (omega (arith, e))

pub loop-preserved : goal.loop-preserved
loop-preserved g c =
    let i = c.loop.invariant in
    let V = InletView g.row.S.Denot in
    let d : V = c.remove.result in
    let some : 0 < length c.loop.inlets.items = omega (arith, i.count, c.loop-test.true) in
    let first : slice_get c.loop.inlets.items 0 ≡ Some d = slice_get_read c.loop.inlets.items (length c.loop.inlets.items) 0 d refl some c.remove.ensures.value in
    let is : c.loop.inlets.items ≡ d ∷ drop 1 c.loop.inlets.items = cons_of c.loop.inlets.items d first in
    let f : V → g.row.S.Denot = λ x. x.source in
    let rest : c.remove.new.self.items ≡ drop 1 c.loop.inlets.items = c.remove.ensures.items in
    let new : c.push_reserved.new.self.items ≡ c.loop.sources.items ++ d.source ∷ [] = c.push_reserved.ensures.items ∙ ap (λ (s : g.row.S.Denot). c.loop.sources.items ++ s ∷ []) c.into_source.ensures in
    let long = ap length new ∙ length-append c.loop.sources.items (d.source ∷ []) in
    let whole : c.push_reserved.new.self.items ++ map f c.remove.new.self.items ≡ map f c.args.inlets.items =
    ap (λ (l : List g.row.S.Denot). l ++ map f c.remove.new.self.items) new
    ∙ ap (λ (l : List V). (c.loop.sources.items ++ d.source ∷ []) ++ map f l) rest
    ∙ append_assoc c.loop.sources.items (d.source ∷ []) (map f (drop 1 c.loop.inlets.items))
    ∙ ap (λ (l : List V). c.loop.sources.items ++ map f l) (sym is)
    ∙ i.whole in
    record {
      whole = whole;
      count = omega (arith, i.count, ap length is, ap length rest);
      size = omega (arith, long, i.size);
      room = omega (arith, i.room, c.push_reserved.ensures.capacity);
    }

pub returns : goal.returns
returns g c =
    let i = c.loop.invariant in
    let f : InletView g.row.S.Denot → g.row.S.Denot = λ x. x.source in
    let none : c.loop.inlets.items ≡ [] = empty_of c.loop.inlets.items (omega (arith, i.count, c.loop-test.false, c.loop.auto.counter-end)) in
    sym (append-nil c.loop.sources.items) ∙ ap (λ (l : List (InletView g.row.S.Denot)). c.loop.sources.items ++ map f l) (sym none) ∙ i.whole
