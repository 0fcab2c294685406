use Rattle.std.proofs.Common.{rules, ◌≡◌, ◌<◌, [], ◌∷◌, ◌++◌, List, length, map, drop, slice_get, refl, sym, ap, ◌∙◌, append_assoc, arith, length-append, length-drop}
use Rattle.std.specs.Prelude.{vec_len}
use Rattle.std.proofs.lemmas.Option.{slice_get_read}
use Rattle.halt_word.specs.Ends.{LookerView}
use Rattle.run_model.proofs.Lists.{cons_of, drop_next}
use Rattle.thread_run.specs.declared.lane.CountedHead.{CountedHead}
use Rattle.thread_run.specs.declared.settle.Joined.{Joined}
use Rattle.thread_run.specs.declared.work.Worked.{Worked}
use Rattle.thread_run.specs.Settled.{IsJoined}
use Rattle.thread_run.proofs.Settling.{first_at, triples_more}
use Rattle.thread_run.proofs.settle.join_all.Goals as goal

pub join_one-one-requires : goal.join_one-one-requires
join_one-one-requires g c =
    let i = c.loop.invariant in
    let n = c.loop.counter in
    let size : vec_len c.args.worked ≡ length c.args.worked.items = search rules in
    let low : n < length c.args.worked.items = omega (arith, c.loop-test.true, size) in
    let at = first_at _ c.args.worked.items n c.remove-inlet.result i.inlets low c.remove-inlet.ensures.value in
    let there = first_at _ c.args.heads.items n c.remove-head.result i.ends (omega (arith, low, c.requires.count)) c.remove-head.ensures.value in
    c.requires.lanes n c.remove-inlet.result c.remove-head.result at there

pub push-requires-clause-word : goal.push-requires-clause-word
push-requires-clause-word g c =
    let i = c.loop.invariant in
    let n = c.loop.counter in
    let size : vec_len c.args.worked ≡ length c.args.worked.items = search rules in
    let low : n < length c.args.worked.items = omega (arith, c.loop-test.true, size) in
    let at = first_at _ c.args.worked.items n c.remove-inlet.result i.inlets low c.remove-inlet.ensures.value in
    ap (λ (l : LookerView). l.word) c.join_one-one.ensures.looker ∙ c.requires.word n c.remove-inlet.result at ∙ sym i.word

pub loop-preserved : goal.loop-preserved
loop-preserved g c =
    let i = c.loop.invariant in
    let n = c.loop.counter in
    let V = Worked g.row.S.Denot in
    let all = c.args.worked.items in
    let old = c.loop.worked.items in
    let d : V = c.remove-inlet.result in
    let size : vec_len c.args.worked ≡ length all = search rules in
    let low : n < length all = omega (arith, c.loop-test.true, size) in
    let at = first_at _ all n d i.inlets low c.remove-inlet.ensures.value in
    let there = first_at _ c.args.heads.items n c.remove-head.result i.ends (omega (arith, low, c.requires.count)) c.remove-head.ensures.value in
    let some : 0 < length old = let long = ap length i.inlets in omega (arith, long, length-drop n all, low) in
    let is : old ≡ d ∷ drop 1 old = cons_of old d (slice_get_read old (length old) 0 d refl some c.remove-inlet.ensures.value) in
    let f : V → LookerView = λ w. w.looker in
    let before = c.loop.lookers.lookers in
    let new : c.push.new.self.lookers ≡ before ++ d.looker ∷ [] = c.push.ensures.lookers ∙ ap (λ (l : LookerView). before ++ l ∷ []) c.join_one-one.ensures.looker in
    let rest : c.remove-inlet.new.self.items ≡ drop 1 old = c.remove-inlet.ensures.items in
    let items = c.push_reserved.ensures.items in
    let F : V → CountedHead → Joined g.row.S.Denot → Type 0 = λ w h s. IsJoined w h s in
    record {
      inlets = rest ∙ ap (drop 1) i.inlets ∙ drop_next n all;
      ends = c.remove-head.ensures.items ∙ ap (drop 1) i.ends ∙ drop_next n c.args.heads.items;
      count = omega (arith, ap length items, length-append c.loop.joined.items (c.join_one-one.result.0 ∷ []), i.count);
      room = c.push_reserved.ensures.capacity ∙ i.room;
      word = c.push.ensures.same.0 ∙ i.word;
      space = c.push.ensures.same.1 ∙ i.space;
      size = omega (arith, ap length new, length-append before (d.looker ∷ []), i.size);
      looked =
          ap (λ (l : List LookerView). l ++ map f c.remove-inlet.new.self.items) new
          ∙ ap (λ (l : List V). (before ++ d.looker ∷ []) ++ map f l) rest
          ∙ append_assoc before (d.looker ∷ []) (map f (drop 1 old))
          ∙ ap (λ (l : List V). before ++ map f l) (sym is)
          ∙ i.looked;
      each = λ p w h s ew eh es.
          triples_more F all c.args.heads.items c.loop.joined.items n d c.remove-head.result c.join_one-one.result.0 i.count at there c.join_one-one.ensures.joined i.each p w h s ew eh (ap (λ (l : List (Joined _)). slice_get l p) (sym items) ∙ es);
    }
