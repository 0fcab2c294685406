use Rattle.std.proofs.Common.{◌≡◌, ◌<◌, [], ◌∷◌, ◌++◌, length, map, drop, slice_get, Some, refl, sym, ap, ◌∙◌, append_assoc, arith, length-append, List, rules}
use Rattle.std.specs.Prelude.{vec_len}
use Rattle.std.proofs.lemmas.List.{append-nil}
use Rattle.std.proofs.lemmas.Option.{slice_get_read}
use Rattle.run_model.proofs.Lists.{cons_of}
use Rattle.thread_run.specs.declared.settle.Joined.{Joined}
use Rattle.thread_run.proofs.Settling.{empty_of}
use Rattle.thread_run.proofs.conclude.close_all.Goals as goal

pub loop-preserved : goal.loop-preserved
loop-preserved g c =
    let i = c.loop.invariant in
    let V = Joined g.row.S.Denot in
    let d : V = c.remove.result in
    let old = c.loop.settled.items in
    let size : vec_len c.args.settled ≡ length c.args.settled.items = search rules in
    let some : 0 < length old = omega (arith, i.count, c.loop-test.true, size) in
    let first : slice_get old 0 ≡ Some d = slice_get_read old (length old) 0 d refl some c.remove.ensures.value in
    let is : old ≡ d ∷ drop 1 old = cons_of old d first in
    let f : V → g.row.S.Denot = λ s. s.reader.source in
    let rest : c.remove.new.self.items ≡ drop 1 old = c.remove.ensures.items in
    let new : c.push_reserved.new.self.items ≡ c.loop.sources.items ++ d.reader.source ∷ [] = c.push_reserved.ensures.items ∙ ap (λ (s : g.row.S.Denot). c.loop.sources.items ++ s ∷ []) c.close_one-source.ensures in
    let long = ap length new ∙ length-append c.loop.sources.items (d.reader.source ∷ []) in
    record {
      whole =
          ap (λ (l : List g.row.S.Denot). l ++ map f c.remove.new.self.items) new
          ∙ ap (λ (l : List V). (c.loop.sources.items ++ d.reader.source ∷ []) ++ map f l) rest
          ∙ append_assoc c.loop.sources.items (d.reader.source ∷ []) (map f (drop 1 old))
          ∙ ap (λ (l : List V). c.loop.sources.items ++ map f l) (sym is)
          ∙ i.whole;
      count = omega (arith, i.count, ap length is, ap length rest);
      size = omega (arith, long, i.size);
      room = c.push_reserved.ensures.capacity ∙ i.room;
    }

pub returns : goal.returns
returns g c =
    let i = c.loop.invariant in
    let f : Joined g.row.S.Denot → g.row.S.Denot = λ s. s.reader.source in
    let size : vec_len c.args.settled ≡ length c.args.settled.items = search rules in
    let none : c.loop.settled.items ≡ [] = empty_of c.loop.settled.items (omega (arith, i.count, c.loop-test.false, c.loop.auto.counter-end, size)) in
    sym (append-nil c.loop.sources.items) ∙ ap (λ (l : List (Joined g.row.S.Denot)). c.loop.sources.items ++ map f l) (sym none) ∙ i.whole
