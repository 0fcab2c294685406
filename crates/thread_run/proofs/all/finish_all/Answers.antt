use Rattle.std.proofs.Common.{rules, ◌≡◌, ◌∷◌, [], List, length, drop, Some, slice_get, refl, sym, ap, ◌∙◌, arith, length-append}
use Rattle.std.specs.Prelude.{vec_len}
use Rattle.std.proofs.lemmas.Option.{slice_get_within}
use Rattle.run_model.proofs.Lists.{drop_next}
use Rattle.run_model.proofs.Lists.{item_at}
use Rattle.thread_run.specs.Work.{HasWorked}
use Rattle.thread_run.specs.Owes.{Owes}
use Rattle.thread_run.specs.declared.work.Work.{Work}
use Rattle.thread_run.specs.declared.work.Worked.{Worked}
use Rattle.thread_run.specs.declared.started.Started.{Started}
use Rattle.thread_run.proofs.Settling.{first_at, pairs_more}
use Rattle.thread_run.proofs.all.finish_all.Goals as goal

pub loop-init : goal.loop-init
loop-init g c = record {
  left = refl;
  count = ap length c.requires.none;
  room = refl;
  each = λ p s r es er. absurd (let none : slice_get [] p ≡ Some r = ap (λ (l : List (Worked _)). slice_get l p) (sym c.requires.none) ∙ er in cc);
}

pub loop-preserved : goal.loop-preserved
loop-preserved g c =
    let i = c.loop.invariant in
    let n = c.loop.counter in
    let size : vec_len c.args.started ≡ length c.args.started.items = search rules in
    let at = first_at _ c.args.started.items n c.remove-one.result i.left (omega (arith, c.loop-test.true, size)) c.remove-one.ensures.value in
    let items = c.push_reserved.ensures.items in
    let F : Started _ → Worked _ → Type 0 = λ s r. (w : Work _) → Owes g.S.Source.left g.S.Source.faults g.S.Source.mark w s → HasWorked g.S.Source.left g.S.Source.faults g.S.Source.mark w r in
    record {
      left = c.remove-one.ensures.items ∙ ap (drop 1) i.left ∙ drop_next n c.args.started.items;
      count = omega (arith, ap length items, length-append c.loop.worked.items (c.finish_one.result ∷ []), i.count);
      room = c.push_reserved.ensures.capacity ∙ i.room;
      each = λ p s r es er. pairs_more F c.args.started.items c.loop.worked.items n c.remove-one.result c.finish_one.result i.count at c.finish_one.ensures i.each p s r es (ap (λ (l : List (Worked _)). slice_get l p) (sym items) ∙ er);
    }

pub returns-clause-each : goal.returns-clause-each
returns-clause-each g c = λ works owes p w r ew er.
    let i = c.loop.invariant in
    let size : vec_len c.args.started ≡ length c.args.started.items = search rules in
    let s = item_at c.args.started.items p (omega (arith, slice_get_within c.loop.worked.items p r er, i.count, c.loop.auto.counter-end, size)) in
    i.each p s.0 r s.1 er w (owes p w s.0 ew s.1)
