use Rattle.std.proofs.Common.{rules, ◌≡◌, ◌∷◌, [], List, length, drop, Some, slice_get, refl, sym, ap, ◌∙◌, arith, length-append}
use Rattle.std.specs.Prelude.{vec_len}
use Rattle.run_model.proofs.Lists.{drop_next}
use Rattle.thread_run.specs.Owes.{Owes}
use Rattle.thread_run.specs.declared.work.Work.{Work}
use Rattle.thread_run.specs.declared.started.Started.{Started}
use Rattle.thread_run.proofs.Settling.{first_at, pairs_more}
use Rattle.thread_run.proofs.all.start_all.Goals as goal

pub loop-init : goal.loop-init
loop-init g c = record {
  left = refl;
  count = ap length c.requires.none;
  room = refl;
  each = λ p w s ew es. absurd (let none : slice_get [] p ≡ Some s = ap (λ (l : List (Started _)). slice_get l p) (sym c.requires.none) ∙ es in cc);
}

pub start_one-requires-clause-fresh : goal.start_one-requires-clause-fresh
start_one-requires-clause-fresh g c κs within =
    let i = c.loop.invariant in
    let size : vec_len c.args.works ≡ length c.args.works.items = search rules in
    c.requires.fresh c.loop.counter c.remove-work.result (first_at _ c.args.works.items c.loop.counter c.remove-work.result i.left (omega (arith, c.loop-test.true, size)) c.remove-work.ensures.value)

pub loop-preserved : goal.loop-preserved
loop-preserved g c =
    let i = c.loop.invariant in
    let n = c.loop.counter in
    let size : vec_len c.args.works ≡ length c.args.works.items = search rules in
    let at = first_at _ c.args.works.items n c.remove-work.result i.left (omega (arith, c.loop-test.true, size)) c.remove-work.ensures.value in
    let items = c.push_reserved.ensures.items in
    let F : Work _ → Started _ → Type 0 = Owes g.S.Source.left g.S.Source.faults g.S.Source.mark in
    record {
      left = c.remove-work.ensures.items ∙ ap (drop 1) i.left ∙ drop_next n c.args.works.items;
      count = omega (arith, ap length items, length-append c.loop.started.items (c.start_one.result ∷ []), i.count);
      room = c.push_reserved.ensures.capacity ∙ i.room;
      each = λ p w s ew es. pairs_more F c.args.works.items c.loop.started.items n c.remove-work.result c.start_one.result i.count at c.start_one.ensures i.each p w s ew (ap (λ (l : List (Started _)). slice_get l p) (sym items) ∙ es);
    }
