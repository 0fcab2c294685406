use Rattle.std.proofs.Common.{◌≡◌, inl, inr, Some, slice_get, length, refl, sym, ap, ◌∙◌, arith}
use Rattle.std.specs.Option.{is_some}
use Rattle.std.proofs.lemmas.Option.{slice_get_within, slice_get_read}
use Rattle.record_run.specs.Inlets.{InletView}
use Rattle.run_model.proofs.Lists.{same_or}
use Rattle.run_model.proofs.Ends.{none_is, some_is}
use Rattle.record_run.proofs.turns.have_ended.Goals as goal

pub returns-then-is_none-clause-some : goal.returns-then-is_none-clause-some
returns-then-is_none-clause-some g c = λ _.
    let there : slice_get c.args.inlets.now c.loop-inlet.inlet-index ≡ Some c.inlet-item.result = slice_get_read c.args.inlets.now (length c.args.inlets.now) c.loop-inlet.inlet-index c.inlet-item.result refl c.loop-inlet-test.true c.inlet-item.is in
    (c.loop-inlet.inlet-index, c.inlet-item.result, there, none_is c.inlet-item.result.end (ap is_some (sym c.end.ensures) ∙ c.if-is_none.ensures))

pub loop-inlet-preserved : goal.loop-inlet-preserved
loop-inlet-preserved g c =
    let there : slice_get c.args.inlets.now c.loop-inlet.inlet-index ≡ Some c.inlet-item.result = slice_get_read c.args.inlets.now (length c.args.inlets.now) c.loop-inlet.inlet-index c.inlet-item.result refl c.loop-inlet-test.true c.inlet-item.is in
    let ended = some_is c.inlet-item.result.end (ap is_some (sym c.end.ensures) ∙ c.if-is_none.ensures) in
    record {
      all = λ p x low e. elim (same_or p c.loop-inlet.inlet-index) [
        | inl k ↦ let same : c.inlet-item.result ≡ x = cc (there, e, k) in (ended.0, ap (λ (y : InletView g.row.S.Denot). y.end) (sym same) ∙ ended.1)
        | inr k ↦ c.loop-inlet.invariant.all p x (omega (arith, low, k)) e
      ];
    }

pub returns-clause-all : goal.returns-clause-all
returns-clause-all g c = λ _ p x e. c.loop-inlet.invariant.all p x (omega (arith, slice_get_within c.args.inlets.now p x e, c.loop-inlet-test.false)) e
