use Rattle.std.proofs.Common.{◌≡◌, inl, inr, Some, slice_get, length, refl, sym, ap, ◌∙◌, arith}
use Rattle.std.proofs.lemmas.Option.{slice_get_within, slice_get_read}
use Rattle.run_model.proofs.Lists.{same_or}
use Rattle.thread_run.specs.declared.settle.Joined.{Joined}
use Rattle.thread_run.proofs.Finishing.{ended_or}
use Rattle.thread_run.proofs.conclude.ran_out.Goals as goal

pub returns-in-Memory-clause-some : goal.returns-in-Memory-clause-some
returns-in-Memory-clause-some g c = λ _.
    let there : slice_get c.args.settled.now c.loop-one.one-index ≡ Some c.one-item.result = slice_get_read c.args.settled.now (length c.args.settled.now) c.loop-one.one-index c.one-item.result refl c.loop-one-test.true c.one-item.is in
    (c.loop-one.one-index, c.one-item.result, there, c.in-Memory.is)

pub loop-one-preserved : goal.loop-one-preserved
loop-one-preserved g c =
    let there : slice_get c.args.settled.now c.loop-one.one-index ≡ Some c.one-item.result = slice_get_read c.args.settled.now (length c.args.settled.now) c.loop-one.one-index c.one-item.result refl c.loop-one-test.true c.one-item.is in
    record {
      all = λ p s low e. elim (same_or p c.loop-one.one-index) [
        | inl k ↦
            let same : c.one-item.result ≡ s = cc (there, e, k) in
            let d = ended_or c.one-item.result.done c.in_default.not-Memory (c.requires.going c.loop-one.one-index c.one-item.result there) in
            (d.0, ap (λ (x : Joined g.row.S.Denot). x.done) (sym same) ∙ d.1)
        | inr k ↦ c.loop-one.invariant.all p s (omega (arith, low, k)) e
      ];
    }

pub returns-clause-none : goal.returns-clause-none
returns-clause-none g c = λ _ p s e. c.loop-one.invariant.all p s (omega (arith, slice_get_within c.args.settled.now p s e, c.loop-one-test.false)) e
