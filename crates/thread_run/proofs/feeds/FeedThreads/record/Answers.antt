use Rattle.std.proofs.Common.{ap, sym, subst, ◌∙◌, List, ℕ, Option}
use Rattle.plan_model.specs.declared.plan.Mode.TheVariants.{Threads}
use Rattle.run_model.specs.Outcomes.{IsDone, IsStopped}
use Rattle.thread_run.proofs.feeds.FeedThreads.record.Goals as goal

pub returns-clause-done : goal.returns-clause-done
returns-clause-done g c = λ ring streams feeds o.
    let e = c.scoped-back.ensures.1 in
    let back = c.sink-1.given.1 (sym e.0) ∙ c.keep.ensures in
    let P : Option (List ℕ) → Type 0 = λ held. IsDone g.S.Source.left g.S.Source.faults g.S.Source.mark Threads ring c.args.batch streams feeds (g.K.Sink.held c.args.sink.now) held c.scoped-back.result.1.0 in
    subst P (ap g.K.Sink.held (sym back)) (e.1.0.done ring streams feeds o)

pub returns-clause-stopped : goal.returns-clause-stopped
returns-clause-stopped g c = λ ring streams feeds o.
    let e = c.scoped-back.ensures.1 in
    let back = c.sink-1.given.1 (sym e.0) ∙ c.keep.ensures in
    let P : Option (List ℕ) → Type 0 = λ held. IsStopped g.S.Source.left streams feeds (g.K.Sink.held c.args.sink.now) held c.scoped-back.result.1.0 in
    subst P (ap g.K.Sink.held (sym back)) (e.1.0.stopped ring streams feeds o)
