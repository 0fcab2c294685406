use Rattle.std.proofs.Common.{◌≡◌, ℕ, sym, ap, ◌∙◌, subst}
use Rattle.plan_model.specs.declared.plan.Mode.TheVariants.{Threads}
use Rattle.run_model.specs.Outcomes.{IsDone}
use Rattle.thread_run.specs.Opening.{AreThreadsFor}
use Rattle.record_run.specs.Recorders.{RecorderView, by_threads, view_in, IsOpenFor}
use Rattle.record_run.proofs.recorder.Recorder.run_threads_home.Goals as goal

pub returns-clause-done : goal.returns-clause-done
returns-clause-done g c = λ ring batch streams feeds o.
    let t = c.in-Threads.threads in
    let P : RecorderView g.row.S.Denot → Type 0 = λ r. IsOpenFor Threads ring batch streams feeds r in
    let same : by_threads t ≡ c.args.self = sym (ap view_in c.in-Threads.is) ∙ c.self.view_is in
    let k = subst P (sym same) o in
    let F : ℕ → Type 0 = λ n. AreThreadsFor ring n streams feeds t.desk t.feeds in
    let D : ℕ → Type 0 = λ n. IsDone g.S.Source.left g.S.Source.faults g.S.Source.mark Threads ring n streams feeds (g.K.Sink.held c.args.sink.now) (g.K.Sink.held c.run.new.sink) c.run.result.0 in
    subst D k.0 (rw (sym c.in-Threads.threads-is) (c.run.ensures.done ring streams feeds (rw c.in-Threads.threads-is (subst F (sym k.0) k.1))))

pub returns-clause-stopped : goal.returns-clause-stopped
returns-clause-stopped g c = λ ring batch streams feeds o.
    let t = c.in-Threads.threads in
    let P : RecorderView g.row.S.Denot → Type 0 = λ r. IsOpenFor Threads ring batch streams feeds r in
    let same : by_threads t ≡ c.args.self = sym (ap view_in c.in-Threads.is) ∙ c.self.view_is in
    let k = subst P (sym same) o in
    let F : ℕ → Type 0 = λ n. AreThreadsFor ring n streams feeds t.desk t.feeds in
    c.run.ensures.stopped ring streams feeds (rw c.in-Threads.threads-is (subst F (sym k.0) k.1))

pub returns-clause-memory : goal.returns-clause-memory
returns-clause-memory g c = λ ring batch streams feeds o.
    let t = c.in-Threads.threads in
    let P : RecorderView g.row.S.Denot → Type 0 = λ r. IsOpenFor Threads ring batch streams feeds r in
    let same : by_threads t ≡ c.args.self = sym (ap view_in c.in-Threads.is) ∙ c.self.view_is in
    let k = subst P (sym same) o in
    let F : ℕ → Type 0 = λ n. AreThreadsFor ring n streams feeds t.desk t.feeds in
    c.run.ensures.memory ring streams feeds (rw c.in-Threads.threads-is (subst F (sym k.0) k.1))
