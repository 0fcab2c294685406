use Rattle.std.proofs.Common.{subst}
use Rattle.plan_model.specs.declared.plan.Mode.{Mode}
use Rattle.record_run.specs.Recorders.{IsOpenFor}
use Rattle.record_call.proofs.run.run.Goals as goal

pub returns-in-Turns-clause-done : goal.returns-in-Turns-clause-done
returns-in-Turns-clause-done g c = λ ring batch streams feeds o.
    rw c.in-Turns.is (c.run_turns.ensures.done ring batch streams feeds (subst (λ (m : Mode). IsOpenFor m ring batch streams feeds c.args.recorder) c.in-Turns.is o))

pub returns-in-Turns-clause-stopped : goal.returns-in-Turns-clause-stopped
returns-in-Turns-clause-stopped g c = λ ring batch streams feeds o.
    c.run_turns.ensures.stopped ring batch streams feeds (subst (λ (m : Mode). IsOpenFor m ring batch streams feeds c.args.recorder) c.in-Turns.is o)

pub returns-in-Turns-clause-memory : goal.returns-in-Turns-clause-memory
returns-in-Turns-clause-memory g c = λ ring batch streams feeds o.
    c.run_turns.ensures.memory ring batch streams feeds (subst (λ (m : Mode). IsOpenFor m ring batch streams feeds c.args.recorder) c.in-Turns.is o)

pub returns-in-Threads-clause-done : goal.returns-in-Threads-clause-done
returns-in-Threads-clause-done g c = λ ring batch streams feeds o.
    rw c.in-Threads.is (c.run_threads.ensures.done ring batch streams feeds (subst (λ (m : Mode). IsOpenFor m ring batch streams feeds c.args.recorder) c.in-Threads.is o))

pub returns-in-Threads-clause-stopped : goal.returns-in-Threads-clause-stopped
returns-in-Threads-clause-stopped g c = λ ring batch streams feeds o.
    c.run_threads.ensures.stopped ring batch streams feeds (subst (λ (m : Mode). IsOpenFor m ring batch streams feeds c.args.recorder) c.in-Threads.is o)

pub returns-in-Threads-clause-memory : goal.returns-in-Threads-clause-memory
returns-in-Threads-clause-memory g c = λ ring batch streams feeds o.
    c.run_threads.ensures.memory ring batch streams feeds (subst (λ (m : Mode). IsOpenFor m ring batch streams feeds c.args.recorder) c.in-Threads.is o)
