use Rattle.std.proofs.Common.{◌≡◌, sym, ap, ◌∙◌, subst}
use Rattle.plan_model.specs.declared.plan.Mode.TheVariants.{Turns}
use Rattle.record_run.specs.Recorders.{RecorderView, by_turns, view_in, IsOpenFor}
use Rattle.record_run.proofs.recorder.Recorder.run_turns.Goals as goal

pub returns-clause-done : goal.returns-clause-done
returns-clause-done g c = λ ring batch streams feeds o.
    let P : RecorderView g.row.S.Denot → Type 0 = λ r. IsOpenFor Turns ring batch streams feeds r in
    let same : by_turns c.in-Turns.turns ≡ c.args.self = sym (ap view_in c.in-Turns.is) ∙ c.self.view_is in
    c.run.ensures.done ring batch streams feeds (rw c.in-Turns.turns-is (subst P (sym same) o))

pub returns-clause-stopped : goal.returns-clause-stopped
returns-clause-stopped g c = λ ring batch streams feeds o.
    let P : RecorderView g.row.S.Denot → Type 0 = λ r. IsOpenFor Turns ring batch streams feeds r in
    let same : by_turns c.in-Turns.turns ≡ c.args.self = sym (ap view_in c.in-Turns.is) ∙ c.self.view_is in
    c.run.ensures.stopped ring batch streams feeds (rw c.in-Turns.turns-is (subst P (sym same) o))

pub returns-clause-memory : goal.returns-clause-memory
returns-clause-memory g c = λ ring batch streams feeds o.
    let P : RecorderView g.row.S.Denot → Type 0 = λ r. IsOpenFor Turns ring batch streams feeds r in
    let same : by_turns c.in-Turns.turns ≡ c.args.self = sym (ap view_in c.in-Turns.is) ∙ c.self.view_is in
    c.run.ensures.memory ring batch streams feeds (rw c.in-Turns.turns-is (subst P (sym same) o))
