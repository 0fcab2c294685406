use Rattle.std.proofs.Common.{subst}
use Rattle.thread_run.specs.Work.{HasWorked}
use Rattle.thread_run.specs.Owes.{Owes}
use Rattle.thread_run.specs.declared.work.Work.{Work as WorkValue}
use Rattle.thread_run.specs.declared.started.Started.{Started as StartedValue}
use Rattle.thread_run.proofs.started.finish_one.Goals as goal

pub returns-in-Running : goal.returns-in-Running
returns-in-Running g c = λ w owes.
    let L = g.S.Source.left in
    let F = g.S.Source.faults in
    let M = g.S.Source.mark in
    let same = subst (λ (s : StartedValue _). Owes L F M w s) c.in-Running.is owes in
    subst (λ (v : WorkValue _). HasWorked L F M v c.join.result) same c.join.ensures
