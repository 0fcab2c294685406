use Rattle.std.proofs.Common.{Bor, sym, ap, subst}
use Rattle.thread_run.specs.Work.{HasWorked}
use Rattle.thread_run.specs.declared.work.Work.{Work as WorkValue}
use Rattle.thread_run.proofs.started.start_one.Goals as goal

pub spawn_with-requires-clause-keeps : goal.spawn_with-requires-clause-keeps
spawn_with-requires-clause-keeps g c κs within = λ r worked.
    subst (λ (w : WorkValue _). HasWorked g.S.Source.left g.S.Source.faults g.S.Source.mark w r) (sym c.of.ensures) worked

pub returns-in-Err : goal.returns-in-Err
returns-in-Err g c =
    subst (λ (w : WorkValue _). HasWorked g.S.Source.left g.S.Source.faults g.S.Source.mark w c.run.result) (ap (λ (t : Bor _ × WorkValue _ × Bor _). t.1) c.in-Err.ensures.err) c.run.ensures
