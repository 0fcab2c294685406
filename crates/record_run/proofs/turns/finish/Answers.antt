use Rattle.std.proofs.Common.{List, map, sym, subst, ◌∙◌}
use Rattle.record_run.specs.Inlets.{InletView}
use Rattle.turns_model.specs.Turns.{first_turns}
use Rattle.run_model.specs.declared.report.FeedReport.{FeedReport}
use Rattle.plan_model.specs.declared.plan.Mode.TheVariants.{Turns}
use Rattle.run_model.specs.Outcomes.{IsRecorded}
use Rattle.run_model.proofs.Errors.{on_err}
use Rattle.record_run.proofs.Finishing.{recorded_is}
use Rattle.record_run.proofs.Firsts.{finish_cut_off}
use Rattle.record_run.proofs.turns.finish.Goals as goal

pub returns-in_err-written-clause-stopped : goal.returns-in_err-written-clause-stopped
returns-in_err-written-clause-stopped g c = λ ring batch turns streams feeds base lists low some k.
    on_err _ (finish_cut_off g.S.Source.left g.S.Source.faults g.S.Source.mark ring batch turns streams feeds base _ _ lists c.args.inlets.now k _
    (c.in_err-written.ensures.cut streams base (first_turns ring batch lists turns) k.written))

pub returns-clause-done : goal.returns-clause-done
returns-clause-done g c = λ ring batch turns streams feeds base lists low some k.
    let L = g.S.Source.left in
    let F = g.S.Source.faults in
    let M = g.S.Source.mark in
    let w = c.in_ok-written.written in
    let now = g.K.Sink.held c.finish.new.self.0 in
    let done = recorded_is L F M ring batch turns streams feeds base _ now c.args.writer.room.desk lists c.args.inlets.now w low some k c.requires.ended (c.in_ok-written.ensures.finished streams base (first_turns ring batch lists turns) k.written) in
    let P : List FeedReport → Type 0 = λ reports. IsRecorded L F M Turns ring batch streams feeds base now reports w.bytes w.chunks (map (λ (x : InletView g.row.S.Denot). x.source) c.args.inlets.now) in
    subst P (sym (c.from_vec.ensures ∙ c.report_all.ensures)) done
