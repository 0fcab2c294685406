use Rattle.std.proofs.Common.{ℕ, List, map, None, Option, sym, ap, ◌∙◌, subst, slice_get}
use Rattle.record_writer.proofs.Stopped.{stands_cut}
use Rattle.run_model.specs.declared.report.FeedReport.{FeedReport}
use Rattle.run_model.specs.Outcomes.{IsCutOff, IsRecorded}
use Rattle.plan_model.specs.declared.plan.Mode.TheVariants.{Threads}
use Rattle.thread_run.specs.Concluded.{HaveEnded, NoneHalted, report_in}
use Rattle.thread_run.specs.declared.settle.Joined.{Joined}
use Rattle.thread_run.proofs.Finishing.{none_ran_out, recorded_is}
use Rattle.thread_run.proofs.Stopping.{part_of, cut_at_last}
use Rattle.thread_run.proofs.conclude.conclude.Goals as goal

pub ran_out-requires : goal.ran_out-requires
ran_out-requires g c = record { going = subst NoneHalted (sym c.deref.ensures.value) c.requires.going }

pub returns-then-ran_out-clause-stopped : goal.returns-then-ran_out-clause-stopped
returns-then-ran_out-clause-stopped g c = λ ring batch streams feeds base desk v o h.
    let L = g.S.Source.left in
    let F = g.S.Source.faults in
    let M = g.S.Source.mark in
    let P : Option (List ℕ) → Type 0 = λ now. IsCutOff L streams feeds base now in
    let last = c.args.writer.room.desk in
    let cut = stands_cut streams base _ last h.batches None h.are_settled.written in
    subst P (ap g.K.Sink.held (sym c.let_go.ensures)) (part_of L F M ring batch streams feeds desk v o base _ (cut_at_last L F M batch streams base _ _ last v.works c.args.settled.items h cut))

pub returns-then-ran_out-clause-memory : goal.returns-then-ran_out-clause-memory
returns-then-ran_out-clause-memory g c = λ ring batch streams feeds base desk v o h numbers _.
    let r = c.ran_out.ensures.some c.if-ran_out.true in
    let there = ap (λ (l : List (Joined g.row.S.Denot)). slice_get l r.0) (sym c.deref.ensures.value) ∙ r.2 in
    none_ran_out g.S.Source.left g.S.Source.faults g.S.Source.mark ring batch streams feeds desk v o base _ c.args.writer.room.desk c.args.settled.items h numbers r.0 r.1 there r.3

pub report_all-reports-requires-clause-ended : goal.report_all-reports-requires-clause-ended
report_all-reports-requires-clause-ended g c =
    subst HaveEnded (c.deref.ensures.value ∙ sym c.deref-2.ensures.value) (c.ran_out.ensures.none c.if-ran_out.false)

pub returns-in-Ok-clause-done : goal.returns-in-Ok-clause-done
returns-in-Ok-clause-done g c = λ ring batch streams feeds base desk v o h.
    let L = g.S.Source.left in
    let F = g.S.Source.faults in
    let M = g.S.Source.mark in
    let all = c.args.settled.items in
    let w = c.in-Ok.written in
    let now = g.K.Sink.held c.finish.new.self.0 in
    let over = subst HaveEnded c.deref.ensures.value (c.ran_out.ensures.none c.if-ran_out.false) in
    let sources = map (λ (s : Joined g.row.S.Denot). s.reader.source) all in
    let done = recorded_is L F M ring batch streams feeds desk v o base _ c.args.writer.room.desk all h now over w (c.in-Ok.ensures.finished streams base h.batches h.are_settled.written) in
    let P : List FeedReport → Type 0 = λ reports. IsRecorded L F M Threads ring batch streams feeds base now reports w.bytes w.chunks sources in
    let Q : List g.row.S.Denot → Type 0 = λ l. IsRecorded L F M Threads ring batch streams feeds base now c.from_vec.result w.bytes w.chunks l in
    subst Q (sym (c.from_vec-in-Ok.ensures ∙ c.close_all-sources.ensures)) (subst P (sym (c.from_vec.ensures ∙ c.report_all-reports.ensures ∙ ap (map report_in) c.deref-2.ensures.value)) done)

pub returns-in-Err-clause-stopped : goal.returns-in-Err-clause-stopped
returns-in-Err-clause-stopped g c = λ ring batch streams feeds base desk v o h.
    let L = g.S.Source.left in
    let F = g.S.Source.faults in
    let M = g.S.Source.mark in
    part_of L F M ring batch streams feeds desk v o base _
    (cut_at_last L F M batch streams base _ _ c.args.writer.room.desk v.works c.args.settled.items h (c.in-Err.ensures.cut streams base h.batches h.are_settled.written))
