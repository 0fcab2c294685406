use Rattle.std.proofs.Common.{[], map, sym, ◌∙◌, subst}
use Rattle.record_writer.specs.Desk.{DeskState}
use Rattle.record_writer.specs.Standing.{IsClosed}
use Rattle.run_model.proofs.Errors.{on_err}
use Rattle.thread_run.specs.Rounds.{AreDrawn, given_by}
use Rattle.thread_run.proofs.Settling.{if_ok}
use Rattle.thread_run.proofs.Starting.{fresh_at, lanes_meet, numbers_of, opened_drawn}
use Rattle.thread_run.proofs.Finishing.{on_ok}
use Rattle.thread_run.proofs.Stopping.{part_if, part_of_none}
use Rattle.thread_run.proofs.run.write_feeds.Goals as goal

pub returns-in_err-begin-clause-cut : goal.returns-in_err-begin-clause-cut
returns-in_err-begin-clause-cut g c = λ ring streams feeds o. on_err c.from_residual.result (part_of_none g.S.Source.left streams feeds _ _ o.feed_count (c.in_err-begin.ensures.cut streams o.ready))

pub run_in-requires-clause-fresh : goal.run_in-requires-clause-fresh
run_in-requires-clause-fresh g c κs within = let r = c.requires.ready in λ p w e. fresh_at r.0 c.args.pace.batch r.1 r.2 _ _ r.3 p w e

pub run_in-requires-clause-lanes : goal.run_in-requires-clause-lanes
run_in-requires-clause-lanes g c κs within = let r = c.requires.ready in λ p w h e f. lanes_meet r.0 c.args.pace.batch r.1 r.2 _ _ r.3 p w h e f

pub run_in-requires-clause-halt : goal.run_in-requires-clause-halt
run_in-requires-clause-halt g c κs within = c.requires.ready.3.halt

pub run_in-requires-clause-drawn : goal.run_in-requires-clause-drawn
run_in-requires-clause-drawn g c κs within =
    let r = c.requires.ready in
    let old = c.args.writer.now.room.desk in
    let base = g.K.Sink.held c.args.writer.now.sink.now in
    let held = g.K.Sink.held c.begin.new.self.sink.now in
    let e = c.in_ok-begin.ensures in
    let P : DeskState → Type 0 = λ d. IsClosed r.1 base held d [] in
    let Q : DeskState → Type 0 = λ d. AreDrawn c.args.pace.batch r.1 base held d [] (map given_by c.args.lanes.heads.items) in
    (r.1, base, [], subst Q (sym e.kept) (opened_drawn r.0 c.args.pace.batch r.1 r.2 old _ r.3 base held (subst P e.kept (e.begun r.1 r.3.ready))))

pub returns-clause-settled : goal.returns-clause-settled
returns-clause-settled g c = λ ring streams feeds o.
    let old = c.args.writer.now.room.desk in
    let base = g.K.Sink.held c.args.writer.now.sink.now in
    let held = g.K.Sink.held c.begin.new.self.sink.now in
    let e = c.in_ok-begin.ensures in
    let P : DeskState → Type 0 = λ d. IsClosed streams base held d [] in
    let Q : DeskState → Type 0 = λ d. AreDrawn c.args.pace.batch streams base held d [] (map given_by c.args.lanes.heads.items) in
    c.run_in.ensures.settled streams base [] (subst Q (sym e.kept) (opened_drawn ring c.args.pace.batch streams feeds old _ o base held (subst P e.kept (e.begun streams o.ready))))

pub returns-clause-cut : goal.returns-clause-cut
returns-clause-cut g c = λ ring streams feeds o.
    let old = c.args.writer.now.room.desk in
    let base = g.K.Sink.held c.args.writer.now.sink.now in
    let held = g.K.Sink.held c.begin.new.self.sink.now in
    let e = c.in_ok-begin.ensures in
    let P : DeskState → Type 0 = λ d. IsClosed streams base held d [] in
    let Q : DeskState → Type 0 = λ d. AreDrawn c.args.pace.batch streams base held d [] (map given_by c.args.lanes.heads.items) in
    part_if g.S.Source.left g.S.Source.faults g.S.Source.mark c.run_in.result ring c.args.pace.batch streams feeds old _ o base _ (c.run_in.ensures.cut streams base [] (subst Q (sym e.kept) (opened_drawn ring c.args.pace.batch streams feeds old _ o base held (subst P e.kept (e.begun streams o.ready)))))

pub returns-clause-memory : goal.returns-clause-memory
returns-clause-memory g c = λ ring streams feeds o numbers is. c.run_in.ensures.memory is (numbers_of ring c.args.pace.batch streams feeds _ _ o numbers)

pub returns-clause-closed : goal.returns-clause-closed
returns-clause-closed g c =
    let r = c.requires.ready in
    let old = c.args.writer.now.room.desk in
    let base = g.K.Sink.held c.args.writer.now.sink.now in
    let held = g.K.Sink.held c.begin.new.self.sink.now in
    let e = c.in_ok-begin.ensures in
    let P : DeskState → Type 0 = λ d. IsClosed r.1 base held d [] in
    let Q : DeskState → Type 0 = λ d. AreDrawn c.args.pace.batch r.1 base held d [] (map given_by c.args.lanes.heads.items) in
    on_ok c.run_in.result _ _ (λ all h. (h.are_settled.closed, h.are_settled.whole)) (c.run_in.ensures.settled r.1 base [] (subst Q (sym e.kept) (opened_drawn r.0 c.args.pace.batch r.1 r.2 old _ r.3 base held (subst P e.kept (e.begun r.1 r.3.ready)))))

pub returns-clause-count : goal.returns-clause-count
returns-clause-count g c =
    let r = c.requires.ready in
    let old = c.args.writer.now.room.desk in
    let base = g.K.Sink.held c.args.writer.now.sink.now in
    let held = g.K.Sink.held c.begin.new.self.sink.now in
    let e = c.in_ok-begin.ensures in
    let P : DeskState → Type 0 = λ d. IsClosed r.1 base held d [] in
    let Q : DeskState → Type 0 = λ d. AreDrawn c.args.pace.batch r.1 base held d [] (map given_by c.args.lanes.heads.items) in
    if_ok c.run_in.result _ _ (λ all h. h.are_settled.count ∙ h.are_worked.count) (c.run_in.ensures.settled r.1 base [] (subst Q (sym e.kept) (opened_drawn r.0 c.args.pace.batch r.1 r.2 old _ r.3 base held (subst P e.kept (e.begun r.1 r.3.ready)))))
