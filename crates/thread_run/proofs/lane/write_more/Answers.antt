use Rattle.run_model.proofs.Batches.{open_of}
use Rattle.run_model.proofs.Errors.{on_err}
use Rattle.record_writer.specs.Standing.{closed}
use Rattle.thread_run.proofs.Gathering.{closing, written_one, cut_all}
use Rattle.thread_run.proofs.lane.write_more.Goals as goal

pub returns-in_err-count-clause-cut : goal.returns-in_err-count-clause-cut
returns-in_err-count-clause-cut g c = λ streams base batches st. on_err c.from_residual.result (c.in_err-count.ensures.cut streams base batches st)

pub returns-in_err-close_batch-clause-cut : goal.returns-in_err-close_batch-clause-cut
returns-in_err-close_batch-clause-cut g c = λ streams base batches st.
    let d = c.in_ok-count.ensures.gathered.1 in
    let current = open_of c.args.place d.put in
    on_err c.from_residual-in_err-close_batch.result (closed batches current, c.in_err-close_batch.ensures.cut streams base batches current (d.stands streams base batches st), cut_all c.args.place c.args.lane.now.last.state.taken c.gather_rest.new.last.state.taken d.put batches d.taken)

pub returns-clause-wrote : goal.returns-clause-wrote
returns-clause-wrote g c =
    let d = c.in_ok-count.ensures.gathered in
    let k = c.in_ok-close_batch.ensures in
    let w = c.gather_rest.new.writer in
    let now = c.close_batch.new.self in
    written_one c.args.place c.in_ok-count.count c.args.batch _ _ _ _ _ _ _ _ d.0 d.1 (closing w.room.desk now.room.desk (g.K.Sink.held w.sink.now) (g.K.Sink.held now.sink.now) k.closed k.places k.none k.whole)
