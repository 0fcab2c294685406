use Rattle.std.proofs.Common.{Bool, ◌∙◌, subst}
use Rattle.feed_lane.specs.Lanes.{IsLessBy}
use Rattle.run_model.proofs.Batches.{open_of}
use Rattle.run_model.proofs.Errors.{on_err}
use Rattle.thread_run.proofs.Gathering.{gathered_more, cut_open}
use Rattle.thread_run.proofs.lane.gather_rest.Goals as goal

pub returns-in_err-put_oldest-clause-cut : goal.returns-in_err-put_oldest-clause-cut
returns-in_err-put_oldest-clause-cut g c = λ streams base batches st.
    let d = c.loop-count.invariant.gathered in
    let k = c.in_err-put_oldest.ensures.cut streams base batches (open_of c.args.place d.put) (d.stands streams base batches st) in
    on_err c.from_residual.result (k.0, k.1, cut_open c.args.place c.args.last.now.state.taken c.loop-count.last.state.taken c.put_oldest.new.self.state.taken d.put batches k.0 d.taken k.2)

pub loop-count-preserved : goal.loop-count-preserved
loop-count-preserved g c =
    let i = c.loop-count.invariant in
    let p = c.in_ok-put_oldest.ensures in
    let y = c.put_oldest.new in
    let O : Bool → Type 0 = λ b. IsLessBy c.loop-count.last y.self c.args.place c.loop-count.writer.room.desk y.writer.room.desk (g.K.Sink.held c.loop-count.writer.sink.now) (g.K.Sink.held y.writer.sink.now) b in
    let o = subst O c.if-not-branch.false p.out in
    record {
      gathered = gathered_more c.args.place c.loop-count.count c.args.last.now.state.taken c.loop-count.last.state.taken y.self.state.taken c.args.writer.now.room.desk c.loop-count.writer.room.desk y.writer.room.desk _ (g.K.Sink.held c.loop-count.writer.sink.now) _ o.0 i.gathered o.1.taken o.2;
      same = record { capacity = o.1.capacity ∙ i.same.capacity; shape = o.1.shape ∙ i.same.shape; puts = o.1.puts ∙ i.same.puts };
      dropped = o.1.dropped ∙ i.dropped;
      reached = p.reached;
      same_reference = p.same_reference ∙ i.same_reference;
      quiet = p.cause.quiet (λ f. absurd (cc f)) ∙ i.quiet;
      rest = p.rest ∙ i.rest;
    }
