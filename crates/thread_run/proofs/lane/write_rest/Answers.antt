use Rattle.std.proofs.Common.{refl, ◌++◌, ◌∙◌}
use Rattle.run_model.proofs.Errors.{on_err}
use Rattle.thread_run.proofs.Gathering.{written_none, written_more, cut_over}
use Rattle.thread_run.proofs.lane.write_rest.Goals as goal

pub loop-init : goal.loop-init
loop-init g c = record {
  written = written_none c.args.batch c.args.place c.args.lane.now.last.state.taken c.args.writer.now.room.desk (g.K.Sink.held c.args.writer.now.sink.now) c.requires.closed c.requires.whole c.requires.next;
  same = record { capacity = refl; shape = refl; puts = refl };
  dropped = refl;
  reached = c.requires.reached;
  counted = c.requires.counted;
  same_reference = refl;
  quiet = refl;
  rest = refl;
}

pub returns-in_err-write_more-clause-cut : goal.returns-in_err-write_more-clause-cut
returns-in_err-write_more-clause-cut g c = λ streams base batches st.
    let w = c.loop.invariant.written in
    let k = c.in_err-write_more.ensures.cut streams base (batches ++ w.bs) (w.put streams base batches st) in
    on_err c.from_residual.result (k.0, k.1, cut_over c.args.batch c.args.place c.args.lane.now.last.state.taken c.loop.lane.last.state.taken c.write_more.new.lane.last.state.taken w.bs batches k.0 w.short w.taken k.2)

pub returns-then-branch-clause-wrote : goal.returns-then-branch-clause-wrote
returns-then-branch-clause-wrote g c = written_more c.args.batch c.args.place _ _ _ _ _ _ _ _ _ c.loop.invariant.written c.in_ok-write_more.ensures.wrote

pub loop-preserved : goal.loop-preserved
loop-preserved g c =
    let i = c.loop.invariant in
    let e = c.in_ok-write_more.ensures in
    record {
      written = written_more c.args.batch c.args.place _ _ _ _ _ _ _ _ _ i.written e.wrote;
      same = record { capacity = e.same.capacity ∙ i.same.capacity; shape = e.same.shape ∙ i.same.shape; puts = e.same.puts ∙ i.same.puts };
      dropped = e.dropped ∙ i.dropped;
      reached = e.reached;
      counted = e.counted;
      same_reference = e.same_reference ∙ i.same_reference;
      quiet = e.cause.quiet (λ f. absurd (cc f)) ∙ i.quiet;
      rest = e.rest ∙ i.rest;
    }
