use Rattle.std.proofs.Common.{◌∙◌}
use Rattle.run_model.proofs.Errors.{on_err, handed}
use Rattle.thread_run.proofs.Going.{numbers_same}
use Rattle.thread_run.proofs.rounds.go_until.Goals as goal

pub go_round-requires : goal.go_round-requires
go_round-requires g c =
    let h = c.requires.drawn in
    let k = c.loop.invariant.drawn h.0 h.1 h.2 h.3 in
    record { drawn = (h.0, h.1, k.0, k.1) }

pub returns-in_err-most-clause-cut : goal.returns-in_err-most-clause-cut
returns-in_err-most-clause-cut g c = λ streams base batches st.
    let k = c.loop.invariant.drawn streams base batches st in
    on_err c.from_residual.result (c.in_err-most.ensures.cut streams base k.0 k.1)

pub loop-preserved : goal.loop-preserved
loop-preserved g c =
    let i = c.loop.invariant in
    let e = c.in_ok-most.ensures in
    record {
      drawn = λ streams base batches st. let k = i.drawn streams base batches st in e.drawn streams base k.0 k.1;
      lanes = e.lanes ∙ i.lanes;
      same_reference = e.same_reference ∙ i.same_reference;
      quiet = e.cause.quiet (λ f. absurd (cc f)) ∙ i.quiet;
      rest = e.rest ∙ i.rest;
    }

pub returns-in_err-most-clause-memory : goal.returns-in_err-most-clause-memory
returns-in_err-most-clause-memory g c = λ is numbers.
    c.in_err-most.ensures.memory (handed c.from_residual.result c.in_err-most.field-0.0 _ c.from_residual.ensures.1 is) (numbers_same c.args.heads.now c.loop.heads c.loop.invariant.lanes numbers)

pub returns-then-load-count-clause-drawn : goal.returns-then-load-count-clause-drawn
returns-then-load-count-clause-drawn g c = λ streams base batches st.
    let k = c.loop.invariant.drawn streams base batches st in
    c.in_ok-most.ensures.drawn streams base k.0 k.1
