use Rattle.std.proofs.Common.{rules, ◌≡◌, ◌+◌, ℕ, suc, List, [], refl, sym, ap, ◌∙◌, subst, arith}
use Rattle.xdf_model.specs.Sample.{Sample}
use Rattle.turns_model.specs.Turns.{first_turns}
use Rattle.record_writer.specs.Desk.{DeskState}
use Rattle.record_writer.specs.Standing.{IsClosed}
use Rattle.record_run.specs.Turning.{AreTurned}
use Rattle.run_model.proofs.Errors.{handed}
use Rattle.run_model.proofs.Errors.{on_err}
use Rattle.record_run.proofs.Stepping.{new_lists, numeric_filled, all_waiting, all_turned}
use Rattle.record_run.proofs.Starting.{opened_turned, queues_empty, numeric_turned, not_endless}
use Rattle.record_run.proofs.Firsts.{begun_cut_off, turned_cut_off, queues_cut_off}
use Rattle.record_run.proofs.turns.take_turns.Goals as goal

pub loop-init : goal.loop-init
loop-init g c =
    let L = g.S.Source.left in
    let F = g.S.Source.faults in
    let M = g.S.Source.mark in
    let base = g.K.Sink.held c.args.writer.now.sink.now in
    let held = g.K.Sink.held c.begin.new.self.sink.now in
    let old = c.args.writer.now.room.desk in
    let e = c.in_ok-begin.ensures in
    let same : c.begin.new.self.room.desk ≡ old = e.kept in
    let ready = c.requires.ready.3.ready in
    record {
      same_reference = e.same_reference;
      turned = λ ring streams feeds o.
          let P : DeskState → Type 0 = λ d. IsClosed streams base held d [] in
          let Q : DeskState → Type 0 = λ d. (lists : List (List Sample)) × AreTurned L F M ring c.args.batch 0 streams feeds base held d lists c.args.inlets.now in
          subst Q (sym same) (opened_turned L F M ring c.args.batch streams feeds (record { inlets = c.args.inlets.now; desk = old; batch = c.args.batch }) base held o (subst P same (e.begun streams o.ready)));
      count = refl;
      closed = ap (λ (d : DeskState). d.count) same ∙ ready.count;
      whole = ap (λ (d : DeskState). d.broken) same ∙ ready.whole;
      waits = λ one. absurd (omega (arith, one));
      quiet = e.cause.quiet;
      rest = e.rest;
    }

pub returns-in_err-begin-clause-cut : goal.returns-in_err-begin-clause-cut
returns-in_err-begin-clause-cut g c = λ ring streams feeds o.
    on_err c.from_residual.result
    (begun_cut_off g.S.Source.left g.S.Source.faults g.S.Source.mark streams feeds _ _ o.feed_count (c.in_err-begin.ensures.cut streams o.ready))

pub returns-in_err-fill_all-clause-cut : goal.returns-in_err-fill_all-clause-cut
returns-in_err-fill_all-clause-cut g c = λ ring streams feeds o.
    let i = c.loop.invariant.turned ring streams feeds o in
    on_err c.from_residual-in_err-fill_all.result
    (turned_cut_off g.S.Source.left g.S.Source.faults g.S.Source.mark ring c.args.batch c.loop.counter streams feeds _ _ c.loop.writer.room.desk i.0 c.loop.inlets i.1)

pub drain_all-requires-clause-waiting : goal.drain_all-requires-clause-waiting
drain_all-requires-clause-waiting g c =
    let L = g.S.Source.left in
    let F = g.S.Source.faults in
    let M = g.S.Source.mark in
    let ring = c.requires.ready.0 in
    let streams = c.requires.ready.1 in
    let feeds = c.requires.ready.2 in
    let o = c.requires.ready.3 in
    let i = c.loop.invariant.turned ring streams feeds o in
    let f = c.in_ok-fill_all.ensures.filled (queues_empty L F M ring c.args.batch c.loop.counter streams feeds _ _ c.loop.writer.room.desk i.0 c.loop.inlets i.1) in
    all_waiting L F M c.args.batch ring c.loop.counter streams feeds _ _ c.loop.writer.room.desk i.0 c.loop.inlets c.fill_all.new.inlets o.low o.some i.1 c.in_ok-fill_all.ensures.count f

pub returns-in_err-drain_all-clause-cut : goal.returns-in_err-drain_all-clause-cut
returns-in_err-drain_all-clause-cut g c = λ ring streams feeds o.
    let L = g.S.Source.left in
    let F = g.S.Source.faults in
    let M = g.S.Source.mark in
    let i = c.loop.invariant.turned ring streams feeds o in
    let f = c.in_ok-fill_all.ensures.filled (queues_empty L F M ring c.args.batch c.loop.counter streams feeds _ _ c.loop.writer.room.desk i.0 c.loop.inlets i.1) in
    let k = c.in_err-drain_all.ensures.cut streams _ (first_turns ring c.args.batch i.0 c.loop.counter) i.1.written in
    on_err c.from_residual-in_err-drain_all.result
    (queues_cut_off L F M ring c.args.batch c.loop.counter streams feeds _ _ c.loop.writer.room.desk i.0 c.loop.inlets i.1 c.fill_all.new.inlets _ c.in_ok-fill_all.ensures.count f k)

pub returns-then-have_ended-clause-turned : goal.returns-then-have_ended-clause-turned
returns-then-have_ended-clause-turned g c = λ ring streams feeds o.
    let L = g.S.Source.left in
    let F = g.S.Source.faults in
    let M = g.S.Source.mark in
    let n = c.loop.counter in
    let i = c.loop.invariant.turned ring streams feeds o in
    let e = c.in_ok-drain_all.ensures in
    let f = c.in_ok-fill_all.ensures.filled (queues_empty L F M ring c.args.batch n streams feeds _ _ c.loop.writer.room.desk i.0 c.loop.inlets i.1) in (
      suc n,
      new_lists L F M c.args.batch ring n streams feeds _ _ c.loop.writer.room.desk i.0 c.loop.inlets c.fill_all.new.inlets o.low o.some i.1 c.in_ok-fill_all.ensures.count f,
      all_turned L F M c.args.batch ring n streams feeds _ _ c.loop.writer.room.desk i.0 c.loop.inlets c.fill_all.new.inlets o.low o.some i.1 c.in_ok-fill_all.ensures.count f
          c.drain_all.new.inlets _ c.drain_all.new.writer.room.desk e.count e.drained (e.put streams _ (first_turns ring c.args.batch i.0 n) i.1.written) e.next e.shapes,
    )

pub returns-then-have_ended-clause-ended : goal.returns-then-have_ended-clause-ended
returns-then-have_ended-clause-ended g c = c.have_ended.ensures.all c.if-have_ended.true

pub loop-preserved : goal.loop-preserved
loop-preserved g c =
    let L = g.S.Source.left in
    let F = g.S.Source.faults in
    let M = g.S.Source.mark in
    let n = c.loop.counter in
    let inv = c.loop.invariant in
    let e = c.in_ok-drain_all.ensures in
    record {
      same_reference = e.same_reference ∙ inv.same_reference;
      turned = λ ring streams feeds o.
          let i = inv.turned ring streams feeds o in
          let one : suc n ≡ n + 1 = omega arith in
          let f = c.in_ok-fill_all.ensures.filled (queues_empty L F M ring c.args.batch n streams feeds _ _ c.loop.writer.room.desk i.0 c.loop.inlets i.1) in
          let lists = new_lists L F M c.args.batch ring n streams feeds _ _ c.loop.writer.room.desk i.0 c.loop.inlets c.fill_all.new.inlets o.low o.some i.1 c.in_ok-fill_all.ensures.count f in
          let P : ℕ → Type 0 = λ m. AreTurned L F M ring c.args.batch m streams feeds (g.K.Sink.held c.args.writer.now.sink.now) (g.K.Sink.held c.drain_all.new.writer.sink.now) c.drain_all.new.writer.room.desk lists c.drain_all.new.inlets in (
            lists,
            subst P one (all_turned L F M c.args.batch ring n streams feeds _ _ c.loop.writer.room.desk i.0 c.loop.inlets c.fill_all.new.inlets o.low o.some i.1 c.in_ok-fill_all.ensures.count f
                c.drain_all.new.inlets _ c.drain_all.new.writer.room.desk e.count e.drained (e.put streams _ (first_turns ring c.args.batch i.0 n) i.1.written) e.next e.shapes),
          );
      count = e.count ∙ c.in_ok-fill_all.ensures.count ∙ inv.count;
      closed = e.closed;
      whole = e.whole;
      waits = λ one. c.have_ended.ensures.some c.if-have_ended.false;
      quiet = e.cause.quiet (λ f. absurd (cc f)) ∙ inv.quiet;
      rest = e.rest ∙ inv.rest;
    }

pub unreachable-requires : goal.unreachable-requires
unreachable-requires g c =
    let ring = c.requires.ready.0 in
    let streams = c.requires.ready.1 in
    let feeds = c.requires.ready.2 in
    let o = c.requires.ready.3 in
    let i = c.loop.invariant.turned ring streams feeds o in
    let w = c.loop.invariant.waits (omega (arith, c.loop-test.false)) in
    not_endless g.S.Source.left g.S.Source.faults g.S.Source.mark ring c.args.batch c.loop.counter streams feeds _ _ c.loop.writer.room.desk i.0 c.loop.inlets i.1 w.0 w.1 w.2 w.3 o.some (omega (arith, c.loop-test.false))

pub returns-in_err-fill_all-clause-memory : goal.returns-in_err-fill_all-clause-memory
returns-in_err-fill_all-clause-memory g c = λ ring streams feeds o numbers e.
    let i = c.loop.invariant.turned ring streams feeds o in
    c.in_err-fill_all.ensures.memory (numeric_turned g.S.Source.left g.S.Source.faults g.S.Source.mark ring c.args.batch c.loop.counter streams feeds _ _ c.loop.writer.room.desk i.0 c.loop.inlets i.1 numbers)

pub returns-in_err-drain_all-clause-memory : goal.returns-in_err-drain_all-clause-memory
returns-in_err-drain_all-clause-memory g c = λ ring streams feeds o numbers e.
    let L = g.S.Source.left in
    let F = g.S.Source.faults in
    let M = g.S.Source.mark in
    let i = c.loop.invariant.turned ring streams feeds o in
    let f = c.in_ok-fill_all.ensures.filled (queues_empty L F M ring c.args.batch c.loop.counter streams feeds _ _ c.loop.writer.room.desk i.0 c.loop.inlets i.1) in
    let before = numeric_turned L F M ring c.args.batch c.loop.counter streams feeds _ _ c.loop.writer.room.desk i.0 c.loop.inlets i.1 numbers in
    let after = numeric_filled L F M c.args.batch ring c.loop.counter streams feeds _ _ c.loop.writer.room.desk i.0 c.loop.inlets c.fill_all.new.inlets o.low o.some i.1 c.in_ok-fill_all.ensures.count f before in
    c.in_err-drain_all.ensures.memory (handed c.from_residual-in_err-drain_all.result c.in_err-drain_all.field-0.0 _ c.from_residual-in_err-drain_all.ensures.1 e) after

pub returns-in_err-fill_all-clause-cause : goal.returns-in_err-fill_all-clause-cause
returns-in_err-fill_all-clause-cause g c =
    let kept = c.loop.invariant.quiet in
    record { later = omega (arith, kept); rose = search rules; quiet = λ _. kept }

pub returns-then-have_ended-clause-cause : goal.returns-then-have_ended-clause-cause
returns-then-have_ended-clause-cause g c =
    let kept = c.in_ok-drain_all.ensures.cause.quiet (λ f. absurd (cc f)) ∙ c.loop.invariant.quiet in
    record { later = omega (arith, kept); rose = λ f. absurd (cc f); quiet = λ _. kept }
