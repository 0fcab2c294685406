use Rattle.std.proofs.Common.{rules, ◌≡◌, ℕ, Err, List, Option, sym, ap, ◌∙◌, subst, arith}
use Rattle.record_writer.specs.declared.room.WriterRoom.{WriterRoom}
use Rattle.thread_run.specs.Opening.{ThreadsView}
use Rattle.thread_run.specs.Concluded.{HaveRun}
use Rattle.thread_run.proofs.Finishing.{stopped_run, told_fault}
use Rattle.thread_run.proofs.feeds.record_within.Goals as goal

pub returns-in-Ok-clause-run : goal.returns-in-Ok-clause-run
returns-in-Ok-clause-run g c =
    let L = g.S.Source.left in
    let F = g.S.Source.faults in
    let M = g.S.Source.mark in
    let batch = c.args.batch in
    let i = c.feeds.inside in
    let inner : ThreadsView g.row.S.Denot = record { works = i.works.items; heads = i.heads.items; raiser = i.raiser; lookers = i.lookers } in
    let base = g.K.Sink.held c.over-writer.result.sink.now in
    let desk = c.over-writer.result.room.desk in
    let now = g.K.Sink.held c.conclude.new.writer.0 in
    let told = c.conclude.result.0 in
    let run : HaveRun L F M batch desk inner base now told = record {
      done = λ ring streams feeds o. c.conclude.ensures.done ring batch streams feeds base desk inner o (c.in-Ok.ensures.settled ring streams feeds o);
      stopped = λ ring streams feeds o. c.conclude.ensures.stopped ring batch streams feeds base desk inner o (c.in-Ok.ensures.settled ring streams feeds o);
      memory = λ ring streams feeds o numbers. c.conclude.ensures.memory ring batch streams feeds base desk inner o (c.in-Ok.ensures.settled ring streams feeds o) numbers;
    } in
    let before : base ≡ g.K.Sink.held c.args.sink.now = ap g.K.Sink.held c.over-writer.ensures.sink in
    let after : now ≡ g.K.Sink.held c.sink-1.given.0 = ap g.K.Sink.held (sym (c.sink-1.given.1 (sym (c.write_feeds.ensures.same_reference ∙ c.over-writer.ensures.same_reference)))) in
    let R : WriterRoom → Type 0 = λ room. HaveRun L F M batch room.desk inner base now told in
    let V : ThreadsView g.row.S.Denot → Type 0 = λ v. HaveRun L F M batch c.args.room.desk v base now told in
    let B : Option (List ℕ) → Type 0 = λ held. HaveRun L F M batch c.args.room.desk c.args.feeds held now told in
    let A : Option (List ℕ) → Type 0 = λ held. HaveRun L F M batch c.args.room.desk c.args.feeds (g.K.Sink.held c.args.sink.now) held told in
    subst A after (subst B before (subst V c.feeds.view_is (subst R c.over-writer.ensures.room run)))

pub returns-in-Err-clause-run : goal.returns-in-Err-clause-run
returns-in-Err-clause-run g c =
    let L = g.S.Source.left in
    let F = g.S.Source.faults in
    let M = g.S.Source.mark in
    let batch = c.args.batch in
    let i = c.feeds.inside in
    let inner : ThreadsView g.row.S.Denot = record { works = i.works.items; heads = i.heads.items; raiser = i.raiser; lookers = i.lookers } in
    let base = g.K.Sink.held c.over-writer.result.sink.now in
    let desk = c.over-writer.result.room.desk in
    let now = g.K.Sink.held c.write_feeds.new.writer.sink.now in
    let told = c.stopped_by.result in
    let run : HaveRun L F M batch desk inner base now told =
    stopped_run L F M batch desk inner base now c.in-Err.fault told c.stopped_by.ensures.write c.stopped_by.ensures.memory c.in-Err.ensures.cut
    (λ ring streams feeds o numbers is. c.in-Err.ensures.memory ring streams feeds o numbers (ap Err is)) in
    let before : base ≡ g.K.Sink.held c.args.sink.now = ap g.K.Sink.held c.over-writer.ensures.sink in
    let let_go : now ≡ g.K.Sink.held c.let_go.new.writer.0 = ap g.K.Sink.held (sym c.let_go.ensures) in
    let after : g.K.Sink.held c.let_go.new.writer.0 ≡ g.K.Sink.held c.sink-in-Err-1.given.0 = search rules in
    let R : WriterRoom → Type 0 = λ room. HaveRun L F M batch room.desk inner base now told in
    let V : ThreadsView g.row.S.Denot → Type 0 = λ v. HaveRun L F M batch c.args.room.desk v base now told in
    let B : Option (List ℕ) → Type 0 = λ held. HaveRun L F M batch c.args.room.desk c.args.feeds held now told in
    let A : Option (List ℕ) → Type 0 = λ held. HaveRun L F M batch c.args.room.desk c.args.feeds (g.K.Sink.held c.args.sink.now) held told in
    subst A after (subst A let_go (subst B before (subst V c.feeds.view_is (subst R c.over-writer.ensures.room run))))

pub returns-in-Ok-clause-cause : goal.returns-in-Ok-clause-cause
returns-in-Ok-clause-cause g c =
    let ran = c.conclude.ensures.cause in
    let wrote = c.write_feeds.ensures.cause.quiet (λ f. absurd (cc (f, c.in-Ok.is))) in
    let before = ap g.K.Sink.write_faults c.over-writer.ensures.sink in
    let after : g.K.Sink.write_faults c.conclude.new.writer.0 ≡ g.K.Sink.write_faults c.sink-1.given.0 = ap g.K.Sink.write_faults (sym (c.sink-1.given.1 (sym (c.write_feeds.ensures.same_reference ∙ c.over-writer.ensures.same_reference)))) in
    record {
      later = omega (arith, ran.later, wrote, before, after);
      rose = λ is. omega (arith, ran.rose is, wrote, before, after);
      quiet = λ other. sym after ∙ ran.quiet other ∙ wrote ∙ before;
    }

pub returns-in-Ok-clause-rest : goal.returns-in-Ok-clause-rest
returns-in-Ok-clause-rest g c =
    let before = ap g.K.Sink.rest c.over-writer.ensures.sink in
    let after : g.K.Sink.rest c.conclude.new.writer.0 ≡ g.K.Sink.rest c.sink-1.given.0 = ap g.K.Sink.rest (sym (c.sink-1.given.1 (sym (c.write_feeds.ensures.same_reference ∙ c.over-writer.ensures.same_reference)))) in
    sym after ∙ c.conclude.ensures.rest ∙ c.write_feeds.ensures.rest ∙ before

pub returns-in-Err-clause-cause : goal.returns-in-Err-clause-cause
returns-in-Err-clause-cause g c =
    let wrote = c.in-Err.ensures.cause in
    let before = ap g.K.Sink.write_faults c.over-writer.ensures.sink in
    let gone = ap g.K.Sink.write_faults c.let_go.ensures in
    let after : g.K.Sink.write_faults c.let_go.new.writer.0 ≡ g.K.Sink.write_faults c.sink-in-Err-1.given.0 = search rules in
    record {
      later = omega (arith, wrote.later, before, gone, after);
      rose = λ is. let rose = wrote.rose (ap Err (told_fault c.in-Err.fault c.stopped_by.result c.stopped_by.ensures.memory is)) in omega (arith, rose, before, gone, after);
      quiet = λ other. sym after ∙ gone ∙ wrote.quiet (λ f. other (c.stopped_by.ensures.write (cc f))) ∙ before;
    }
