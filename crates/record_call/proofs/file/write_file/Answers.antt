use Rattle.std.proofs.Common.{◌≡◌, ◌∙◌, ap, arith, Err, inl, inr, List, ℕ, [], subst, Option}
use Rattle.std.proofs.lemmas.Result.{IfOk-weaker}
use Rattle.rec_base.specs.Known.{Becomes}
use Rattle.run_model.proofs.Errors.{handed, handed_back}
use Rattle.record_call.specs.declared.fault.RecordFault.TheVariants as fault
use Rattle.record_call.proofs.Asking.{fails_from}
use Rattle.record_call.proofs.Orders.{is_write, not_memory, output_asked, output_failed, whole_asked}
use Rattle.record_call.proofs.Records.{ready_are, ready_short, ready_some, ready_few, ready_feeds, file_written, cut_file}
use Rattle.record_call.proofs.file.write_file.Goals as goal

pub record_feeds-requires-clause-are : goal.record_feeds-requires-clause-are
record_feeds-requires-clause-are g c = λ κs within. ready_are _ _ _ _ _ _ _ _ _ c.in_ok-out.ensures.ready

pub record_feeds-requires-clause-some : goal.record_feeds-requires-clause-some
record_feeds-requires-clause-some g c = λ κs within. ready_some _ _ _ _ _ _ _ _ _ c.in_ok-out.ensures.ready

pub record_feeds-requires-clause-few : goal.record_feeds-requires-clause-few
record_feeds-requires-clause-few g c = λ κs within. ready_few _ _ _ _ _ _ _ _ _ c.in_ok-out.ensures.ready

pub record_feeds-requires-clause-short : goal.record_feeds-requires-clause-short
record_feeds-requires-clause-short g c = λ κs within. ready_short _ _ _ _ _ _ _ _ _ c.in_ok-out.ensures.ready

pub record_feeds-requires-clause-feeds : goal.record_feeds-requires-clause-feeds
record_feeds-requires-clause-feeds g c = λ κs within. ready_feeds _ _ _ _ _ _ _ _ _ c.in_ok-out.ensures.ready

pub returns-clause-written : goal.returns-clause-written
returns-clause-written g c =
    IfOk-weaker c.record_feeds.result _ _ (λ w is.
    file_written g.D.Source.Source.left g.D.Source.Source.faults g.D.Source.Source.mark (g.D.Dock.contents c.args.dock.now) c.args.words.now _ _ _ _ _ _ _ _ _ _ _ _ _ _ _ c.in_ok-out.ensures.target c.in_ok-out.ensures.held c.in_ok-out.ensures.ready is) c.record_feeds.ensures.written

pub returns-clause-not_written : goal.returns-clause-not_written
returns-clause-not_written g c = λ e.
    let w = c.record_feeds.ensures.not_written e in
    let T : Option (List ℕ) → Type 0 = λ o. Becomes o (g.D.Dock.target w.0) c.in_ok-out.field-0.out.now in
    let H : Option (List ℕ) → Type 0 = λ o. Becomes o (g.D.Sink.held w.0) [] in (
      cut_file g.D.Source.Source.left (g.D.Dock.contents c.args.dock.now) c.args.words.now _ _ _ _ _ _ _ _ _ _ _ _ c.in_ok-out.ensures.target c.in_ok-out.ensures.held c.in_ok-out.ensures.ready w.3,
      w.0,
      (subst T c.in_ok-out.ensures.target w.1.0, subst H c.in_ok-out.ensures.held w.1.1),
      w.2,
    )

pub returns-clause-numbers : goal.returns-clause-numbers
returns-clause-numbers g c = λ e.
    let o = c.in_ok-out in
    let T : Option (List ℕ) → Type 0 = λ x. g.D.Dock.target c.record_feeds.new.dock ≡ x in
    let H : Option (List ℕ) → Type 0 = λ x. g.D.Sink.held c.record_feeds.new.dock ≡ x in
    elim (c.record_feeds.ensures.numbers e) [
      | inl k ↦ inl (subst T o.ensures.target k.0, subst H o.ensures.held k.1)
      | inr k ↦ inr (record { out = o.field-0.out.now; plan = o.ensures.ready.plan; streams = o.field-0.streams.items; asked = o.ensures.ready.asked; texts = k })
    ]

pub returns-clause-memory : goal.returns-clause-memory
returns-clause-memory g c = λ e.
    let o = c.in_ok-out in
    let T : Option (List ℕ) → Type 0 = λ x. g.D.Dock.target c.record_feeds.new.dock ≡ x in
    let H : Option (List ℕ) → Type 0 = λ x. g.D.Sink.held c.record_feeds.new.dock ≡ x in
    elim (c.record_feeds.ensures.memory e) [
      | inl k ↦ inl (subst T o.ensures.target k.0, subst H o.ensures.held k.1)
      | inr k ↦ inr (cut_file g.D.Source.Source.left (g.D.Dock.contents c.args.dock.now) c.args.words.now _ _ _ _ _ _ _ _ _ _ _ _ o.ensures.target o.ensures.held o.ensures.ready k)
    ]

pub returns-in_err-out-clause-asks_all : goal.returns-in_err-out-clause-asks_all
returns-in_err-out-clause-asks_all g c = λ wrote.
    let is : c.in_err-out.field-0.0 ≡ fault.Write = is_write c.from_residual.result c.in_err-out.field-0.0 c.from_residual.ensures.1 wrote in
    absurd (c.in_err-out.ensures.no_write (ap Err is))

pub returns-in_err-out-clause-quiet : goal.returns-in_err-out-clause-quiet
returns-in_err-out-clause-quiet g c = λ other.
    c.in_err-out.ensures.quiet (λ f. other (handed_back c.from_residual.result c.in_err-out.field-0.0 _ c.from_residual.ensures.1 f))

pub returns-in_err-out-clause-writes : goal.returns-in_err-out-clause-writes
returns-in_err-out-clause-writes g c =
    let same = c.in_err-out.ensures.write_faults in
    record {
      later = omega (arith, same);
      rose = λ e. absurd (c.in_err-out.ensures.no_write (handed c.from_residual.result c.in_err-out.field-0.0 _ c.from_residual.ensures.1 e));
      quiet = λ _. same;
    }

pub returns-clause-asks : goal.returns-clause-asks
returns-clause-asks g c = output_asked _ c.args.words.now c.in_ok-out.field-0.out.now _ _ _ c.in_ok-out.ensures.asks_all c.record_feeds.ensures.asks

pub returns-clause-asks_all : goal.returns-clause-asks_all
returns-clause-asks_all g c = λ wrote.
    whole_asked _ c.args.words.now c.in_ok-out.field-0.out.now _ _ _ c.in_ok-out.ensures.asks_all (c.record_feeds.ensures.asks_all (not_memory c.record_feeds.result wrote))

pub returns-clause-failed : goal.returns-clause-failed
returns-clause-failed g c = λ e.
    inl (output_failed _ c.args.words.now c.in_ok-out.field-0.out.now _ _ _ c.in_ok-out.ensures.asks_all _ _ (fails_from (c.record_feeds.ensures.not_created e).0 (c.in_ok-out.ensures.quiet (λ f. absurd (cc f)))))

pub returns-clause-quiet : goal.returns-clause-quiet
returns-clause-quiet g c = λ other. c.record_feeds.ensures.quiet other ∙ c.in_ok-out.ensures.quiet (λ f. absurd (cc f))

pub returns-clause-writes : goal.returns-clause-writes
returns-clause-writes g c =
    let wrote = c.record_feeds.ensures.writes in
    let same = c.in_ok-out.ensures.write_faults in
    record {
      later = omega (arith, wrote.later, same);
      rose = λ e. let rose = wrote.rose e in omega (arith, rose, same);
      quiet = λ other. wrote.quiet other ∙ same;
    }
