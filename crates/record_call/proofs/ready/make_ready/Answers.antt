use Rattle.std.proofs.Common.{inl, List, ℕ, ◌∷◌, length, refl, sym, ap, ◌∙◌, subst}
use Rattle.std.specs.List.{zip}
use Rattle.rec_base.specs.declared.name.Name.TheVariants as name
use Rattle.dock_calls.specs.Places.{IsAfter}
use Rattle.recording_model.specs.declared.stream.StreamDoc.{StreamDoc}
use Rattle.rec_base.specs.Asked.{AsksAll, AsksFront}
use Rattle.dock_calls.specs.Asking.{FailsAt, openings}
use Rattle.record_call.specs.Orders.{document_order}
use Rattle.run_model.proofs.Errors.{handed, handed_back}
use Rattle.record_call.proofs.Asking.{fails_from}
use Rattle.record_call.proofs.Orders.{feeds_asked, feed_failed, inputs_asked}
use Rattle.record_call.specs.Feeds.{document_name, feed_name, names_of, IsStreamOf, AreSourcesOf}
use Rattle.record_call.proofs.Feeds.{each_length}
use Rattle.record_call.proofs.ready.make_ready.Goals as goal

pub open_feeds-requires-clause-streams : goal.open_feeds-requires-clause-streams
open_feeds-requires-clause-streams g c = λ κs within.
    let plan = c.in_ok-plan.field-0.plan in
    let streams = c.in_ok-plan.field-0.streams.items in
    ap length c.deref.ensures.value ∙ each_length document_name (IsStreamOf (g.D.Dock.contents c.args.dock.now)) _ plan.feeds streams c.in_ok-plan.ensures.asked.0.has.streams_of.each

pub returns-clause-ready : goal.returns-clause-ready
returns-clause-ready g c =
    let before = g.D.Dock.contents c.args.dock.now in
    let plan = c.in_ok-plan.field-0.plan in
    let asked = c.in_ok-plan.ensures.asked in
    let names = name.File asked.0.has.path ∷ names_of document_name plan.feeds in
    let P : List ℕ → Type 0 = λ path. IsAfter before (g.D.Dock.contents c.read_asked.new.dock) (name.File path ∷ names_of document_name plan.feeds) in
    let Q : List StreamDoc → Type 0 = λ streams. AreSourcesOf g.D.Source.Source.left before names (zip plan.feeds streams) c.in_ok-feeds.feeds.items in
    record {
      plan = plan;
      mode_is = refl;
      ring_is = refl;
      batch_is = refl;
      sound = c.in_ok-plan.ensures.sound;
      asked = asked.0;
      opened = subst Q c.deref.ensures.value (c.in_ok-feeds.ensures.opened.are before names (subst P (sym asked.1) c.in_ok-plan.ensures.after));
    }

pub returns-in_err-plan-clause-asks : goal.returns-in_err-plan-clause-asks
returns-in_err-plan-clause-asks g c = c.in_err-plan.ensures.asks

pub returns-in_err-feeds-clause-asks : goal.returns-in_err-feeds-clause-asks
returns-in_err-feeds-clause-asks g c =
    let asked = c.in_ok-plan.ensures.asked in
    let plan = c.in_ok-plan.field-0.plan in
    let P : List ℕ → Type 0 = λ path. AsksAll (g.D.Dock.asked c.args.dock.now) (g.D.Dock.asked c.read_asked.new.dock) (document_order path plan) in
    let Q : List StreamDoc → Type 0 = λ streams. AsksFront (g.D.Dock.asked c.read_asked.new.dock) (g.D.Dock.asked c.open_feeds.new.dock) (openings (names_of feed_name (zip plan.feeds streams))) in
    feeds_asked _ c.args.words.now _ plan c.in_ok-plan.field-0.streams.items asked.0 _ _ _ (subst P (sym asked.1) c.in_ok-plan.ensures.asks_all) (subst Q c.deref.ensures.value c.in_err-feeds.ensures.asks)

pub returns-in_err-feeds-clause-failed : goal.returns-in_err-feeds-clause-failed
returns-in_err-feeds-clause-failed g c = λ e.
    let asked = c.in_ok-plan.ensures.asked in
    let plan = c.in_ok-plan.field-0.plan in
    let P : List ℕ → Type 0 = λ path. AsksAll (g.D.Dock.asked c.args.dock.now) (g.D.Dock.asked c.read_asked.new.dock) (document_order path plan) in
    let at = fails_from (c.in_err-feeds.ensures.failed (handed c.from_residual-in_err-feeds.result c.in_err-feeds.field-0.0 _ c.from_residual-in_err-feeds.ensures.1 e)) (c.in_ok-plan.ensures.quiet (λ f. absurd (cc f))) in
    let F : List StreamDoc → Type 0 = λ streams. FailsAt (g.D.Dock.asked c.read_asked.new.dock) (g.D.Dock.asked c.open_feeds.new.dock) (openings (names_of feed_name (zip plan.feeds streams))) (g.D.Dock.open_faults c.args.dock.now) (g.D.Dock.open_faults c.open_feeds.new.dock) in
    inl (feed_failed _ c.args.words.now _ plan c.in_ok-plan.field-0.streams.items asked.0 _ _ _ _ _ (subst P (sym asked.1) c.in_ok-plan.ensures.asks_all) (subst F c.deref.ensures.value at))

pub returns-in_err-feeds-clause-quiet : goal.returns-in_err-feeds-clause-quiet
returns-in_err-feeds-clause-quiet g c = λ other.
    c.in_err-feeds.ensures.quiet (λ f. other (handed_back c.from_residual-in_err-feeds.result c.in_err-feeds.field-0.0 _ c.from_residual-in_err-feeds.ensures.1 f))
    ∙ c.in_ok-plan.ensures.quiet (λ f. absurd (cc f))

pub returns-clause-asks : goal.returns-clause-asks
returns-clause-asks g c =
    let asked = c.in_ok-plan.ensures.asked in
    let plan = c.in_ok-plan.field-0.plan in
    let P : List ℕ → Type 0 = λ path. AsksAll (g.D.Dock.asked c.args.dock.now) (g.D.Dock.asked c.read_asked.new.dock) (document_order path plan) in
    let Q : List StreamDoc → Type 0 = λ streams. AsksFront (g.D.Dock.asked c.read_asked.new.dock) (g.D.Dock.asked c.open_feeds.new.dock) (openings (names_of feed_name (zip plan.feeds streams))) in
    feeds_asked _ c.args.words.now _ plan c.in_ok-plan.field-0.streams.items asked.0 _ _ _ (subst P (sym asked.1) c.in_ok-plan.ensures.asks_all) (subst Q c.deref.ensures.value c.in_ok-feeds.ensures.asks)

pub returns-clause-asks_all : goal.returns-clause-asks_all
returns-clause-asks_all g c =
    let asked = c.in_ok-plan.ensures.asked in
    let plan = c.in_ok-plan.field-0.plan in
    let P : List ℕ → Type 0 = λ path. AsksAll (g.D.Dock.asked c.args.dock.now) (g.D.Dock.asked c.read_asked.new.dock) (document_order path plan) in
    let Q : List StreamDoc → Type 0 = λ streams. AsksAll (g.D.Dock.asked c.read_asked.new.dock) (g.D.Dock.asked c.open_feeds.new.dock) (openings (names_of feed_name (zip plan.feeds streams))) in
    inputs_asked _ c.args.words.now _ plan c.in_ok-plan.field-0.streams.items asked.0 _ _ _ (subst P (sym asked.1) c.in_ok-plan.ensures.asks_all) (subst Q c.deref.ensures.value c.in_ok-feeds.ensures.asks_all)
