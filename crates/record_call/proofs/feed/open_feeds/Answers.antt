use Rattle.record_call.proofs.Asking.{asks_all_of}
use Rattle.record_call.proofs.Feeds.{zip_long}
use Rattle.run_model.proofs.Errors.{handed, handed_back}
use Rattle.plan_model.specs.declared.plan.FeedLine.{FeedLine}
use Rattle.recording_model.specs.declared.stream.StreamDoc.{StreamDoc}
use Rattle.record_call.proofs.Asking.{fails_from, fails_next, front_next, front_some}
use Rattle.std.proofs.Common.{rules, ◌≡◌, ◌<◌, ◌∙◌, ℕ, get_or, inl, inr, List, ◌+◌, length, take, slice_get, Some, refl, sym, subst, arith}
use Rattle.std.specs.List.{zip}
use Rattle.std.proofs.lemmas.Option.{slice_get_read}
use Rattle.run_model.specs.declared.feed.FeedSource.{FeedSource}
use Rattle.record_call.specs.Feeds.{feed_name, AreSourcesOpened}
use Rattle.record_call.proofs.Asking.{asks_next}
use Rattle.record_call.proofs.Feeds.{beside, sources_next, sources_all}
use Rattle.record_call.proofs.feed.open_feeds.Goals as goal

pub loop-i-preserved : goal.loop-i-preserved
loop-i-preserved g c =
    let feeds = c.args.feeds.now in
    let streams = c.args.streams.now in
    let P : List (FeedSource g.row.D-Source.Denot) → Type 0 = λ items. AreSourcesOpened g.D.Source.Source.left (g.D.Dock.contents c.args.dock.now) (g.D.Dock.contents c.open_feed.new.dock) (take (c.loop-i.i + 1) (zip feeds streams)) items in
    let stream = c.index-streams-i.result in
    let at : slice_get streams c.loop-i.i ≡ Some stream = slice_get_read streams (length streams) c.loop-i.i stream refl (omega (arith, c.loop-i-test.true, c.len-i-end.ensures, c.requires.streams)) c.index-streams-i.is in
    record {
      opened = subst P (sym c.in-Ok.ensures.items) (sources_next g.D.Source.Source.left _ (g.D.Dock.contents c.loop-i.dock) _ feeds streams c.loop-i.i c.loop-i.sources.items c.in-Some.feed.now stream c.in_ok-source.source c.in-Some.ensures at c.loop-i.invariant.opened c.in_ok-source.ensures.opened);
      asks = asks_next feed_name _ _ _ (zip feeds streams) c.loop-i.i (c.in-Some.feed.now, stream) (beside feeds streams c.loop-i.i c.in-Some.feed.now stream (sym c.in-Some.ensures) at) c.loop-i.invariant.asks c.in_ok-source.ensures.asks_all;
      quiet = search rules;
      write_faults = search rules;
      target = search rules;
      held = search rules;
      printed = search rules;
      print_faults = search rules;
    }

pub returns-clause-opened : goal.returns-clause-opened
returns-clause-opened g c =
    sources_all g.D.Source.Source.left _ _ c.args.feeds.now c.args.streams.now c.loop-i.i c.loop-i.sources.items c.requires.streams (omega (arith, c.loop-i-test.false, c.len-i-end.ensures)) c.loop-i.invariant.opened

-- the feed at the place, beside its stream
there : (feeds : List FeedLine) (streams : List StreamDoc) (i n : ℕ) (feed : FeedLine) (stream : StreamDoc) → Some feed ≡ slice_get feeds i → stream ≡ get_or streams i stream → i < n → n ≡ length feeds → length streams ≡ length feeds
    → slice_get (zip feeds streams) i ≡ Some (feed, stream)
there feeds streams i n feed stream feed_is stream_is low count same =
    beside feeds streams i feed stream (sym feed_is) (slice_get_read streams (length streams) i stream refl (omega (arith, low, count, same)) stream_is)

pub returns-in_err-source-clause-failed : goal.returns-in_err-source-clause-failed
returns-in_err-source-clause-failed g c = λ e.
    let stream = c.index-streams-i.result in
    let at = there c.args.feeds.now c.args.streams.now c.loop-i.i _ c.in-Some.feed.now stream c.in-Some.ensures c.index-streams-i.is c.loop-i-test.true c.len-i-end.ensures c.requires.streams in
    fails_from (fails_next feed_name _ _ _ (zip c.args.feeds.now c.args.streams.now) c.loop-i.i (c.in-Some.feed.now, stream) _ _ at c.loop-i.invariant.asks
    (c.in_err-source.ensures.failed (handed c.from_residual.result c.in_err-source.field-0.0 _ c.from_residual.ensures.1 e))) c.loop-i.invariant.quiet

pub returns-in_err-source-clause-none_else : goal.returns-in_err-source-clause-none_else
returns-in_err-source-clause-none_else g c = λ _.
    elim (c.in_err-source.ensures.none_else refl) [
      | inl is ↦ inl (handed_back c.from_residual.result c.in_err-source.field-0.0 _ c.from_residual.ensures.1 is)
      | inr is ↦ inr (handed_back c.from_residual.result c.in_err-source.field-0.0 _ c.from_residual.ensures.1 is)
    ]

pub returns-in_err-source-clause-asks : goal.returns-in_err-source-clause-asks
returns-in_err-source-clause-asks g c =
    let stream = c.index-streams-i.result in
    let at = there c.args.feeds.now c.args.streams.now c.loop-i.i _ c.in-Some.feed.now stream c.in-Some.ensures c.index-streams-i.is c.loop-i-test.true c.len-i-end.ensures c.requires.streams in
    front_next feed_name _ _ _ (zip c.args.feeds.now c.args.streams.now) c.loop-i.i (c.in-Some.feed.now, stream) at c.loop-i.invariant.asks c.in_err-source.ensures.asks

pub returns-in_err-source-clause-quiet : goal.returns-in_err-source-clause-quiet
returns-in_err-source-clause-quiet g c = λ other.
    c.in_err-source.ensures.quiet (λ f. other (handed_back c.from_residual.result c.in_err-source.field-0.0 _ c.from_residual.ensures.1 f)) ∙ c.loop-i.invariant.quiet

pub returns-in-Err-clause-asks : goal.returns-in-Err-clause-asks
returns-in-Err-clause-asks g c =
    let stream = c.index-streams-i.result in
    let at = there c.args.feeds.now c.args.streams.now c.loop-i.i _ c.in-Some.feed.now stream c.in-Some.ensures c.index-streams-i.is c.loop-i-test.true c.len-i-end.ensures c.requires.streams in
    front_next feed_name _ _ _ (zip c.args.feeds.now c.args.streams.now) c.loop-i.i (c.in-Some.feed.now, stream) at c.loop-i.invariant.asks c.in_ok-source.ensures.asks

pub returns-clause-asks : goal.returns-clause-asks
returns-clause-asks g c = front_some feed_name _ _ (zip c.args.feeds.now c.args.streams.now) c.loop-i.i c.loop-i.invariant.asks

pub returns-clause-asks_all : goal.returns-clause-asks_all
returns-clause-asks_all g c =
    let long = zip_long c.args.feeds.now c.args.streams.now c.requires.streams in
    asks_all_of feed_name _ _ (zip c.args.feeds.now c.args.streams.now) c.loop-i.i (omega (arith, long, c.loop-i-test.false, c.len-i-end.ensures)) c.loop-i.invariant.asks
