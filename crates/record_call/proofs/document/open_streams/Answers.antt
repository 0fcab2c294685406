use Rattle.record_call.proofs.Asking.{front_next, front_some}
use Rattle.std.proofs.Common.{rules, List, ◌+◌, take, inl, inr, refl, sym, subst}
use Rattle.recording_model.specs.declared.stream.StreamDoc.{StreamDoc}
use Rattle.record_call.specs.Feeds.{document_name, AreStreamsRead}
use Rattle.run_model.proofs.Errors.{handed, handed_back}
use Rattle.record_call.proofs.Feeds.{streams_next, no_stream, failed_here}
use Rattle.record_call.proofs.Asking.{asks_next, fails_from, fails_next, marks_next}
use Rattle.record_call.proofs.document.open_streams.Goals as goal

pub returns-in_err-stream-clause-none : goal.returns-in_err-stream-clause-none
returns-in_err-stream-clause-none g c = λ id e.
    no_stream (g.D.Dock.contents c.args.dock.now) (g.D.Dock.contents c.loop-i.dock) c.args.feeds.now c.loop-i.i c.loop-i.streams.items c.in-Some.feed.now id c.in-Some.ensures c.loop-i.invariant.read
    (c.in_err-stream.ensures.none id (handed c.from_residual.result c.in_err-stream.field-0.0 _ c.from_residual.ensures.1 e))

pub returns-in_err-stream-clause-failed : goal.returns-in_err-stream-clause-failed
returns-in_err-stream-clause-failed g c = λ e.
    elim (c.in_err-stream.ensures.failed (handed c.from_residual.result c.in_err-stream.field-0.0 _ c.from_residual.ensures.1 e)) [
      | inl at ↦ inl (fails_from (fails_next document_name _ _ _ c.args.feeds.now c.loop-i.i c.in-Some.feed.now _ _ (sym c.in-Some.ensures) c.loop-i.invariant.asks at) c.loop-i.invariant.quiet)
      | inr k ↦ inr (failed_here g.D.Source.Source.left g.D.Source.Source.faults g.D.Source.Source.mark g.D.Dock.input_mark (g.D.Dock.contents c.args.dock.now) (g.D.Dock.contents c.loop-i.dock) (g.D.Dock.marks c.args.dock.now) (g.D.Dock.marks c.loop-i.dock) c.args.feeds.now c.loop-i.i c.loop-i.streams.items c.in-Some.feed.now c.in-Some.ensures c.loop-i.invariant.read c.loop-i.invariant.marks k)
    ]

pub returns-in_err-stream-clause-none_else : goal.returns-in_err-stream-clause-none_else
returns-in_err-stream-clause-none_else g c = λ _.
    elim (c.in_err-stream.ensures.none_else refl) [
      | inl is ↦ inl (handed_back c.from_residual.result c.in_err-stream.field-0.0 _ c.from_residual.ensures.1 is)
      | inr (inl is) ↦ inr (inl (handed_back c.from_residual.result c.in_err-stream.field-0.0 _ c.from_residual.ensures.1 is))
      | inr (inr k) ↦ inr (inr (k.0, handed_back c.from_residual.result c.in_err-stream.field-0.0 _ c.from_residual.ensures.1 k.1))
    ]

pub loop-i-preserved : goal.loop-i-preserved
loop-i-preserved g c =
    let P : List StreamDoc → Type 0 = λ items. AreStreamsRead (g.D.Dock.contents c.args.dock.now) (g.D.Dock.contents c.open_stream.new.dock) (take (c.loop-i.i + 1) c.args.feeds.now) items in
    record {
      read = subst P (sym c.in-Ok.ensures.items) (streams_next _ (g.D.Dock.contents c.loop-i.dock) _ c.args.feeds.now c.loop-i.i c.loop-i.streams.items c.in-Some.feed.now c.in_ok-stream.stream c.in-Some.ensures c.loop-i.invariant.read c.in_ok-stream.ensures.read);
      marks = marks_next document_name _ _ _ c.args.feeds.now c.loop-i.i c.in-Some.feed.now (sym c.in-Some.ensures) c.loop-i.invariant.marks c.in_ok-stream.ensures.marks;
      asks = asks_next document_name _ _ _ c.args.feeds.now c.loop-i.i c.in-Some.feed.now (sym c.in-Some.ensures) c.loop-i.invariant.asks c.in_ok-stream.ensures.asks_all;
      quiet = search rules;
      write_faults = search rules;
      target = search rules;
      held = search rules;
      printed = search rules;
      print_faults = search rules;
    }

pub returns-in_err-stream-clause-asks : goal.returns-in_err-stream-clause-asks
returns-in_err-stream-clause-asks g c =
    front_next document_name _ _ _ c.args.feeds.now c.loop-i.i c.in-Some.feed.now (sym c.in-Some.ensures) c.loop-i.invariant.asks c.in_err-stream.ensures.asks

pub returns-in-Err-clause-asks : goal.returns-in-Err-clause-asks
returns-in-Err-clause-asks g c =
    front_next document_name _ _ _ c.args.feeds.now c.loop-i.i c.in-Some.feed.now (sym c.in-Some.ensures) c.loop-i.invariant.asks c.in_ok-stream.ensures.asks

pub returns-clause-asks : goal.returns-clause-asks
returns-clause-asks g c = front_some document_name _ _ c.args.feeds.now c.loop-i.i c.loop-i.invariant.asks
