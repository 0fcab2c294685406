use Rattle.std.proofs.Common.{◌≡◌, ℕ, length, drop, slice_get, Some}
use Rattle.recording_model.specs.declared.stream.StreamDoc.{StreamDoc}
use Rattle.run_model.specs.declared.feed.FeedSource.{FeedSource}
use Rattle.record_run.specs.Inlets.{InletView}
use Rattle.record_run.specs.Opening.{IsNewInlet}
use Rattle.record_run.proofs.turn_recorder.new_inlets.Given as goal

abbrev pub invariant-loop-place : goal.invariant-loop-place
invariant-loop-place g l = record {
  left : l.feeds.items ≡ drop l.place l.fn.feeds.items;
  count : length l.inlets.items ≡ l.place;
  each : (p : ℕ) (stream : StreamDoc) (feed : FeedSource g.row.S.Denot) (x : InletView g.row.S.Denot) → slice_get l.streams p ≡ Some stream → slice_get l.fn.feeds.items p ≡ Some feed
      → slice_get l.inlets.items p ≡ Some x → IsNewInlet l.ring stream feed x;
}
