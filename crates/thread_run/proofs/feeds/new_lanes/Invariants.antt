use Rattle.std.proofs.Common.{◌≡◌, ◌≤◌, ◌+◌, false, ℕ, length, drop, slice_get, Some, vec_capacity}
use Rattle.halt_word.specs.Ends.{AreNew}
use Rattle.recording_model.specs.declared.stream.StreamDoc.{StreamDoc}
use Rattle.run_model.specs.declared.feed.FeedSource.{FeedSource}
use Rattle.thread_run.specs.declared.work.Work.{Work}
use Rattle.thread_run.specs.declared.lane.CountedHead.{CountedHead}
use Rattle.thread_run.specs.Opening.{IsNewLane}
use Rattle.thread_run.proofs.feeds.new_lanes.Given as goal

abbrev pub invariant-loop-place : goal.invariant-loop-place
invariant-loop-place g l = record {
  left : l.feeds.items ≡ drop l.place l.fn.feeds.items;
  work_count : length l.works.items ≡ l.place;
  head_count : length l.heads.items ≡ l.place;
  work_room : length l.streams ≤ vec_capacity l.works;
  head_room : length l.streams ≤ vec_capacity l.heads;
  each : (p : ℕ) (stream : StreamDoc) (feed : FeedSource g.row.S.Denot) (work : Work g.row.S.Denot) (head : CountedHead) → slice_get l.streams p ≡ Some stream → slice_get l.fn.feeds.items p ≡ Some feed
      → slice_get l.works.items p ≡ Some work → slice_get l.heads.items p ≡ Some head → IsNewLane l.ring stream feed work head;
  left_lookers : length l.lookers.lookers + l.place ≡ length l.streams;
  new : AreNew l.lookers.lookers;
  word : l.lookers.word ≡ l.fn.lookers.word;
  space : l.lookers.room ≡ l.fn.lookers.room;
  unseen : (p : ℕ) (work : Work g.row.S.Denot) → slice_get l.works.items p ≡ Some work → (work.looker.word ≡ l.fn.lookers.word) × (work.looker.saw ≡ false);
}
