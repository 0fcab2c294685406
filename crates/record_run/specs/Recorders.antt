-- A recorder that is open, in either mode. This project's own.
use Rattle.std.specs.Prelude.{◌≡◌, ℕ, List, ⊤}
use Rattle.plan_model.specs.declared.plan.Mode.{Mode}
use Rattle.plan_model.specs.declared.plan.Mode.TheVariants.{Threads, Turns}
use Rattle.recording_model.specs.declared.stream.StreamDoc.{StreamDoc}
use Rattle.run_model.specs.declared.feed.FeedSource.{FeedSource}
use Rattle.thread_run.specs.Opening.{AreThreadsFor}
use Rattle.record_run.specs.Opening.{TurnsView, AreTurnsFor, ThreadsRoom}
use Rattle.record_run.specs.declared.recorder.Modes.{Modes}
use Rattle.record_run.specs.declared.recorder.Modes.TheVariants as modes

-- a recorder, as contracts see it
pub data RecorderView (S : Type 0) : Type 0 where
  by_turns : TurnsView S → RecorderView S
  by_threads : ThreadsRoom S → RecorderView S

abbrev pub view_in : {S : Type 0} → Modes S → RecorderView S
view_in (modes.Turns r) = by_turns r
view_in (modes.Threads r) = by_threads r

-- the recorder records in this mode
abbrev pub IsIn : {S : Type 0} → Mode → RecorderView S → Type 0
IsIn Turns (by_turns r) = ⊤
IsIn Turns (by_threads r) = ⊥
IsIn Threads (by_turns r) = ⊥
IsIn Threads (by_threads r) = ⊤

-- the recorder is to record these feeds as these streams in this mode, with rings and batches of these sizes
abbrev pub IsOpenFor : {S : Type 0} → Mode → ℕ → ℕ → List StreamDoc → List (FeedSource S) → RecorderView S → Type 0
IsOpenFor Turns ring batch streams feeds (by_turns r) = AreTurnsFor ring batch streams feeds r
IsOpenFor Turns ring batch streams feeds (by_threads r) = ⊥
IsOpenFor Threads ring batch streams feeds (by_turns r) = ⊥
IsOpenFor Threads ring batch streams feeds (by_threads r) = (r.batch ≡ batch) × AreThreadsFor ring batch streams feeds r.desk r.feeds
