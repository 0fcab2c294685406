-- The end of a run by threads. This project's own.
use Rattle.std.specs.Prelude.{◌≡◌, ◌≢◌, ℕ, ◌-◌, List, slice_get, Option, Some}
use Rattle.inlet_model.specs.declared.end.FeedEnd.{FeedEnd}
use Rattle.inlet_model.specs.declared.end.FeedEnd.TheVariants.{Whole}
use Rattle.plan_model.specs.declared.plan.Mode.TheVariants.{Threads}
use Rattle.recording_model.specs.declared.stream.StreamDoc.{StreamDoc}
use Rattle.recording_model.specs.Batch.{Batch}
use Rattle.loss_model.specs.Loss.{AreOf, entries_at}
use Rattle.record_writer.specs.Desk.{DeskState}
use Rattle.record_writer.specs.Standing.{IsCut}
use Rattle.run_model.specs.declared.feed.FeedSource.{FeedSource}
use Rattle.run_model.specs.declared.outcome.Outcome.{Outcome}
use Rattle.run_model.specs.declared.outcome.Outcome.TheVariants as outcome
use Rattle.run_model.specs.declared.report.FeedReport.{FeedReport}
use Rattle.run_model.specs.Fitting.{AreNumbers}
use Rattle.run_model.specs.Outcomes.{IsDone, IsStopped}
use Rattle.thread_run.specs.declared.work.InletDone.{InletDone}
use Rattle.thread_run.specs.declared.work.InletDone.TheVariants.{Ended, Memory, Halted}
use Rattle.thread_run.specs.declared.work.Work.{Work}
use Rattle.thread_run.specs.declared.work.Worked.{Worked}
use Rattle.thread_run.specs.declared.settle.Joined.{Joined}
use Rattle.thread_run.specs.Settled.{AreSettled, AreWorked}
use Rattle.thread_run.specs.Opening.{ThreadsView, AreThreadsFor}

-- the works were done and their lanes emptied, and the writer stands for some batches of what came
pub record HaveSettled {S M : Type 0} (left_of : S → Option (List ℕ)) (faults_of : S → ℕ) (mark_of : S → M) (batch : ℕ) (streams : List StreamDoc) (base held : Option (List ℕ)) (desk : DeskState) (works : List (Work S)) (all : List (Joined S)) : Type 0 where
  pub batches : List Batch
  pub worked : List (Worked S)
  pub are_worked : AreWorked left_of faults_of mark_of works worked
  pub are_settled : AreSettled batch streams base held desk batches worked all

-- a writer failed: what is held is cut off in the recording of some batches, whose entries are of what the inlets had put
pub record HaveCut {S M : Type 0} (left_of : S → Option (List ℕ)) (faults_of : S → ℕ) (mark_of : S → M) (streams : List StreamDoc) (base held : Option (List ℕ)) (works : List (Work S)) : Type 0 where
  pub some : List Batch
  pub cut : IsCut streams base held some
  pub worked : List (Worked S)
  pub are_worked : AreWorked left_of faults_of mark_of works worked
  pub each : (place : ℕ) (w : Worked S) → slice_get worked place ≡ Some w → AreOf w.tail.puts (entries_at place some)

-- no inlet was stopped
abbrev pub NoneHalted : {S : Type 0} → List (Joined S) → Type 0
NoneHalted {S = S} all = (p : ℕ) (s : Joined S) → slice_get all p ≡ Some s → s.done ≢ Halted

-- every feed has ended
abbrev pub HaveEnded : {S : Type 0} → List (Joined S) → Type 0
HaveEnded {S = S} all = (p : ℕ) (s : Joined S) → slice_get all p ≡ Some s → (e : FeedEnd) × (s.done ≡ Ended e)

-- how a feed ended; where it didn't, nothing is said by this
abbrev pub end_in : InletDone → FeedEnd
end_in (Ended e) = e
end_in Memory = Whole
end_in Halted = Whole

-- what is reported of a feed
abbrev pub report_in : {S : Type 0} → Joined S → FeedReport
report_in s = record { id = s.id; received = s.reader.inlet.received; kept = s.lane.kept; lost = s.reader.inlet.received - s.lane.kept; end = end_in s.done }

-- what a run of these feeds came to
pub record HaveRun {S M : Type 0} (left_of : S → Option (List ℕ)) (faults_of : S → ℕ) (mark_of : S → M) (batch : ℕ) (desk : DeskState) (v : ThreadsView S) (before now : Option (List ℕ)) (told : Outcome S) : Type 0 where
  pub done : (ring : ℕ) (streams : List StreamDoc) (feeds : List (FeedSource S)) → AreThreadsFor ring batch streams feeds desk v → IsDone left_of faults_of mark_of Threads ring batch streams feeds before now told
  pub stopped : (ring : ℕ) (streams : List StreamDoc) (feeds : List (FeedSource S)) → AreThreadsFor ring batch streams feeds desk v → IsStopped left_of streams feeds before now told
  pub memory : (ring : ℕ) (streams : List StreamDoc) (feeds : List (FeedSource S)) → AreThreadsFor ring batch streams feeds desk v → AreNumbers streams → told ≢ outcome.Memory
