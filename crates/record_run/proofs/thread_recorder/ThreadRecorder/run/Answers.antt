use Rattle.std.proofs.Common.{◌≢◌, ℕ, List, subst}
use Rattle.plan_model.specs.declared.plan.Mode.TheVariants.{Threads}
use Rattle.recording_model.specs.declared.stream.StreamDoc.{StreamDoc}
use Rattle.run_model.specs.declared.feed.FeedSource.{FeedSource}
use Rattle.run_model.specs.declared.outcome.Outcome.TheVariants as outcome
use Rattle.run_model.specs.Fitting.{AreNumbers}
use Rattle.run_model.specs.Outcomes.{IsDone, IsStopped}
use Rattle.thread_run.specs.Opening.{AreThreadsFor}
use Rattle.record_run.specs.Opening.{ThreadsRoom}
use Rattle.record_run.proofs.thread_recorder.ThreadRecorder.run.Goals as goal

pub returns-clause-done : goal.returns-clause-done
returns-clause-done g c =
    let P : ThreadsRoom g.row.S.Denot → Type 0 = λ r. (ring : ℕ) (streams : List StreamDoc) (feeds : List (FeedSource g.row.S.Denot)) → AreThreadsFor ring r.batch streams feeds r.desk r.feeds
    → IsDone g.S.Source.left g.S.Source.faults g.S.Source.mark Threads ring r.batch streams feeds (g.K.Sink.held c.args.sink.now) (g.K.Sink.held c.record.new.sink) c.record.result.0 in
    subst P c.self.view_is c.record.ensures.done

pub returns-clause-stopped : goal.returns-clause-stopped
returns-clause-stopped g c =
    let P : ThreadsRoom g.row.S.Denot → Type 0 = λ r. (ring : ℕ) (streams : List StreamDoc) (feeds : List (FeedSource g.row.S.Denot)) → AreThreadsFor ring r.batch streams feeds r.desk r.feeds
    → IsStopped g.S.Source.left streams feeds (g.K.Sink.held c.args.sink.now) (g.K.Sink.held c.record.new.sink) c.record.result.0 in
    subst P c.self.view_is c.record.ensures.stopped

pub returns-clause-memory : goal.returns-clause-memory
returns-clause-memory g c =
    let P : ThreadsRoom g.row.S.Denot → Type 0 = λ r. (ring : ℕ) (streams : List StreamDoc) (feeds : List (FeedSource g.row.S.Denot)) → AreThreadsFor ring r.batch streams feeds r.desk r.feeds
    → AreNumbers streams → c.record.result.0 ≢ outcome.Memory in
    subst P c.self.view_is c.record.ensures.memory
