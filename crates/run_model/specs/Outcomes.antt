-- How a run went. This project's own.
use Rattle.std.specs.Prelude.{◌≡◌, ℕ, List, ◌++◌, length, map, slice_get, ⊤, Option, Some}
use Rattle.std.specs.Io.KnownBytes.{Appends}
use Rattle.reading_model.specs.Outlook.{ended}
use Rattle.reading_model.specs.Read.{Reader}
use Rattle.xdf_model.specs.Sample.{Sample}
use Rattle.chunk_grammar.specs.declared.chunk.Chunk.{Chunk}
use Rattle.chunk_grammar.specs.Chunk.{least_file_text}
use Rattle.plan_model.specs.declared.plan.Mode.{Mode}
use Rattle.recording_model.specs.declared.stream.StreamDoc.{StreamDoc}
use Rattle.inlet_model.specs.declared.end.FeedEnd.{FeedEnd}
use Rattle.loss_model.specs.Partial.{IsPartialRecording}
use Rattle.record_writer.specs.Desk.{capped}
use Rattle.run_model.specs.declared.feed.FeedSource.{FeedSource}
use Rattle.run_model.specs.declared.outcome.Outcome.{Outcome}
use Rattle.run_model.specs.declared.outcome.Outcome.TheVariants.{Done, WriteFault, Memory}
use Rattle.run_model.specs.declared.report.FeedReport.{FeedReport}
use Rattle.run_model.specs.Run.{Fed, IsRun, feed_of, report_of}

-- the file of the recording of the feeds in this mode was written, what is reported is so, and these are the sources as the reading left them
pub record IsRecorded {S M : Type 0} (left_of : S → Option (List ℕ)) (faults_of : S → ℕ) (mark_of : S → M) (mode : Mode) (ring batch : ℕ) (streams : List StreamDoc) (feeds : List (FeedSource S)) (before now : Option (List ℕ)) (reports : List FeedReport) (bytes count : ℕ) (sources : List S) : Type 0 where
  pub fed : List (Fed S)
  pub chunks : List Chunk
  pub run : IsRun left_of faults_of mark_of mode ring batch streams feeds fed chunks
  pub written : Appends before now (least_file_text chunks)
  pub told : reports ≡ map (report_of chunks) fed
  pub size : bytes ≡ capped (length (least_file_text chunks))
  pub chunk_count : count ≡ capped (length chunks)
  pub left : sources ≡ map (λ x. x.last) fed

abbrev pub IsDone : {S M : Type 0} → (S → Option (List ℕ)) → (S → ℕ) → (S → M) → Mode → ℕ → ℕ → List StreamDoc → List (FeedSource S) → Option (List ℕ) → Option (List ℕ) → Outcome S → Type 0
IsDone left_of faults_of mark_of mode ring batch streams feeds before now (Done reports bytes count sources) = IsRecorded left_of faults_of mark_of mode ring batch streams feeds before now reports bytes count sources
IsDone left_of faults_of mark_of mode ring batch streams feeds before now WriteFault = ⊤
IsDone left_of faults_of mark_of mode ring batch streams feeds before now Memory = ⊤

-- samples that come first of those that the whole of a source's bytes gives, where it tells them
abbrev pub AreFirstOf : {S : Type 0} → (S → Option (List ℕ)) → Reader Sample FeedEnd → S → List Sample → Type 0
AreFirstOf left_of reader source samples = (text : List ℕ) → left_of source ≡ Some text → (more : List Sample) × ((reader text ended).0 ≡ samples ++ more)

-- all samples that the whole of a feed's bytes gives, where its source tells them
abbrev pub AreAllOf : {S : Type 0} → (S → Option (List ℕ)) → StreamDoc → FeedSource S → List Sample → Type 0
AreAllOf left_of stream feed samples = (text : List ℕ) → left_of feed.source ≡ Some text → samples ≡ (feed_of stream feed text ended).0

-- the text is what a recording of these feeds holds that was stopped somewhere, each feed being the whole of what its source would have given
pub record IsPartOf {S : Type 0} (left_of : S → Option (List ℕ)) (streams : List StreamDoc) (feeds : List (FeedSource S)) (text : List ℕ) : Type 0 where
  pub lists : List (List Sample)
  pub count : length lists ≡ length streams
  pub each : (place : ℕ) (stream : StreamDoc) (feed : FeedSource S) (samples : List Sample) → slice_get streams place ≡ Some stream → slice_get feeds place ≡ Some feed
      → slice_get lists place ≡ Some samples → AreAllOf left_of stream feed samples
  pub partial : IsPartialRecording streams lists text

-- such a text was written
pub record IsCutOff {S : Type 0} (left_of : S → Option (List ℕ)) (streams : List StreamDoc) (feeds : List (FeedSource S)) (before now : Option (List ℕ)) : Type 0 where
  pub text : List ℕ
  pub written : Appends before now text
  pub part : IsPartOf left_of streams feeds text

abbrev pub IsStopped : {S : Type 0} → (S → Option (List ℕ)) → List StreamDoc → List (FeedSource S) → Option (List ℕ) → Option (List ℕ) → Outcome S → Type 0
IsStopped left_of streams feeds before now (Done reports bytes count sources) = ⊤
IsStopped left_of streams feeds before now WriteFault = IsCutOff left_of streams feeds before now
IsStopped left_of streams feeds before now Memory = IsCutOff left_of streams feeds before now
