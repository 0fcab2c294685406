-- What is recorded, and what is left of it.
use Rattle.std.specs.Prelude.{◌≡◌, ℕ, ◌<◌, ◌≤◌, List, [], ◌∷◌, length, map, Option}
use Rattle.std.specs.List.{zip}
use Rattle.rec_base.specs.declared.name.Name.TheVariants as name
use Rattle.rec_base.specs.Contents.{Contents, Given}
use Rattle.rec_base.specs.Known.{Becomes}
use Rattle.xdf_model.specs.Sample.{Sample}
use Rattle.chunk_grammar.specs.declared.chunk.Chunk.{Chunk}
use Rattle.chunk_grammar.specs.Chunk.{least_file_text}
use Rattle.plan_model.specs.declared.plan.Mode.{Mode}
use Rattle.plan_model.specs.declared.plan.Plan.{Plan}
use Rattle.recording_model.specs.declared.stream.StreamDoc.{StreamDoc}
use Rattle.loss_model.specs.Partial.{IsPartialRecording}
use Rattle.record_writer.specs.Desk.{capped}
use Rattle.run_model.specs.declared.feed.FeedSource.{FeedSource}
use Rattle.run_model.specs.declared.report.FeedReport.{FeedReport}
use Rattle.record_run.specs.Cost.{cost_of}
use Rattle.run_model.specs.Fitting.{AreNumbers}
use Rattle.run_model.specs.Run.{Fed, IsRun, report_of}
use Rattle.run_model.specs.Outcomes.{IsPartOf}
use Rattle.plan_model.specs.Sound.{IsPlan}
use Rattle.record_call.specs.Feeds.{document_name, names_of, AreStreamsOf, AreSourcesOf, AreToldOf, AreWholeOf, HasNoStream, HasFailedDocument}
use Rattle.record_call.specs.Lines.{record_lines}
use Rattle.record_call.specs.Plans.{IsPlanned}

-- the most bytes that the rings of a plan may cost
abbrev pub cost_limit : ℕ
cost_limit = 1_073_741_824

-- the feeds of the plan that the words ask for have these streams
pub record HasStreams (contents : Option Contents) (words : List (List ℕ)) (out : List ℕ) (plan : Plan) (streams : List StreamDoc) : Type 0 where
  pub path : List ℕ
  pub planned : IsPlanned contents words path out plan
  pub streams_of : AreStreamsOf contents (name.File path ∷ []) plan.feeds streams

-- what the rings of these streams cost in this plan
abbrev pub asked_cost : Plan → List StreamDoc → ℕ
asked_cost plan streams = cost_of plan.ring (map (λ s. s.shape) streams)

-- the plan that the words ask for can be recorded, as these streams
pub record IsAsked (contents : Option Contents) (words : List (List ℕ)) (out : List ℕ) (plan : Plan) (streams : List StreamDoc) : Type 0 where
  pub has : HasStreams contents words out plan streams
  pub cost : asked_cost plan streams ≤ cost_limit

-- the plan that the words ask for can be recorded, and one of its streams is of texts
pub record HasTexts (contents : Option Contents) (words : List (List ℕ)) : Type 0 where
  pub out : List ℕ
  pub plan : Plan
  pub streams : List StreamDoc
  pub asked : IsAsked contents words out plan streams
  pub texts : AreNumbers streams → ⊥

-- the plan that the words ask for costs so much, which is too much
pub record IsTooMuch (contents : Option Contents) (words : List (List ℕ)) (cost : ℕ) : Type 0 where
  pub out : List ℕ
  pub plan : Plan
  pub streams : List StreamDoc
  pub has : HasStreams contents words out plan streams
  pub is : cost ≡ asked_cost plan streams
  pub over : cost_limit < cost

-- the feed of this id is the first of the plan whose header document is none
pub record HasNoDocument (contents : Option Contents) (words : List (List ℕ)) (id : ℕ) : Type 0 where
  pub path : List ℕ
  pub out : List ℕ
  pub plan : Plan
  pub planned : IsPlanned contents words path out plan
  pub none : HasNoStream contents (name.File path ∷ []) plan.feeds id

-- a read of a header document of the plan failed
pub record HasUnreadDocument {S M I : Type 0} (left_of : S → Option (List ℕ)) (faults_of : S → ℕ) (mark_of : S → M) (input_mark_of : S → I) (contents : Option Contents) (marks : Option (Given I)) (words : List (List ℕ)) : Type 0 where
  pub path : List ℕ
  pub out : List ℕ
  pub plan : Plan
  pub planned : IsPlanned contents words path out plan
  pub failed : HasFailedDocument left_of faults_of mark_of input_mark_of contents marks (name.File path ∷ []) plan.feeds

-- the recording of the plan that the words ask for: the chunks are the recording of its feeds in its mode, the feeds' sources were opened in order
-- behind the documents, and where contents are told, what was received of each is what its text holds
pub record IsRecordingOf {S M : Type 0} (left_of : S → Option (List ℕ)) (faults_of : S → ℕ) (mark_of : S → M) (contents : Option Contents) (words : List (List ℕ)) (out : List ℕ) (fed : List (Fed S)) (chunks : List Chunk) : Type 0 where
  pub plan : Plan
  pub streams : List StreamDoc
  pub asked : IsAsked contents words out plan streams
  pub sources : List (FeedSource S)
  pub opened : AreSourcesOf left_of contents (name.File asked.has.path ∷ names_of document_name plan.feeds) (zip plan.feeds streams) sources
  pub run : IsRun left_of faults_of mark_of plan.mode plan.ring plan.batch streams sources fed chunks
  pub told : AreToldOf contents (name.File asked.has.path ∷ names_of document_name plan.feeds) (zip plan.feeds streams) fed

-- the lines of the recording of these feeds
abbrev pub lines_of : {S : Type 0} → List (Fed S) → List Chunk → List (List ℕ)
lines_of fed chunks = record_lines (map (report_of chunks) fed) (capped (length (least_file_text chunks))) (capped (length chunks))

-- a dock whose file of this name was just created
abbrev pub IsCreated : Option (List ℕ) → Option (List ℕ) → Option (List ℕ) → Option (List ℕ) → List ℕ → Type 0
IsCreated target target' held held' out = Becomes target target' out × Becomes held held' []

-- the file of this name is part of a recording of these feeds, each being the whole of what its source would have given
pub record IsCut {S : Type 0} (left_of : S → Option (List ℕ)) (streams : List StreamDoc) (feeds : List (FeedSource S)) (out : List ℕ) (target target' held held' : Option (List ℕ)) : Type 0 where
  pub created : Becomes target target' out
  pub text : List ℕ
  pub becomes : Becomes held held' text
  pub part : IsPartOf left_of streams feeds text

-- the plan that the words ask for can be recorded, and the output has what a recording of its feeds holds that was stopped somewhere, each feed being
-- all that its input holds
pub record IsCutFile (contents : Option Contents) (words : List (List ℕ)) (target target' held held' : Option (List ℕ)) : Type 0 where
  pub out : List ℕ
  pub plan : Plan
  pub streams : List StreamDoc
  pub asked : IsAsked contents words out plan streams
  pub created : Becomes target target' out
  pub lists : List (List Sample)
  pub whole : AreWholeOf contents (name.File asked.has.path ∷ names_of document_name plan.feeds) (zip plan.feeds streams) lists
  pub text : List ℕ
  pub becomes : Becomes held held' text
  pub partial : IsPartialRecording streams lists text

-- the file of this name is the recording of these feeds, and what is reported is so
pub record IsWritten {S M : Type 0} (left_of : S → Option (List ℕ)) (faults_of : S → ℕ) (mark_of : S → M) (mode : Mode) (ring batch : ℕ) (streams : List StreamDoc) (feeds : List (FeedSource S)) (out : List ℕ) (target target' held held' : Option (List ℕ)) (reports : List FeedReport) (bytes count : ℕ) : Type 0 where
  pub fed : List (Fed S)
  pub chunks : List Chunk
  pub run : IsRun left_of faults_of mark_of mode ring batch streams feeds fed chunks
  pub created : Becomes target target' out
  pub text : Becomes held held' (least_file_text chunks)
  pub told : reports ≡ map (report_of chunks) fed
  pub size : bytes ≡ capped (length (least_file_text chunks))
  pub chunk_count : count ≡ capped (length chunks)

-- the plan that the words ask for can be recorded in this mode, with rings and batches of these sizes, as these streams, and these sources of its feeds are open
pub record IsReady {S : Type 0} (left_of : S → Option (List ℕ)) (contents : Option Contents) (words : List (List ℕ)) (out : List ℕ) (mode : Mode) (ring batch : ℕ) (streams : List StreamDoc) (sources : List (FeedSource S)) : Type 0 where
  pub plan : Plan
  pub mode_is : mode ≡ plan.mode
  pub ring_is : ring ≡ plan.ring
  pub batch_is : batch ≡ plan.batch
  pub sound : IsPlan out plan
  pub asked : IsAsked contents words out plan streams
  pub opened : AreSourcesOf left_of contents (name.File asked.has.path ∷ names_of document_name plan.feeds) (zip plan.feeds streams) sources

-- the output is the recording of these feeds that the words ask for
pub record IsFileOf {S M : Type 0} (left_of : S → Option (List ℕ)) (faults_of : S → ℕ) (mark_of : S → M) (contents : Option Contents) (words : List (List ℕ)) (target target' held held' : Option (List ℕ)) (fed : List (Fed S)) (chunks : List Chunk) : Type 0 where
  pub out : List ℕ
  pub recording : IsRecordingOf left_of faults_of mark_of contents words out fed chunks
  pub created : Becomes target target' out
  pub text : Becomes held held' (least_file_text chunks)

-- the output is a recording that the words ask for, and what is reported is so
pub record IsFileWritten {S M : Type 0} (left_of : S → Option (List ℕ)) (faults_of : S → ℕ) (mark_of : S → M) (contents : Option Contents) (words : List (List ℕ)) (target target' held held' : Option (List ℕ)) (reports : List FeedReport) (bytes count : ℕ) : Type 0 where
  pub fed : List (Fed S)
  pub chunks : List Chunk
  pub file : IsFileOf left_of faults_of mark_of contents words target target' held held' fed chunks
  pub told : reports ≡ map (report_of chunks) fed
  pub size : bytes ≡ capped (length (least_file_text chunks))
  pub chunk_count : count ≡ capped (length chunks)
