-- The inputs of a recording, each by its place among those of one name. They are opened in this order: the plan, the header documents of the
-- feeds, and the feeds. This project's own.
use Rattle.std.specs.Prelude.{◌≡◌, ◌⊎◌, ℕ, ◌<◌, ◌≤◌, ⊤, List, [], ◌∷◌, ◌++◌, length, slice_get, Option, None, Some, Ok, IsErr}
use Rattle.rec_base.specs.declared.name.Name.{Name}
use Rattle.rec_base.specs.declared.name.Name.TheVariants as name
use Rattle.rec_base.specs.Contents.{Contents, Given, Opens}
use Rattle.dock_calls.specs.Asking.{HasReadFault}
use Rattle.dock_calls.specs.Places.{place_of, IsInputAt, IsOpenedAt, IsAfter}
use Rattle.reading_model.specs.Read.{IsReadingOf}
use Rattle.xdf_model.specs.Sample.{Sample}
use Rattle.xdf_model.specs.Shape.{shape_in}
use Rattle.xdf_model.specs.declared.types.Shape.{Shape}
use Rattle.reply_model.specs.Request.{request_bytes}
use Rattle.inlet_model.specs.Inlet.{feed_kind, feed_within}
use Rattle.plan_model.specs.declared.plan.FeedFrom.{FeedFrom}
use Rattle.plan_model.specs.declared.plan.FeedFrom.TheVariants as from
use Rattle.plan_model.specs.declared.plan.FeedLine.{FeedLine}
use Rattle.recording_model.specs.declared.stream.StreamDoc.{StreamDoc}
use Rattle.run_model.specs.declared.feed.FeedSource.{FeedSource}
use Rattle.run_model.specs.Run.{Fed, byte_limit, feed_of}

-- the most bytes of a header document
abbrev pub document_limit : ℕ
document_limit = 1_048_576

-- the name under which the header document of a feed is opened
abbrev pub document_name : FeedLine → List Name
document_name feed = name.File feed.doc ∷ []

-- where samples of this shape come from: the file at a path, or the outlet at a host and a port, which is sent the request for the stream with
-- this uid
abbrev pub input_from : FeedFrom → Shape → Name
input_from (from.File path) shape = name.File path
input_from (from.Tcp host port uid) shape = name.Peer host port (request_bytes uid shape)

-- the uid that the reply must have: that of the stream which an outlet was asked for, and any in a file
abbrev pub uid_from : FeedFrom → Option (List ℕ)
uid_from (from.File path) = None
uid_from (from.Tcp host port uid) = Some uid

-- the name under which a feed that becomes this stream is opened
abbrev pub feed_input : FeedLine × StreamDoc → Name
feed_input feed = input_from feed.0.from feed.1.shape

abbrev pub feed_name : FeedLine × StreamDoc → List Name
feed_name feed = feed_input feed ∷ []

abbrev pub names_of : {F : Type 0} → (F → List Name) → List F → List Name
names_of opens [] = []
names_of opens (feed ∷ feeds) = opens feed ++ names_of opens feeds

-- each feed has its item, which is opened once these names and those of the feeds before it were
abbrev pub AreEach : {F T : Type 0} → (F → List Name) → (List Name → F → T → Type 0) → List Name → List F → List T → Type 0
AreEach opens each names [] [] = ⊤
AreEach opens each names [] (x ∷ xs) = ⊥
AreEach opens each names (feed ∷ feeds) [] = ⊥
AreEach opens each names (feed ∷ feeds) (x ∷ xs) = each names feed x × AreEach opens each (names ++ opens feed) feeds xs

-- ---- header documents

-- the stream of a feed has the feed's id, and the header document at the feed's path, which isn't too long and tells the stream's shape
pub record IsStreamOf (contents : Option Contents) (names : List Name) (feed : FeedLine) (stream : StreamDoc) : Type 0 where
  pub id : stream.id ≡ feed.id
  pub input : IsInputAt contents names (name.File feed.doc) stream.doc
  pub short : length stream.doc ≤ document_limit
  pub shape : shape_in stream.doc ≡ Ok stream.shape

pub record AreStreamsOf (contents : Option Contents) (names : List Name) (feeds : List FeedLine) (streams : List StreamDoc) : Type 0 where
  pub each : AreEach document_name (IsStreamOf contents) names feeds streams

-- a document that tells no shape, or is too long
abbrev pub IsNoDocument : List ℕ → Type 0
IsNoDocument text = IsErr (shape_in text) ⊎ (document_limit < length text)

-- a feed of the list, where the feeds before it have streams
pub record IsNext (contents : Option Contents) (names : List Name) (feeds : List FeedLine) (feed : FeedLine) (opened : List Name) : Type 0 where
  pub before : List FeedLine
  pub behind : List FeedLine
  pub parts : feeds ≡ before ++ feed ∷ behind
  pub streams : List StreamDoc
  pub are : AreStreamsOf contents names before streams
  pub names_opened : opened ≡ names ++ names_of document_name before

-- the feed of this id is the first whose header document tells no shape, or is too long
pub record HasNoStream (contents : Option Contents) (names : List Name) (feeds : List FeedLine) (id : ℕ) : Type 0 where
  pub feed : FeedLine
  pub opened : List Name
  pub next : IsNext contents names feeds feed opened
  pub same : id ≡ feed.id
  pub text : List ℕ
  pub input : IsInputAt contents opened (name.File feed.doc) text
  pub none : IsNoDocument text

-- a read of the header document of a feed failed, where the feeds before it have streams
pub record HasFailedDocument {S M I : Type 0} (left_of : S → Option (List ℕ)) (faults_of : S → ℕ) (mark_of : S → M) (input_mark_of : S → I) (contents : Option Contents) (marks : Option (Given I)) (names : List Name) (feeds : List FeedLine) : Type 0 where
  pub feed : FeedLine
  pub opened : List Name
  pub next : IsNext contents names feeds feed opened
  pub failed : HasReadFault left_of faults_of mark_of input_mark_of contents marks (name.File feed.doc) (place_of opened (name.File feed.doc))

-- ---- feeds

-- the source of a feed was opened under the feed's name; it has the uid that was asked for, and the limit of the plan
pub record IsSourceOf {S : Type 0} (left_of : S → Option (List ℕ)) (contents : Option Contents) (names : List Name) (feed : FeedLine × StreamDoc) (source : FeedSource S) : Type 0 where
  pub opened : IsOpenedAt contents names (feed_input feed) (left_of source.source)
  pub uid : source.uid ≡ uid_from feed.0.from
  pub limit : source.limit ≡ feed.0.limit

pub record AreSourcesOf {S : Type 0} (left_of : S → Option (List ℕ)) (contents : Option Contents) (names : List Name) (feeds : List (FeedLine × StreamDoc)) (sources : List (FeedSource S)) : Type 0 where
  pub each : AreEach feed_name (IsSourceOf left_of contents) names feeds sources

-- where contents are told, the samples and the end are those of the text under the feed's name
pub record IsToldOf {S : Type 0} (contents : Option Contents) (names : List Name) (feed : FeedLine × StreamDoc) (x : Fed S) : Type 0 where
  pub told : (texts : Contents) → contents ≡ Some texts → (text : List ℕ) × (slice_get (texts (feed_input feed)) (place_of names (feed_input feed)) ≡ Some text)
      × IsReadingOf feed_kind (feed_of x.stream x.feed) text x.samples x.end

pub record AreToldOf {S : Type 0} (contents : Option Contents) (names : List Name) (feeds : List (FeedLine × StreamDoc)) (fed : List (Fed S)) : Type 0 where
  pub each : AreEach feed_name (IsToldOf contents) names feeds fed

-- where contents are told, the samples are all that the text under the feed's name gives
pub record IsWholeOf (contents : Option Contents) (names : List Name) (feed : FeedLine × StreamDoc) (samples : List Sample) : Type 0 where
  pub told : (texts : Contents) → contents ≡ Some texts → (text : List ℕ) × (slice_get (texts (feed_input feed)) (place_of names (feed_input feed)) ≡ Some text)
      × (samples ≡ (feed_within (uid_from feed.0.from) feed.1.shape feed.0.limit byte_limit text).0)

pub record AreWholeOf (contents : Option Contents) (names : List Name) (feeds : List (FeedLine × StreamDoc)) (lists : List (List Sample)) : Type 0 where
  pub each : AreEach feed_name (IsWholeOf contents) names feeds lists

-- ---- what calls that open some of the inputs do, whatever was opened before them

-- the header document of a feed was opened and read
pub record IsStreamRead (before now : Option Contents) (feed : FeedLine) (stream : StreamDoc) : Type 0 where
  pub id : stream.id ≡ feed.id
  pub opened : Opens before now (name.File feed.doc) (Some stream.doc)
  pub short : length stream.doc ≤ document_limit
  pub shape : shape_in stream.doc ≡ Ok stream.shape

pub record AreStreamsRead (before now : Option Contents) (feeds : List FeedLine) (streams : List StreamDoc) : Type 0 where
  pub are : (contents : Option Contents) (names : List Name) → IsAfter contents before names → AreStreamsOf contents names feeds streams
  pub left : (contents : Option Contents) (names : List Name) → IsAfter contents before names → IsAfter contents now (names ++ names_of document_name feeds)

pub record HasNoStreamHere (before : Option Contents) (feeds : List FeedLine) (id : ℕ) : Type 0 where
  pub is : (contents : Option Contents) (names : List Name) → IsAfter contents before names → HasNoStream contents names feeds id

pub record HasFailedHere {S M I : Type 0} (left_of : S → Option (List ℕ)) (faults_of : S → ℕ) (mark_of : S → M) (input_mark_of : S → I) (before : Option Contents) (marks_before : Option (Given I)) (feeds : List FeedLine) : Type 0 where
  pub is : (contents : Option Contents) (marks : Option (Given I)) (names : List Name) → IsAfter contents before names → IsAfter marks marks_before names
      → HasFailedDocument left_of faults_of mark_of input_mark_of contents marks names feeds

-- the marks that are left, once these names were opened behind those before
pub record AreMarksLeft {I : Type 0} (before now : Option (Given I)) (opened : List Name) : Type 0 where
  pub left : (marks : Option (Given I)) (names : List Name) → IsAfter marks before names → IsAfter marks now (names ++ opened)

-- a feed was opened
pub record IsSourceOpened {S : Type 0} (left_of : S → Option (List ℕ)) (before now : Option Contents) (feed : FeedLine × StreamDoc) (source : FeedSource S) : Type 0 where
  pub opened : Opens before now (feed_input feed) (left_of source.source)
  pub uid : source.uid ≡ uid_from feed.0.from
  pub limit : source.limit ≡ feed.0.limit

pub record AreSourcesOpened {S : Type 0} (left_of : S → Option (List ℕ)) (before now : Option Contents) (feeds : List (FeedLine × StreamDoc)) (sources : List (FeedSource S)) : Type 0 where
  pub are : (contents : Option Contents) (names : List Name) → IsAfter contents before names → AreSourcesOf left_of contents names feeds sources
  pub left : (contents : Option Contents) (names : List Name) → IsAfter contents before names → IsAfter contents now (names ++ names_of feed_name feeds)
