-- A recording by its parts.
use Rattle.std.proofs.Common.{◌≡◌, ◌≢◌, ℕ, suc, ◌≤◌, List, [], ◌∷◌, ◌++◌, length, map, Option, Some, None, refl, sym, ap, ◌∙◌, subst, arith}
use Rattle.std.specs.Prelude.{slice_get}
use Rattle.std.specs.List.{AllByRecursion, list_all, zip}
use Rattle.std.proofs.lemmas.List.Folds.{list_all-map}
use Rattle.std.specs.Io.KnownBytes.{Consumes}
use Rattle.rec_base.specs.declared.name.Name.{Name}
use Rattle.rec_base.specs.declared.name.Name.TheVariants as name
use Rattle.rec_base.specs.Contents.{Contents, IsOpened}
use Rattle.rec_base.specs.Known.{Becomes}
use Rattle.rec_base.proofs.Taken.{Becomes-appends}
use Rattle.dock_calls.specs.Places.{place_of, IsOpenedAt}
use Rattle.reading_model.specs.Read.{Reader, EndsSo, IsRead, IsReadingOf}
use Rattle.piece_reader.proofs.Ending.{reading_of}
use Rattle.xdf_model.specs.Sample.{Sample}
use Rattle.chunk_grammar.specs.declared.chunk.Chunk.{Chunk}
use Rattle.chunk_grammar.specs.Chunk.{least_file_text}
use Rattle.inlet_model.specs.declared.end.FeedEnd.{FeedEnd}
use Rattle.inlet_model.specs.Inlet.{feed_kind, feed_within}
use Rattle.plan_model.specs.declared.plan.FeedLine.{FeedLine}
use Rattle.plan_model.specs.declared.plan.Mode.{Mode}
use Rattle.plan_model.specs.declared.plan.Mode.TheVariants.{Threads, Turns}
use Rattle.plan_model.specs.Sound.{AreFeeds}
use Rattle.recording_model.specs.declared.stream.StreamDoc.{StreamDoc}
use Rattle.recording_model.specs.Recording.{AreStreams}
use Rattle.record_writer.specs.Desk.{capped}
use Rattle.run_model.specs.declared.feed.FeedSource.{FeedSource}
use Rattle.run_model.specs.declared.report.FeedReport.{FeedReport}
use Rattle.run_model.specs.Run.{Fed, IsRun, byte_limit, feed_of, report_of}
use Rattle.run_model.specs.Outcomes.{AreAllOf, IsCutOff}
use Rattle.run_model.proofs.Cuts.{run_part}
use Rattle.record_run.specs.Recorders.{RecorderView, by_turns, by_threads, IsIn, IsOpenFor}
use Rattle.record_call.specs.Ends.{is_complete}
use Rattle.record_call.specs.Lines.{record_lines}
use Rattle.record_call.specs.Feeds.{document_name, feed_input, feed_name, names_of, uid_from, AreEach, IsStreamOf, IsSourceOf, IsToldOf, IsWholeOf}
use Rattle.record_call.specs.Recorded.{IsReady, IsFileOf, IsWritten, IsFileWritten, IsCut, IsCutFile, lines_of}
use Rattle.record_call.proofs.Feeds.{each_length, zip_long}

-- ---- the streams of a plan

ids_differ : (contents : Option Contents) (names : List Name) (feeds : List FeedLine) (streams : List StreamDoc) (id : ℕ) → AreEach document_name (IsStreamOf contents) names feeds streams
    → AllByRecursion (λ other. other.id ≢ id) feeds → AllByRecursion (λ other. other.id ≢ id) streams
ids_differ contents names [] [] id each all = tt
ids_differ contents names [] (s ∷ streams) id each all = absurd each
ids_differ contents names (f ∷ feeds) [] id each all = absurd each
ids_differ contents names (f ∷ feeds) (s ∷ streams) id each all =
    (λ e. all.0 (sym each.0.id ∙ e), ids_differ contents (names ++ document_name f) feeds streams id each.1 all.1)

streams_are : (contents : Option Contents) (names : List Name) (out : List ℕ) (feeds : List FeedLine) (streams : List StreamDoc) → AreEach document_name (IsStreamOf contents) names feeds streams
    → AreFeeds out feeds → AreStreams streams
streams_are contents names out [] [] each all = tt
streams_are contents names out [] (s ∷ streams) each all = absurd each
streams_are contents names out (f ∷ feeds) [] each all = absurd each
streams_are contents names out (f ∷ feeds) (s ∷ streams) each all =
    let P : ℕ → Type 0 = λ id. AllByRecursion (λ other. other.id ≢ id) streams in
    let low : 1 ≤ f.id = all.0.id.0 in
    let high : f.id ≤ 65_535 = all.0.id.1 in (
      record { low = omega (arith, low, each.0.id); high = omega (arith, high, each.0.id); shape = each.0.shape },
      subst P (sym each.0.id) (ids_differ contents (names ++ document_name f) feeds streams f.id each.1 all.1),
      streams_are contents (names ++ document_name f) out feeds streams each.1 all.2,
    )

streams_short : (contents : Option Contents) (names : List Name) (feeds : List FeedLine) (streams : List StreamDoc) → AreEach document_name (IsStreamOf contents) names feeds streams → AllByRecursion (λ s. length s.doc ≤ 1_048_576) streams
streams_short contents names [] [] each = tt
streams_short contents names [] (s ∷ streams) each = absurd each
streams_short contents names (f ∷ feeds) [] each = absurd each
streams_short contents names (f ∷ feeds) (s ∷ streams) each = (each.0.short, streams_short contents (names ++ document_name f) feeds streams each.1)

module _ {S : Type 0} (left_of : S → Option (List ℕ)) (contents : Option Contents) (words : List (List ℕ)) (out : List ℕ) (mode : Mode) (ring batch : ℕ) (streams : List StreamDoc) (sources : List (FeedSource S))
    (r : IsReady left_of contents words out mode ring batch streams sources) where
  pub ready_are : AreStreams streams
  ready_are = streams_are contents _ out r.plan.feeds streams r.asked.has.streams_of.each r.sound.feeds

  pub ready_short : AllByRecursion (λ s. length s.doc ≤ 1_048_576) streams
  ready_short = streams_short contents _ r.plan.feeds streams r.asked.has.streams_of.each

  ready_count : length streams ≡ length r.plan.feeds
  ready_count = each_length document_name (IsStreamOf contents) _ r.plan.feeds streams r.asked.has.streams_of.each

  pub ready_some : 1 ≤ length streams
  ready_some = omega (arith, ready_count, r.sound.some)

  pub ready_few : length streams ≤ 64
  ready_few = omega (arith, ready_count, r.sound.few)

  pub ready_feeds : length sources ≡ length streams
  ready_feeds = each_length feed_name (IsSourceOf left_of contents) _ (zip r.plan.feeds streams) sources r.opened.each ∙ zip_long r.plan.feeds streams ready_count ∙ sym ready_count

-- a recorder that is open in a mode is of this mode
pub opened_in : {S : Type 0} (mode : Mode) (ring batch : ℕ) (streams : List StreamDoc) (feeds : List (FeedSource S)) (r : RecorderView S) → IsOpenFor mode ring batch streams feeds r → IsIn mode r
opened_in Turns ring batch streams feeds (by_turns r) o = tt
opened_in Turns ring batch streams feeds (by_threads r) o = o
opened_in Threads ring batch streams feeds (by_turns r) o = o
opened_in Threads ring batch streams feeds (by_threads r) o = tt

-- ---- what is told of the feeds

told_left : (texts : Contents) (file : Name) (m : ℕ) (reader : Reader Sample FeedEnd) (left last : Option (List ℕ)) (taken : List ℕ) (samples : List Sample) (e : FeedEnd)
    → IsOpened (Some texts) file m left → Consumes left last taken → EndsSo (feed_kind e) reader taken last samples e
    → (text : List ℕ) × (slice_get (texts file) m ≡ Some text) × IsReadingOf feed_kind reader text samples e
told_left texts file m reader None last taken samples e opened lost h = absurd (cc opened.1)
told_left texts file m reader (Some xs) None taken samples e opened lost h = absurd lost
told_left texts file m reader (Some xs) (Some ys) taken samples e opened lost h =
    let is : xs ≡ opened.0 = cc opened.1 in
    (opened.0, opened.2, reading_of reader opened.0 taken ys samples e (sym is ∙ lost) feed_kind h)

module _ {S M : Type 0} (left_of : S → Option (List ℕ)) (faults_of : S → ℕ) (mark_of : S → M) (contents : Option Contents) where
  abbrev pub WasRead : Fed S → Type 0
  WasRead x = IsRead left_of faults_of mark_of feed_kind (feed_of x.stream x.feed) x.feed.source x.last x.samples x.end

  told_one : (names : List Name) (feed : FeedLine × StreamDoc) (x : Fed S) → IsSourceOf left_of contents names feed x.feed → WasRead x → IsToldOf contents names feed x
  told_one names feed x source read = record {
    told = λ texts is.
        let P : Option Contents → Type 0 = λ c. IsOpenedAt c names (feed_input feed) (left_of x.feed.source) in
        told_left texts (feed_input feed) (place_of names (feed_input feed)) (feed_of x.stream x.feed) (left_of x.feed.source) (left_of x.last) read.taken x.samples x.end (subst P is source.opened) read.lost read.ends;
  }

  told_each : (names : List Name) (feeds : List (FeedLine × StreamDoc)) (fed : List (Fed S)) → AreEach feed_name (IsSourceOf left_of contents) names feeds (map (λ x. x.feed) fed)
      → ((place : ℕ) (x : Fed S) → slice_get fed place ≡ Some x → WasRead x) → AreEach feed_name (IsToldOf contents) names feeds fed
  told_each names [] [] each reads = tt
  told_each names [] (x ∷ fed) each reads = absurd each
  told_each names (f ∷ feeds) [] each reads = absurd each
  told_each names (f ∷ feeds) (x ∷ fed) each reads =
      (told_one names f x each.0 (reads 0 x refl), told_each (names ++ feed_name f) feeds fed each.1 (λ place y at. reads (suc place) y at))

-- ---- the file

-- the samples of a feed that are all of its source are all of the text under its name
whole_one : {S : Type 0} (left_of : S → Option (List ℕ)) (contents : Option Contents) (names : List Name) (feed : FeedLine × StreamDoc) (source : FeedSource S) (samples : List Sample)
    → IsSourceOf left_of contents names feed source → AreAllOf left_of feed.1 source samples → IsWholeOf contents names feed samples
whole_one left_of contents names feed source samples is all = record {
  told = λ texts same.
      let o = subst (λ (c : Option Contents). IsOpenedAt c names (feed_input feed) (left_of source.source)) same is.opened in
      let F : Option (List ℕ) → Option ℕ → List Sample = λ uid limit. (feed_within uid feed.1.shape limit byte_limit o.0).0 in
      (o.0, o.2, all o.0 o.1 ∙ ap (λ (uid : Option (List ℕ)). F uid source.limit) is.uid ∙ ap (F (uid_from feed.0.from)) is.limit);
}

pub whole_each : {S : Type 0} (left_of : S → Option (List ℕ)) (contents : Option Contents) (names : List Name) (feeds : List FeedLine) (streams : List StreamDoc) (sources : List (FeedSource S)) (lists : List (List Sample))
    → length streams ≡ length feeds → length lists ≡ length streams → AreEach feed_name (IsSourceOf left_of contents) names (zip feeds streams) sources
    → ((place : ℕ) (stream : StreamDoc) (source : FeedSource S) (samples : List Sample) → slice_get streams place ≡ Some stream → slice_get sources place ≡ Some source → slice_get lists place ≡ Some samples → AreAllOf left_of stream source samples)
    → AreEach feed_name (IsWholeOf contents) names (zip feeds streams) lists
whole_each left_of contents names [] [] sources [] a b each all = tt
whole_each left_of contents names [] [] sources (l ∷ lists) a b each all = absurd (omega (arith, b))
whole_each left_of contents names [] (s ∷ streams) sources lists a b each all = absurd (omega (arith, a))
whole_each left_of contents names (f ∷ feeds) [] sources lists a b each all = absurd (omega (arith, a))
whole_each left_of contents names (f ∷ feeds) (s ∷ streams) sources [] a b each all = absurd (omega (arith, b))
whole_each left_of contents names (f ∷ feeds) (s ∷ streams) [] (l ∷ lists) a b each all = absurd each
whole_each left_of contents names (f ∷ feeds) (s ∷ streams) (x ∷ sources) (l ∷ lists) a b each all = (
  whole_one left_of contents names (f, s) x l each.0 (all 0 s x l refl refl refl),
  whole_each left_of contents (names ++ feed_name (f, s)) feeds streams sources lists (omega (arith, a)) (omega (arith, b)) each.1 (λ place t y m p q r. all (suc place) t y m p q r),
)

-- what the output holds of a run that was stopped
pub cut_of : {S : Type 0} (left_of : S → Option (List ℕ)) (streams : List StreamDoc) (feeds : List (FeedSource S)) (out : List ℕ) (target target' old created held' : Option (List ℕ))
    → Becomes target target' out → Becomes old created [] → IsCutOff left_of streams feeds created held' → IsCut left_of streams feeds out target target' old held'
cut_of left_of streams feeds out target target' old created held' becomes empty off = record {
  created = becomes;
  text = off.text;
  becomes = Becomes-appends old created held' [] off.text empty off.written;
  part = off.part;
}

-- a recording that was ready and was stopped is of what the words ask for
abbrev pub cut_file : {S : Type 0} (left_of : S → Option (List ℕ)) (contents : Option Contents) (words : List (List ℕ)) (target target' held held' t h : Option (List ℕ)) (out : List ℕ) (mode : Mode) (ring batch : ℕ) (streams : List StreamDoc)
    (sources : List (FeedSource S)) → t ≡ target → h ≡ held → IsReady left_of contents words out mode ring batch streams sources → IsCut left_of streams sources out t target' h held' → IsCutFile contents words target target' held held'
cut_file left_of contents words target target' held held' t h out mode ring batch streams sources target_is held_is r cut =
    let T : Option (List ℕ) → Type 0 = λ o. Becomes o target' out in
    let H : Option (List ℕ) → Type 0 = λ o. Becomes o held' cut.text in
    record {
      out = out;
      plan = r.plan;
      streams = streams;
      asked = r.asked;
      created = subst T target_is cut.created;
      lists = cut.part.lists;
      whole = record {
        each = whole_each left_of contents _ r.plan.feeds streams sources cut.part.lists (each_length document_name (IsStreamOf contents) _ r.plan.feeds streams r.asked.has.streams_of.each) cut.part.count r.opened.each cut.part.each;
      };
      text = cut.text;
      becomes = subst H held_is cut.becomes;
      partial = cut.part.partial;
    }

module _ {S M : Type 0} (left_of : S → Option (List ℕ)) (faults_of : S → ℕ) (mark_of : S → M) (contents : Option Contents) (words : List (List ℕ)) (target target' held held' : Option (List ℕ)) where
  -- a recording that was ready and is written is the one that the words ask for
  pub file_written : (t h : Option (List ℕ)) (out : List ℕ) (mode : Mode) (ring batch : ℕ) (streams : List StreamDoc) (sources : List (FeedSource S)) (reports : List FeedReport) (bytes count : ℕ) → t ≡ target → h ≡ held
      → IsReady left_of contents words out mode ring batch streams sources → IsWritten left_of faults_of mark_of mode ring batch streams sources out t target' h held' reports bytes count
      → IsFileWritten left_of faults_of mark_of contents words target target' held held' reports bytes count
  file_written t h out mode ring batch streams sources reports bytes count target_is held_is r w =
      let R : Mode → ℕ → ℕ → Type 0 = λ m a b. IsRun left_of faults_of mark_of m a b streams sources w.fed w.chunks in
      let run = subst (λ (m : Mode). R m r.plan.ring r.plan.batch) r.mode_is (subst (λ (b : ℕ). R mode r.plan.ring b) r.batch_is (subst (λ (a : ℕ). R mode a batch) r.ring_is w.run)) in
      let T : Option (List ℕ) → Type 0 = λ o. Becomes o target' out in
      let H : Option (List ℕ) → Type 0 = λ o. Becomes o held' (least_file_text w.chunks) in
      let F : List (FeedSource S) → Type 0 = λ ss. AreEach feed_name (IsSourceOf left_of contents) (name.File r.asked.has.path ∷ names_of document_name r.plan.feeds) (zip r.plan.feeds streams) ss in
      record {
        fed = w.fed;
        chunks = w.chunks;
        file = record {
          out = out;
          recording = record {
            plan = r.plan;
            streams = streams;
            asked = r.asked;
            sources = sources;
            opened = r.opened;
            run = run;
            told = record { each = told_each left_of faults_of mark_of contents _ (zip r.plan.feeds streams) w.fed (subst F (sym w.run.each_feed) r.opened.each) (λ place x at. (w.run.each place x at).read) };
          };
          created = subst T target_is w.created;
          text = subst H held_is w.text;
        };
        told = w.told;
        size = w.size;
        chunk_count = w.chunk_count;
      }

  -- the whole file is one that was stopped at its end
  pub whole_cut : (fed : List (Fed S)) (chunks : List Chunk) → IsFileOf left_of faults_of mark_of contents words target target' held held' fed chunks → IsCutFile contents words target target' held held'
  whole_cut fed chunks file =
      let r = file.recording in
      let part = run_part left_of faults_of mark_of r.plan.mode r.plan.ring r.plan.batch r.streams r.sources fed chunks r.run in
      record {
        out = file.out;
        plan = r.plan;
        streams = r.streams;
        asked = r.asked;
        created = file.created;
        lists = part.lists;
        whole = record {
          each = whole_each left_of contents _ r.plan.feeds r.streams r.sources part.lists (each_length document_name (IsStreamOf contents) _ r.plan.feeds r.streams r.asked.has.streams_of.each) part.count r.opened.each part.each;
        };
        text = least_file_text chunks;
        becomes = file.text;
        partial = part.partial;
      }

  -- a line leaves the file as it is
  pub file_kept : (t h : Option (List ℕ)) (fed : List (Fed S)) (chunks : List Chunk) → t ≡ target' → h ≡ held' → IsFileOf left_of faults_of mark_of contents words target target' held held' fed chunks
      → IsFileOf left_of faults_of mark_of contents words target t held h fed chunks
  file_kept t h fed chunks target_is held_is file =
      let T : Option (List ℕ) → Type 0 = λ o. Becomes target o file.out in
      let H : Option (List ℕ) → Type 0 = λ o. Becomes held o (least_file_text chunks) in
      record { out = file.out; recording = file.recording; created = subst T (sym target_is) file.created; text = subst H (sym held_is) file.text }

-- ---- what is reported

pub complete_of : {S : Type 0} (chunks : List Chunk) (fed : List (Fed S)) (reports : List FeedReport) → reports ≡ map (report_of chunks) fed → list_all (λ r. is_complete r.end) reports ≡ list_all is_complete (map (λ x. x.end) fed)
complete_of {S} chunks fed reports told =
    ap (λ (rs : List FeedReport). list_all (λ r. is_complete r.end) rs) told ∙ list_all-map (λ r. is_complete r.end) (report_of chunks) fed ∙ sym (list_all-map is_complete (λ (x : Fed S). x.end) fed)

pub lines_are : {S : Type 0} (fed : List (Fed S)) (chunks : List Chunk) (lines : List (List ℕ)) (reports : List FeedReport) (bytes count : ℕ) → lines ≡ record_lines reports bytes count → reports ≡ map (report_of chunks) fed
    → bytes ≡ capped (length (least_file_text chunks)) → count ≡ capped (length chunks) → lines ≡ lines_of fed chunks
lines_are fed chunks lines reports bytes count is told size chunk_count =
    is ∙ ap (λ (rs : List FeedReport). record_lines rs bytes count) told ∙ ap (λ (n : ℕ). record_lines (map (report_of chunks) fed) n count) size
    ∙ ap (λ (n : ℕ). record_lines (map (report_of chunks) fed) (capped (length (least_file_text chunks))) n) chunk_count
