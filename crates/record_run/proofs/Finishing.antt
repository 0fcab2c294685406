-- The end of a run.
use Rattle.std.proofs.Common.{◌≡◌, ℕ, zero, suc, ◌-◌, ◌*◌, ◌≤◌, List, [], ◌∷◌, length, map, slice_get, Option, Some, None, refl, sym, ap, ◌∙◌, subst, arith}
use Rattle.std.specs.List.{AllByRecursion}
use Rattle.reading_model.specs.Read.{Reader, IsRead}
use Rattle.xdf_model.specs.Sample.{Sample}
use Rattle.chunk_grammar.specs.declared.chunk.Chunk.{Chunk}
use Rattle.inlet_model.specs.declared.end.FeedEnd.{FeedEnd}
use Rattle.inlet_model.specs.Inlet.{feed_kind}
use Rattle.ring_model.specs.Ring.{IsReached}
use Rattle.recording_model.specs.declared.stream.StreamDoc.{StreamDoc}
use Rattle.recording_model.specs.Batch.{Batch}
use Rattle.recording_model.specs.Recording.{IsRecording}
use Rattle.turns_model.specs.Turns.{first_turns, turn_batches}
use Rattle.turns_laws.proofs.Enough.{enough}
use Rattle.loss_model.specs.Loss.{behind_last, entries_at}
use Rattle.loss_laws.proofs.Rings.{all_put}
use Rattle.record_writer.specs.declared.written.Written.{Written}
use Rattle.record_writer.specs.Desk.{DeskState}
use Rattle.record_writer.specs.Standing.{IsFinished}
use Rattle.run_model.specs.declared.feed.FeedSource.{FeedSource}
use Rattle.run_model.specs.declared.report.FeedReport.{FeedReport}
use Rattle.run_model.specs.Run.{feed_of, Fed, IsFed, report_of}
use Rattle.run_model.specs.Rings.{ring_entry}
use Rattle.record_run.specs.Kept.{kept_up_to}
use Rattle.record_run.specs.Inlets.{InletView, HasGiven}
use Rattle.plan_model.specs.declared.plan.Mode.TheVariants.{Turns}
use Rattle.run_model.specs.Outcomes.{IsRecorded}
use Rattle.run_model.proofs.BothModes.{by_turns}
use Rattle.run_model.proofs.Fed.{fed_is as is_fed, report_is as is_reported}
use Rattle.record_run.specs.Turning.{IsTurned, AreTurned, HaveEnded, end_or, report_in}
use Rattle.record_run.proofs.Beside.{entries_turns}

-- ---- one feed

module _ {S M : Type 0} (left_of : S → Option (List ℕ)) (faults_of : S → ℕ) (mark_of : S → M) where
  read_by : (reader : Reader Sample FeedEnd) (first : S) (x : InletView S) (given : List Sample) (e : FeedEnd) (end : Option FeedEnd) → end ≡ Some e → HasGiven left_of faults_of reader first x given end
      → mark_of x.source ≡ mark_of first → IsRead left_of faults_of mark_of feed_kind reader first x.source given e
  read_by reader first x given e None is h marked = absurd cc
  read_by reader first x given e (Some d) is h marked =
      let same : d ≡ e = cc is in
      subst (λ (k : FeedEnd). IsRead left_of faults_of mark_of feed_kind reader first x.source given k) same (record {
        marked = marked;
        later = h.1.later;
        taken = h.0.0;
        lost = h.0.1;
        ends = h.0.2;
        cause = h.1.rose;
        quiet = h.1.quiet;
      })

  module _ (ring batch turns place : ℕ) (streams : List StreamDoc) (lists : List (List Sample)) (chunks : List Chunk) (stream : StreamDoc) (feed : FeedSource S) (samples : List Sample) (x : InletView S) (e : FeedEnd)
      (low : 1 ≤ ring) (some : 1 ≤ batch) (k : IsTurned left_of faults_of mark_of ring batch turns stream feed samples x) (is : x.end ≡ Some e)
      (recording : IsRecording streams (turn_batches ring batch lists) chunks) (enough_turns : first_turns ring batch lists turns ≡ turn_batches ring batch lists)
      (has_stream : slice_get streams place ≡ Some stream) (has_list : slice_get lists place ≡ Some samples) where
    abbrev batches : List Batch
    batches = turn_batches ring batch lists

    entries : entries_at place batches ≡ kept_up_to ring batch samples turns
    entries = ap (entries_at place) (sym enough_turns) ∙ entries_turns ring batch place turns lists samples has_list

    taken : map ring_entry k.state.taken ≡ entries_at place batches
    taken = k.taken ∙ sym entries

    behind : behind_last (map ring_entry k.state.taken) ≡ length samples
    behind = ap behind_last k.taken ∙ k.behind

    empty : k.state.queue ≡ []
    empty = sym k.stands.queue ∙ k.queue

    reached : IsReached ring k.state
    reached = subst (λ (n : ℕ). IsReached n k.state) k.capacity k.stands.reached

    read : IsRead left_of faults_of mark_of feed_kind (feed_of stream feed) feed.source x.source samples e
    read = read_by (feed_of stream feed) feed.source x samples e x.end is k.given k.marked

    few : length k.state.dropped ≤ length samples - ring
    few = omega (arith, k.drops, k.few)

    pub fed_is : IsFed left_of faults_of mark_of ring batches chunks place (record { stream = stream; feed = feed; last = x.source; samples = samples; end = e })
    fed_is = is_fed left_of faults_of mark_of ring place streams batches chunks stream feed samples x.source e k.state recording has_stream reached k.puts empty taken behind few (omega (arith, k.bounded)) read

    -- what the ring gave is what it didn't drop
    kept : x.ring.pushes - x.drops ≡ length k.state.taken
    kept =
        let sum = (all_put ring k.state reached).3 in
        let none = ap length empty in
        let puts = ap length k.puts in
        omega (arith, sum, none, puts, k.drops, k.pushes)

    pub report_is : report_in x ≡ report_of chunks (record { stream = stream; feed = feed; last = x.source; samples = samples; end = e })
    report_is = is_reported left_of faults_of mark_of ring place streams batches chunks stream feed samples x.source e k.state recording has_stream reached k.puts empty taken behind few (omega (arith, k.bounded)) read
        x.id x.ring.pushes (x.ring.pushes - x.drops) x.drops (end_or x.end) k.id k.pushes kept (sym k.drops) (ap end_or is)

-- ---- all feeds

module _ {S M : Type 0} (left_of : S → Option (List ℕ)) (faults_of : S → ℕ) (mark_of : S → M) where
  -- each feed with its stream and what it gave
  abbrev pub all_fed : List StreamDoc → List (FeedSource S) → List (List Sample) → List (InletView S) → List (Fed S)
  all_fed (s ∷ streams) (d ∷ feeds) (l ∷ lists) (x ∷ xs) = record { stream = s; feed = d; last = x.source; samples = l; end = end_or x.end } ∷ all_fed streams feeds lists xs
  all_fed [] feeds lists xs = []
  all_fed (s ∷ streams) [] lists xs = []
  all_fed (s ∷ streams) (d ∷ feeds) [] xs = []
  all_fed (s ∷ streams) (d ∷ feeds) (l ∷ lists) [] = []

  fed_streams : (streams : List StreamDoc) (feeds : List (FeedSource S)) (lists : List (List Sample)) (xs : List (InletView S)) → length feeds ≡ length streams → length lists ≡ length streams → length xs ≡ length streams
      → map (λ (y : Fed S). y.stream) (all_fed streams feeds lists xs) ≡ streams
  fed_streams [] feeds lists xs a b c = refl
  fed_streams (s ∷ streams) [] lists xs a b c = absurd (omega (arith, a))
  fed_streams (s ∷ streams) (d ∷ feeds) [] xs a b c = absurd (omega (arith, b))
  fed_streams (s ∷ streams) (d ∷ feeds) (l ∷ lists) [] a b c = absurd (omega (arith, c))
  fed_streams (s ∷ streams) (d ∷ feeds) (l ∷ lists) (x ∷ xs) a b c = ap (λ (t : List StreamDoc). s ∷ t) (fed_streams streams feeds lists xs (omega (arith, a)) (omega (arith, b)) (omega (arith, c)))

  fed_feeds : (streams : List StreamDoc) (feeds : List (FeedSource S)) (lists : List (List Sample)) (xs : List (InletView S)) → length feeds ≡ length streams → length lists ≡ length streams → length xs ≡ length streams
      → map (λ (y : Fed S). y.feed) (all_fed streams feeds lists xs) ≡ feeds
  fed_feeds [] [] lists xs a b c = refl
  fed_feeds [] (d ∷ feeds) lists xs a b c = absurd (omega (arith, a))
  fed_feeds (s ∷ streams) [] lists xs a b c = absurd (omega (arith, a))
  fed_feeds (s ∷ streams) (d ∷ feeds) [] xs a b c = absurd (omega (arith, b))
  fed_feeds (s ∷ streams) (d ∷ feeds) (l ∷ lists) [] a b c = absurd (omega (arith, c))
  fed_feeds (s ∷ streams) (d ∷ feeds) (l ∷ lists) (x ∷ xs) a b c = ap (λ (t : List (FeedSource S)). d ∷ t) (fed_feeds streams feeds lists xs (omega (arith, a)) (omega (arith, b)) (omega (arith, c)))

  fed_lists : (streams : List StreamDoc) (feeds : List (FeedSource S)) (lists : List (List Sample)) (xs : List (InletView S)) → length feeds ≡ length streams → length lists ≡ length streams → length xs ≡ length streams
      → map (λ (y : Fed S). y.samples) (all_fed streams feeds lists xs) ≡ lists
  fed_lists [] feeds [] xs a b c = refl
  fed_lists [] feeds (l ∷ lists) xs a b c = absurd (omega (arith, b))
  fed_lists (s ∷ streams) [] lists xs a b c = absurd (omega (arith, a))
  fed_lists (s ∷ streams) (d ∷ feeds) [] xs a b c = absurd (omega (arith, b))
  fed_lists (s ∷ streams) (d ∷ feeds) (l ∷ lists) [] a b c = absurd (omega (arith, c))
  fed_lists (s ∷ streams) (d ∷ feeds) (l ∷ lists) (x ∷ xs) a b c = ap (λ (t : List (List Sample)). l ∷ t) (fed_lists streams feeds lists xs (omega (arith, a)) (omega (arith, b)) (omega (arith, c)))

  fed_lasts : (streams : List StreamDoc) (feeds : List (FeedSource S)) (lists : List (List Sample)) (xs : List (InletView S)) → length feeds ≡ length streams → length lists ≡ length streams → length xs ≡ length streams
      → map (λ (y : Fed S). y.last) (all_fed streams feeds lists xs) ≡ map (λ (x : InletView S). x.source) xs
  fed_lasts [] feeds lists [] a b c = refl
  fed_lasts [] feeds lists (x ∷ xs) a b c = absurd (omega (arith, c))
  fed_lasts (s ∷ streams) [] lists xs a b c = absurd (omega (arith, a))
  fed_lasts (s ∷ streams) (d ∷ feeds) [] xs a b c = absurd (omega (arith, b))
  fed_lasts (s ∷ streams) (d ∷ feeds) (l ∷ lists) [] a b c = absurd (omega (arith, c))
  fed_lasts (s ∷ streams) (d ∷ feeds) (l ∷ lists) (x ∷ xs) a b c = ap (λ (t : List S). x.source ∷ t) (fed_lasts streams feeds lists xs (omega (arith, a)) (omega (arith, b)) (omega (arith, c)))

  -- which feed stands at a place
  fed_at : (streams : List StreamDoc) (feeds : List (FeedSource S)) (lists : List (List Sample)) (xs : List (InletView S)) (p : ℕ) (y : Fed S) → slice_get (all_fed streams feeds lists xs) p ≡ Some y
      → (s : StreamDoc) × (d : FeedSource S) × (l : List Sample) × (x : InletView S) × (slice_get streams p ≡ Some s) × (slice_get feeds p ≡ Some d) × (slice_get lists p ≡ Some l) × (slice_get xs p ≡ Some x)
      × (y ≡ record { stream = s; feed = d; last = x.source; samples = l; end = end_or x.end })
  fed_at [] feeds lists xs p y e = absurd cc
  fed_at (s ∷ streams) [] lists xs p y e = absurd cc
  fed_at (s ∷ streams) (d ∷ feeds) [] xs p y e = absurd cc
  fed_at (s ∷ streams) (d ∷ feeds) (l ∷ lists) [] p y e = absurd cc
  fed_at (s ∷ streams) (d ∷ feeds) (l ∷ lists) (x ∷ xs) zero y e = (s, d, l, x, refl, refl, refl, refl, sym (cc e))
  fed_at (s ∷ streams) (d ∷ feeds) (l ∷ lists) (x ∷ xs) (suc p) y e = fed_at streams feeds lists xs p y e

  reports_same : (chunks : List Chunk) (streams : List StreamDoc) (feeds : List (FeedSource S)) (lists : List (List Sample)) (xs : List (InletView S)) → length feeds ≡ length streams → length lists ≡ length streams → length xs ≡ length streams
      → ((p : ℕ) (s : StreamDoc) (d : FeedSource S) (l : List Sample) (x : InletView S) → slice_get streams p ≡ Some s → slice_get feeds p ≡ Some d → slice_get lists p ≡ Some l → slice_get xs p ≡ Some x
      → report_in x ≡ report_of chunks (record { stream = s; feed = d; last = x.source; samples = l; end = end_or x.end }))
      → map report_in xs ≡ map (report_of chunks) (all_fed streams feeds lists xs)
  reports_same chunks [] feeds lists [] a b c each = refl
  reports_same chunks [] feeds lists (x ∷ xs) a b c each = absurd (omega (arith, c))
  reports_same chunks (s ∷ streams) [] lists xs a b c each = absurd (omega (arith, a))
  reports_same chunks (s ∷ streams) (d ∷ feeds) [] xs a b c each = absurd (omega (arith, b))
  reports_same chunks (s ∷ streams) (d ∷ feeds) (l ∷ lists) [] a b c each = absurd (omega (arith, c))
  reports_same chunks (s ∷ streams) (d ∷ feeds) (l ∷ lists) (x ∷ xs) a b c each =
      ap (λ (r : FeedReport). r ∷ map report_in xs) (each 0 s d l x refl refl refl refl)
      ∙ ap (λ (rs : List FeedReport). report_of chunks (record { stream = s; feed = d; last = x.source; samples = l; end = end_or x.end }) ∷ rs)
      (reports_same chunks streams feeds lists xs (omega (arith, a)) (omega (arith, b)) (omega (arith, c)) (λ p es ed el ex i j m n. each (suc p) es ed el ex i j m n))

  list_short : (ring batch turns : ℕ) (streams : List StreamDoc) (feeds : List (FeedSource S)) (lists : List (List Sample)) (xs : List (InletView S)) → length feeds ≡ length streams → length lists ≡ length streams → length xs ≡ length streams
      → ((p : ℕ) (s : StreamDoc) (d : FeedSource S) (l : List Sample) (x : InletView S) → slice_get streams p ≡ Some s → slice_get feeds p ≡ Some d → slice_get lists p ≡ Some l → slice_get xs p ≡ Some x
      → length l ≤ turns * batch) → AllByRecursion (λ (l : List Sample). length l ≤ turns * batch) lists
  list_short ring batch turns streams feeds [] xs a b c each = tt
  list_short ring batch turns [] feeds (l ∷ lists) xs a b c each = absurd (omega (arith, b))
  list_short ring batch turns (s ∷ streams) [] (l ∷ lists) xs a b c each = absurd (omega (arith, a))
  list_short ring batch turns (s ∷ streams) (d ∷ feeds) (l ∷ lists) [] a b c each = absurd (omega (arith, c))
  list_short ring batch turns (s ∷ streams) (d ∷ feeds) (l ∷ lists) (x ∷ xs) a b c each =
      (each 0 s d l x refl refl refl refl, list_short ring batch turns streams feeds lists xs (omega (arith, a)) (omega (arith, b)) (omega (arith, c)) (λ p es ed el ex i j m n. each (suc p) es ed el ex i j m n))

  -- the file was finished
  pub recorded_is : (ring batch turns : ℕ) (streams : List StreamDoc) (feeds : List (FeedSource S)) (base held now : Option (List ℕ)) (desk : DeskState) (lists : List (List Sample)) (xs : List (InletView S)) (w : Written)
      → 1 ≤ ring → 1 ≤ batch → AreTurned left_of faults_of mark_of ring batch turns streams feeds base held desk lists xs → HaveEnded xs → IsFinished streams base now (first_turns ring batch lists turns) w
      → IsRecorded left_of faults_of mark_of Turns ring batch streams feeds base now (map report_in xs) w.bytes w.chunks (map (λ (x : InletView S). x.source) xs)
  recorded_is ring batch turns streams feeds base held now desk lists xs w low some k over f =
      let fed = all_fed streams feeds lists xs in
      let short = list_short ring batch turns streams feeds lists xs k.feed_count k.list_count k.inlet_count (λ p s d l x i j m n. (k.each p s d l x i j m n).short) in
      let all_turns = enough ring batch turns lists some short in
      let recording = subst (λ (bs : List Batch). IsRecording streams bs f.chunks) all_turns f.recording in
      let lists_are = fed_lists streams feeds lists xs k.feed_count k.list_count k.inlet_count in
      let P : List (List Sample) → Type 0 = λ ls. IsRecording streams (turn_batches ring batch ls) f.chunks in
      let ended : (p : ℕ) (x : InletView S) → slice_get xs p ≡ Some x → x.end ≡ Some (end_or x.end) = λ p x e. let o = over p x e in o.1 ∙ ap (λ (y : Option FeedEnd). Some (end_or y)) (sym o.1) in
      record {
        fed = fed;
        chunks = f.chunks;
        run = by_turns left_of faults_of mark_of ring batch streams feeds fed f.chunks (record {
          each_stream = fed_streams streams feeds lists xs k.feed_count k.list_count k.inlet_count;
          each_feed = fed_feeds streams feeds lists xs k.feed_count k.list_count k.inlet_count;
          recording = subst P (sym lists_are) recording;
          text = f.file;
          each = λ p y e.
              let m = fed_at streams feeds lists xs p y e in
              let Q : List (List Sample) → Type 0 = λ ls. IsFed left_of faults_of mark_of ring (turn_batches ring batch ls) f.chunks p y in
              subst Q (sym lists_are) (subst (λ (z : Fed S). IsFed left_of faults_of mark_of ring (turn_batches ring batch lists) f.chunks p z) (sym m.8)
              (fed_is left_of faults_of mark_of ring batch turns p streams lists f.chunks m.0 m.1 m.2 m.3 (end_or m.3.end) low some (k.each p m.0 m.1 m.2 m.3 m.4 m.5 m.6 m.7) (ended p m.3 m.7) recording all_turns m.4 m.6));
        });
        written = f.all;
        told = reports_same f.chunks streams feeds lists xs k.feed_count k.list_count k.inlet_count (λ p s d l x i j m n.
            report_is left_of faults_of mark_of ring batch turns p streams lists f.chunks s d l x (end_or x.end) low some (k.each p s d l x i j m n) (ended p x n) recording all_turns i m);
        size = f.size;
        chunk_count = f.count;
        left = sym (fed_lasts streams feeds lists xs k.feed_count k.list_count k.inlet_count);
      }
