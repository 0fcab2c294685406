-- The end of a run.
use Rattle.std.proofs.Common.{◌≡◌, ◌≢◌, ℕ, zero, suc, ◌+◌, ◌-◌, ◌^◌, ◌≤◌, List, [], ◌∷◌, length, map, slice_get, Option, Some, refl, sym, ap, ◌∙◌, subst, arith, Result, Ok, Err}
use Rattle.std.specs.Prelude.{OnOk, IfOk}
use Rattle.std.proofs.lemmas.Option.{slice_get_within}
use Rattle.reading_model.specs.Read.{Reader, IsRead}
use Rattle.xdf_model.specs.Sample.{Sample, size_of}
use Rattle.chunk_grammar.specs.declared.chunk.Chunk.{Chunk}
use Rattle.inlet_model.specs.declared.end.FeedEnd.{FeedEnd}
use Rattle.inlet_model.specs.Inlet.{feed_kind}
use Rattle.feed_samples.specs.Inlet.{outlook}
use Rattle.ring_model.specs.Ring.{RingState, IsReached}
use Rattle.plan_model.specs.declared.plan.Mode.TheVariants.{Threads}
use Rattle.recording_model.specs.declared.stream.StreamDoc.{StreamDoc}
use Rattle.recording_model.specs.Batch.{Batch}
use Rattle.recording_model.specs.Recording.{IsRecording}
use Rattle.loss_model.specs.Loss.{behind_last, entries_at}
use Rattle.loss_laws.proofs.Rings.{all_put}
use Rattle.record_writer.specs.declared.fault.WriterFault.{WriterFault}
use Rattle.record_writer.specs.declared.fault.WriterFault.TheVariants as fault
use Rattle.record_writer.specs.declared.written.Written.{Written}
use Rattle.record_writer.specs.Desk.{DeskState}
use Rattle.record_writer.specs.Standing.{IsFinished}
use Rattle.run_model.specs.declared.feed.FeedSource.{FeedSource}
use Rattle.run_model.specs.declared.outcome.Outcome.{Outcome}
use Rattle.run_model.specs.declared.outcome.Outcome.TheVariants as outcome
use Rattle.run_model.specs.declared.report.FeedReport.{FeedReport}
use Rattle.run_model.specs.Fitting.{AreNumbers}
use Rattle.run_model.specs.Rings.{ring_entry}
use Rattle.run_model.specs.Run.{feed_of, Fed, IsFed, report_of}
use Rattle.run_model.specs.Outcomes.{IsCutOff, IsRecorded}
use Rattle.run_model.proofs.Fed.{fed_is, report_is}
use Rattle.run_model.proofs.Lists.{item_at}
use Rattle.thread_ring.specs.Ends.{AreFew}
use Rattle.feed_lane.specs.Lanes.{Lane}
use Rattle.thread_run.specs.declared.work.InletDone.{InletDone}
use Rattle.thread_run.specs.declared.work.InletDone.TheVariants.{Ended, Memory, Halted}
use Rattle.thread_run.specs.declared.work.Work.{Work}
use Rattle.thread_run.specs.declared.work.Worked.{Worked}
use Rattle.thread_run.specs.declared.lane.CountedHead.{CountedHead}
use Rattle.thread_run.specs.declared.settle.Joined.{Joined}
use Rattle.thread_run.specs.Work.{HasEnded, HasWorked}
use Rattle.thread_run.specs.Settled.{IsSettled}
use Rattle.thread_run.specs.Opening.{IsNewLane, ThreadsView, AreThreadsFor}
use Rattle.thread_run.specs.Concluded.{HaveRun, HaveSettled, HaveEnded, end_in, report_in}
use Rattle.thread_run.proofs.Behind.{behind_all}

-- a fact that each success has
pub on_ok : {R E : Type 0} (r : Result R E) (P : R → Type 0) (Q : Type 0) → ((x : R) → P x → Q) → IfOk r P → OnOk r Q
on_ok (Ok x) P Q f h = f x h
on_ok (Err e) P Q f h = tt

-- an inlet that neither wanted memory nor was stopped ended
pub ended_or : (d : InletDone) → d ≢ Memory → d ≢ Halted → (e : FeedEnd) × (d ≡ Ended e)
ended_or (Ended e) apart going = (e, refl)
ended_or Memory apart going = absurd (apart refl)
ended_or Halted apart going = absurd (going refl)

-- what a writer's fault is told as
pub told_fault : {S : Type 0} (f : WriterFault) (told : Outcome S) → (f ≡ fault.Memory → told ≡ outcome.Memory) → told ≡ outcome.WriteFault → f ≡ fault.WriteFault
told_fault fault.WriteFault told memory is = refl
told_fault fault.Memory told memory is = let is_memory = memory refl in absurd cc

-- a run that a fault of the writer stopped
pub stopped_run : {S M : Type 0} (left_of : S → Option (List ℕ)) (faults_of : S → ℕ) (mark_of : S → M) (batch : ℕ) (desk : DeskState) (v : ThreadsView S) (before now : Option (List ℕ)) (f : WriterFault) (told : Outcome S)
    → (f ≡ fault.WriteFault → told ≡ outcome.WriteFault) → (f ≡ fault.Memory → told ≡ outcome.Memory)
    → ((ring : ℕ) (streams : List StreamDoc) (feeds : List (FeedSource S)) → AreThreadsFor ring batch streams feeds desk v → IsCutOff left_of streams feeds before now)
    → ((ring : ℕ) (streams : List StreamDoc) (feeds : List (FeedSource S)) → AreThreadsFor ring batch streams feeds desk v → AreNumbers streams → f ≡ fault.Memory → ⊥)
    → HaveRun left_of faults_of mark_of batch desk v before now told
stopped_run {S = S} left_of faults_of mark_of batch desk v before now fault.WriteFault told a b cut memory =
    subst (λ (t : Outcome S). HaveRun left_of faults_of mark_of batch desk v before now t) (sym (a refl)) (record {
      done = λ ring streams feeds o. tt;
      stopped = cut;
      memory = λ ring streams feeds o numbers is. absurd cc;
    })
stopped_run {S = S} left_of faults_of mark_of batch desk v before now fault.Memory told a b cut memory =
    subst (λ (t : Outcome S). HaveRun left_of faults_of mark_of batch desk v before now t) (sym (b refl)) (record {
      done = λ ring streams feeds o. tt;
      stopped = cut;
      memory = λ ring streams feeds o numbers is. memory ring streams feeds o numbers refl;
    })

-- ---- one feed

module _ {S M : Type 0} (left_of : S → Option (List ℕ)) (faults_of : S → ℕ) (mark_of : S → M) where
  abbrev fed_of : StreamDoc → FeedSource S → Joined S → Fed S
  fed_of stream feed s = record { stream = stream; feed = feed; last = s.reader.source; samples = s.lane.last.state.puts; end = end_in s.done }

  module _ (ring place : ℕ) (streams : List StreamDoc) (batches : List Batch) (chunks : List Chunk) (stream : StreamDoc) (feed : FeedSource S) (work : Work S) (head : CountedHead) (worked : Worked S) (s : Joined S) (e : FeedEnd)
      (recording : IsRecording streams batches chunks) (has_stream : slice_get streams place ≡ Some stream)
      (new : IsNewLane ring stream feed work head) (did : HasWorked left_of faults_of mark_of work worked) (is : IsSettled worked s) (taken : map ring_entry s.lane.last.state.taken ≡ entries_at place batches) (done : s.done ≡ Ended e) where
    abbrev state : RingState Sample
    state = s.lane.last.state

    abbrev samples : List Sample
    samples = state.puts

    capacity : s.lane.last.capacity ≡ ring
    capacity = is.capacity ∙ ap (λ (l : Lane). l.capacity) did.lane ∙ new.capacity

    reached : IsReached ring state
    reached = subst (λ (n : ℕ). IsReached n state) capacity is.reached

    few : AreFew ring samples state.dropped
    few = subst (λ (n : ℕ). AreFew n samples state.dropped) capacity is.few

    counted : s.reader.inlet.received ≡ length samples
    counted = ap (λ (r : _). r.inlet.received) is.reader ∙ did.received ∙ ap length (sym is.puts)

    short : length samples ≤ 2 ^ 40
    short = let same = did.received ∙ ap length (sym is.puts) in omega (arith, same, did.few)

    read : IsRead left_of faults_of mark_of feed_kind (feed_of stream feed) feed.source s.reader.source samples e
    read =
        let first = work.reader.source in
        let last = worked.reader.source in
        let coming = (outlook work.reader.inlet).coming in
        let ended : worked.done ≡ Ended e = sym is.done ∙ done in
        let a : IsRead left_of faults_of mark_of feed_kind coming first last worked.tail.puts e =
        subst (λ (d : InletDone). HasEnded left_of faults_of mark_of coming first last (outlook worked.reader.inlet) worked.tail.puts d) ended did.put in
        let same : coming ≡ feed_of stream feed = λ i more how. new.all more how i in
        let b = subst (λ (r : Reader Sample FeedEnd). IsRead left_of faults_of mark_of feed_kind r first last worked.tail.puts e) same a in
        let c = subst (λ (x : S). IsRead left_of faults_of mark_of feed_kind (feed_of stream feed) x last worked.tail.puts e) new.source b in
        let d = subst (λ (x : S). IsRead left_of faults_of mark_of feed_kind (feed_of stream feed) feed.source x worked.tail.puts e) (ap (λ (r : _). r.source) (sym is.reader)) c in
        subst (λ (l : List Sample). IsRead left_of faults_of mark_of feed_kind (feed_of stream feed) feed.source s.reader.source l e) (sym is.puts) d

    behind : behind_last (map ring_entry state.taken) ≡ length samples
    behind = behind_all ring state reached is.empty few

    counts : length state.taken + length state.dropped ≡ length samples
    counts = let sum = (all_put ring state reached).3 in let none = ap length is.empty in omega (arith, sum, none)

    kept : s.lane.kept ≡ length state.taken
    kept = omega (arith, is.counted, counts, short)

    same_end : end_in s.done ≡ e
    same_end = ap end_in done

    pub one_fed : IsFed left_of faults_of mark_of ring batches chunks place (fed_of stream feed s)
    one_fed =
        let P : FeedEnd → Type 0 = λ x. IsFed left_of faults_of mark_of ring batches chunks place (record { stream = stream; feed = feed; last = s.reader.source; samples = samples; end = x }) in
        subst P (sym same_end)
        (fed_is left_of faults_of mark_of ring place streams batches chunks stream feed samples s.reader.source e state recording has_stream reached refl is.empty taken behind few.count short read)

    pub one_report : report_in s ≡ report_of chunks (fed_of stream feed s)
    one_report =
        let lost : s.reader.inlet.received - s.lane.kept ≡ length state.dropped = omega (arith, counted, kept, counts) in
        let P : FeedEnd → Type 0 = λ x. report_in s ≡ report_of chunks (record { stream = stream; feed = feed; last = s.reader.source; samples = samples; end = x }) in
        subst P (sym same_end)
        (report_is left_of faults_of mark_of ring place streams batches chunks stream feed samples s.reader.source e state recording has_stream reached refl is.empty taken behind few.count short read
        s.id s.reader.inlet.received s.lane.kept (s.reader.inlet.received - s.lane.kept) (end_in s.done) (is.id ∙ did.id ∙ new.id) counted kept lost same_end)

  -- ---- all feeds

  -- each feed with its stream and what it gave
  abbrev all_fed : List StreamDoc → List (FeedSource S) → List (Joined S) → List (Fed S)
  all_fed (s ∷ streams) (d ∷ feeds) (x ∷ xs) = fed_of s d x ∷ all_fed streams feeds xs
  all_fed [] feeds xs = []
  all_fed (s ∷ streams) [] xs = []
  all_fed (s ∷ streams) (d ∷ feeds) [] = []

  fed_streams : (streams : List StreamDoc) (feeds : List (FeedSource S)) (xs : List (Joined S)) → length feeds ≡ length streams → length xs ≡ length streams → map (λ (y : Fed S). y.stream) (all_fed streams feeds xs) ≡ streams
  fed_streams [] feeds xs a b = refl
  fed_streams (s ∷ streams) [] xs a b = absurd (omega (arith, a))
  fed_streams (s ∷ streams) (d ∷ feeds) [] a b = absurd (omega (arith, b))
  fed_streams (s ∷ streams) (d ∷ feeds) (x ∷ xs) a b = ap (λ (t : List StreamDoc). s ∷ t) (fed_streams streams feeds xs (omega (arith, a)) (omega (arith, b)))

  fed_feeds : (streams : List StreamDoc) (feeds : List (FeedSource S)) (xs : List (Joined S)) → length feeds ≡ length streams → length xs ≡ length streams → map (λ (y : Fed S). y.feed) (all_fed streams feeds xs) ≡ feeds
  fed_feeds [] [] xs a b = refl
  fed_feeds [] (d ∷ feeds) xs a b = absurd (omega (arith, a))
  fed_feeds (s ∷ streams) [] xs a b = absurd (omega (arith, a))
  fed_feeds (s ∷ streams) (d ∷ feeds) [] a b = absurd (omega (arith, b))
  fed_feeds (s ∷ streams) (d ∷ feeds) (x ∷ xs) a b = ap (λ (t : List (FeedSource S)). d ∷ t) (fed_feeds streams feeds xs (omega (arith, a)) (omega (arith, b)))

  fed_lasts : (streams : List StreamDoc) (feeds : List (FeedSource S)) (xs : List (Joined S)) → length feeds ≡ length streams → length xs ≡ length streams
      → map (λ (y : Fed S). y.last) (all_fed streams feeds xs) ≡ map (λ (x : Joined S). x.reader.source) xs
  fed_lasts [] feeds [] a b = refl
  fed_lasts [] feeds (x ∷ xs) a b = absurd (omega (arith, b))
  fed_lasts (s ∷ streams) [] xs a b = absurd (omega (arith, a))
  fed_lasts (s ∷ streams) (d ∷ feeds) [] a b = absurd (omega (arith, b))
  fed_lasts (s ∷ streams) (d ∷ feeds) (x ∷ xs) a b = ap (λ (t : List S). x.reader.source ∷ t) (fed_lasts streams feeds xs (omega (arith, a)) (omega (arith, b)))

  -- which feed stands at a place
  fed_at : (streams : List StreamDoc) (feeds : List (FeedSource S)) (xs : List (Joined S)) (p : ℕ) (y : Fed S) → slice_get (all_fed streams feeds xs) p ≡ Some y
      → (s : StreamDoc) × (d : FeedSource S) × (x : Joined S) × (slice_get streams p ≡ Some s) × (slice_get feeds p ≡ Some d) × (slice_get xs p ≡ Some x) × (y ≡ fed_of s d x)
  fed_at [] feeds xs p y e = absurd cc
  fed_at (s ∷ streams) [] xs p y e = absurd cc
  fed_at (s ∷ streams) (d ∷ feeds) [] p y e = absurd cc
  fed_at (s ∷ streams) (d ∷ feeds) (x ∷ xs) zero y e = (s, d, x, refl, refl, refl, sym (cc e))
  fed_at (s ∷ streams) (d ∷ feeds) (x ∷ xs) (suc p) y e = fed_at streams feeds xs p y e

  reports_same : (chunks : List Chunk) (streams : List StreamDoc) (feeds : List (FeedSource S)) (xs : List (Joined S)) → length feeds ≡ length streams → length xs ≡ length streams
      → ((p : ℕ) (s : StreamDoc) (d : FeedSource S) (x : Joined S) → slice_get streams p ≡ Some s → slice_get feeds p ≡ Some d → slice_get xs p ≡ Some x → report_in x ≡ report_of chunks (fed_of s d x))
      → map report_in xs ≡ map (report_of chunks) (all_fed streams feeds xs)
  reports_same chunks [] feeds [] a b each = refl
  reports_same chunks [] feeds (x ∷ xs) a b each = absurd (omega (arith, b))
  reports_same chunks (s ∷ streams) [] xs a b each = absurd (omega (arith, a))
  reports_same chunks (s ∷ streams) (d ∷ feeds) [] a b each = absurd (omega (arith, b))
  reports_same chunks (s ∷ streams) (d ∷ feeds) (x ∷ xs) a b each =
      ap (λ (r : FeedReport). r ∷ map report_in xs) (each 0 s d x refl refl refl)
      ∙ ap (λ (l : List FeedReport). report_of chunks (fed_of s d x) ∷ l) (reports_same chunks streams feeds xs (omega (arith, a)) (omega (arith, b)) (λ p t f y et ef ey. each (suc p) t f y et ef ey))

  module _ (ring batch : ℕ) (streams : List StreamDoc) (feeds : List (FeedSource S)) (desk : DeskState) (v : ThreadsView S) (k : AreThreadsFor ring batch streams feeds desk v)
      (base held : Option (List ℕ)) (last : DeskState) (all : List (Joined S)) (h : HaveSettled left_of faults_of mark_of batch streams base held last v.works all) where
    pub all_count : length all ≡ length streams
    all_count = h.are_settled.count ∙ h.are_worked.count ∙ k.work_count

    -- no inlet wants memory where all are of numbers
    pub none_ran_out : AreNumbers streams → (p : ℕ) (s : Joined S) → slice_get all p ≡ Some s → s.done ≡ Memory → ⊥
    none_ran_out numbers p s es is =
        let low = slice_get_within all p s es in
        let t = item_at streams p (omega (arith, low, all_count)) in
        let d = item_at feeds p (omega (arith, low, all_count, k.feed_count)) in
        let w = item_at v.works p (omega (arith, low, all_count, k.work_count)) in
        let c = item_at v.heads p (omega (arith, low, all_count, k.head_count)) in
        let r = item_at h.worked p (omega (arith, low, h.are_settled.count)) in
        let new = k.each p t.0 d.0 w.0 c.0 t.1 d.1 w.1 c.1 in
        let did = h.are_worked.each p w.0 r.0 w.1 r.1 in
        let settled = (h.are_settled.each p r.0 s r.1 es).0 in
        did.memory (subst (λ (x : _). 1 ≤ size_of x.format) (sym new.shape) (numbers p t.0 t.1)) (sym settled.done ∙ is)

    module _ (now : Option (List ℕ)) (over : HaveEnded all) (w : Written) (f : IsFinished streams base now h.batches w) where
      each_fed : (p : ℕ) (t : StreamDoc) (d : FeedSource S) (s : Joined S) → slice_get streams p ≡ Some t → slice_get feeds p ≡ Some d → slice_get all p ≡ Some s
          → IsFed left_of faults_of mark_of ring h.batches f.chunks p (fed_of t d s) × (report_in s ≡ report_of f.chunks (fed_of t d s))
      each_fed p t d s et ed es =
          let low = slice_get_within all p s es in
          let u = item_at v.works p (omega (arith, low, all_count, k.work_count)) in
          let c = item_at v.heads p (omega (arith, low, all_count, k.head_count)) in
          let r = item_at h.worked p (omega (arith, low, h.are_settled.count)) in
          let new = k.each p t d u.0 c.0 et ed u.1 c.1 in
          let did = h.are_worked.each p u.0 r.0 u.1 r.1 in
          let settled = h.are_settled.each p r.0 s r.1 es in
          let e = over p s es in (
            one_fed ring p streams h.batches f.chunks t d u.0 c.0 r.0 s e.0 f.recording et new did settled.0 settled.1 e.1,
            one_report ring p streams h.batches f.chunks t d u.0 c.0 r.0 s e.0 f.recording et new did settled.0 settled.1 e.1,
          )

      -- the file was finished
      pub recorded_is : IsRecorded left_of faults_of mark_of Threads ring batch streams feeds base now (map report_in all) w.bytes w.chunks (map (λ (s : Joined S). s.reader.source) all)
      recorded_is = record {
        fed = all_fed streams feeds all;
        chunks = f.chunks;
        run = record {
          each_stream = fed_streams streams feeds all k.feed_count all_count;
          each_feed = fed_feeds streams feeds all k.feed_count all_count;
          batches = h.batches;
          are = h.are_settled.short;
          recording = f.recording;
          text = f.file;
          each = λ p y e.
              let m = fed_at streams feeds all p y e in
              subst (λ (z : Fed S). IsFed left_of faults_of mark_of ring h.batches f.chunks p z) (sym m.6) (each_fed p m.0 m.1 m.2 m.3 m.4 m.5).0;
        };
        written = f.all;
        told = reports_same f.chunks streams feeds all k.feed_count all_count (λ p t d s et ed es. (each_fed p t d s et ed es).1);
        size = f.size;
        chunk_count = f.count;
        left = sym (fed_lasts streams feeds all k.feed_count all_count);
      }
