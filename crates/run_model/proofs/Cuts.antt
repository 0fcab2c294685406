-- What a writer that failed has written is part of a recording of the feeds.
use Rattle.std.proofs.Common.{◌≡◌, ℕ, zero, suc, ◌^◌, ◌<◌, List, [], ◌∷◌, ◌++◌, length, length-append, take, slice_get, Option, Some, None, refl, sym, ap, ◌∙◌, subst, inl, inr, arith}
use Rattle.std.specs.List.{AllByRecursion}
use Rattle.std.proofs.lemmas.List.{append-nil, length-map, take_all}
use Rattle.std.proofs.lemmas.Option.{slice_get_within}
use Rattle.reading_model.specs.Outlook.{ended}
use Rattle.xdf_model.specs.Sample.{Sample}
use Rattle.chunk_grammar.specs.declared.chunk.Chunk.{Chunk}
use Rattle.chunk_grammar.specs.Chunk.{IsFileText, least_file_text}
use Rattle.inlet_model.specs.Inlet.{feed_kind}
use Rattle.plan_model.specs.declared.plan.Mode.{Mode}
use Rattle.recording_model.specs.declared.stream.StreamDoc.{StreamDoc}
use Rattle.recording_model.specs.Batch.{Entry, Batch}
use Rattle.recording_model.specs.Recording.{IsRecording}
use Rattle.loss_model.specs.Loss.{entries_at, AreOf}
use Rattle.record_writer.specs.Standing.{IsCut}
use Rattle.run_model.specs.declared.feed.FeedSource.{FeedSource}
use Rattle.run_model.specs.Run.{Fed, IsRun, feed_of}
use Rattle.run_model.specs.Outcomes.{AreFirstOf, AreAllOf, IsPartOf, IsCutOff}
use Rattle.loss_laws.proofs.Partial.{recording_begun}
use Rattle.loss_laws.proofs.Rings.{all_put}
use Rattle.run_model.proofs.Lists.{item_at, map_at, push_cases}
use Rattle.run_model.proofs.Fed.{are_of_taken}
use Rattle.run_model.proofs.Firsts.{all_few, read_few, first_ended}

-- ---- entries of some samples are those of more

got_more : (xs more : List Sample) (n : ℕ) (s : Sample) → slice_get xs n ≡ Some s → slice_get (xs ++ more) n ≡ Some s
got_more [] more n s e = absurd cc
got_more (x ∷ xs) more zero s e = e
got_more (x ∷ xs) more (suc n) s e = got_more xs more n s e

pub of_more : (xs more : List Sample) (es : List Entry) → AreOf xs es → AreOf (xs ++ more) es
of_more xs more [] all = tt
of_more xs more (e ∷ es) all = (got_more xs more e.position e.sample all.0, of_more xs more es all.1)

-- those that come first are of the same samples
pub of_first : (samples : List Sample) (es left : List Entry) → AreOf samples (es ++ left) → AreOf samples es
of_first samples [] left all = tt
of_first samples (e ∷ es) left all = (all.0, of_first samples es left all.1)

-- ---- a list, by what its item at each place must be

listed : {A : Type 0} (n : ℕ) (P : ℕ → A → Type 0) → ((p : ℕ) → p < n → (x : A) × P p x) → (xs : List A) × (length xs ≡ n) × ((p : ℕ) (x : A) → slice_get xs p ≡ Some x → P p x)
listed zero P each = ([], refl, λ p x e. absurd cc)
listed (suc n) P each =
    let k = listed n P (λ p low. each p (omega (arith, low))) in
    let one = each n (omega arith) in (
      k.0 ++ one.0 ∷ [],
      omega (arith, length-append k.0 (one.0 ∷ []), k.1),
      λ p x e. elim (push_cases k.0 one.0 x p e) [
        | inl old ↦ k.2 p x old.1
        | inr new ↦ subst (λ (y : _). P p y) new.1 (subst (λ (q : ℕ). P q one.0) (sym (new.0 ∙ k.1)) one.1)
      ],
    )

-- ---- the feeds

module _ {S : Type 0} (left_of : S → Option (List ℕ)) where
  -- of a feed samples are known that come first
  pub record HasFirst (stream : StreamDoc) (feed : FeedSource S) (entries : List Entry) : Type 0 where
    pub samples : List Sample
    pub of : AreOf samples entries
    pub few : length samples < 2 ^ 62
    pub first : AreFirstOf left_of (feed_of stream feed) feed.source samples

  whole_in : (left : Option (List ℕ)) (stream : StreamDoc) (feed : FeedSource S) (entries : List Entry) → left ≡ left_of feed.source → HasFirst stream feed entries
      → (samples : List Sample) × AreAllOf left_of stream feed samples × AreOf samples entries × (length samples < 2 ^ 62)
  whole_in None stream feed entries is k = (k.samples, (λ text there. absurd (let wrong : None ≡ Some text = is ∙ there in cc)), k.of, k.few)
  whole_in (Some text) stream feed entries is k =
      let h = k.first text (sym is) in
      let all = (feed_of stream feed text ended).0 in (
        all,
        (λ other there. let same : text ≡ other = let both : Some text ≡ Some other = is ∙ there in cc in ap (λ (t : List ℕ). (feed_of stream feed t ended).0) same),
        subst (λ (l : List Sample). AreOf l entries) (sym h.1) (of_more k.samples h.0 entries k.of),
        all_few stream feed text ended,
      )

  -- the beginning of the file of chunks that begin a recording
  part_of : (streams : List StreamDoc) (feeds : List (FeedSource S)) (batches : List Batch) (chunks some more : List Chunk) (n : ℕ) → length feeds ≡ length streams → IsRecording streams batches chunks → chunks ≡ some ++ more
      → IsFileText some (least_file_text some) → ((p : ℕ) (stream : StreamDoc) (feed : FeedSource S) → slice_get streams p ≡ Some stream → slice_get feeds p ≡ Some feed → HasFirst stream feed (entries_at p batches))
      → IsPartOf left_of streams feeds (take n (least_file_text some))
  part_of streams feeds batches chunks some more n same recording begins file each =
      let P : ℕ → List Sample → Type 0 = λ p l. ((stream : StreamDoc) (feed : FeedSource S) → slice_get streams p ≡ Some stream → slice_get feeds p ≡ Some feed → AreAllOf left_of stream feed l)
      × AreOf l (entries_at p batches) × (length l < 2 ^ 62) in
      let k = listed (length streams) P (λ p low.
      let s = item_at streams p low in
      let f = item_at feeds p (omega (arith, low, same)) in
      let w = whole_in (left_of f.0.source) s.0 f.0 (entries_at p batches) refl (each p s.0 f.0 s.1 f.1) in
      (w.0, ((λ stream feed a b. all_same s.0 stream f.0 feed w.0 (let e : Some s.0 ≡ Some stream = sym s.1 ∙ a in cc) (let e : Some f.0 ≡ Some feed = sym f.1 ∙ b in cc) w.1), w.2, w.3))) in
      record {
        lists = k.0;
        count = k.1;
        each = λ place stream feed samples a b c. (k.2 place samples c).0 stream feed a b;
        partial = recording_begun streams batches chunks some more k.0 n recording begins file (λ place samples c. ((k.2 place samples c).1, (k.2 place samples c).2));
      }
    where
      all_same : (s t : StreamDoc) (f g : FeedSource S) (l : List Sample) → s ≡ t → f ≡ g → AreAllOf left_of s f l → AreAllOf left_of t g l
      all_same s t f g l a b h = subst (λ (x : StreamDoc). AreAllOf left_of x g l) a (subst (λ (y : FeedSource S). AreAllOf left_of s y l) b h)

  -- what a writer that failed has written
  pub cut_off : (streams : List StreamDoc) (feeds : List (FeedSource S)) (base held : Option (List ℕ)) (batches : List Batch) → length feeds ≡ length streams → IsCut streams base held batches
      → ((p : ℕ) (stream : StreamDoc) (feed : FeedSource S) → slice_get streams p ≡ Some stream → slice_get feeds p ≡ Some feed → HasFirst stream feed (entries_at p batches))
      → IsCutOff left_of streams feeds base held
  cut_off streams feeds base held batches same cut each = record {
    text = take cut.front.0 (least_file_text cut.some);
    written = cut.front.1;
    part = part_of streams feeds batches cut.chunks cut.some cut.more cut.front.0 same cut.recording cut.begins cut.file each;
  }

  -- the whole file of a run is such a part, too
  module _ {M : Type 0} (faults_of : S → ℕ) (mark_of : S → M) (mode : Mode) (ring batch : ℕ) (streams : List StreamDoc) (feeds : List (FeedSource S)) (fed : List (Fed S)) (chunks : List Chunk)
      (run : IsRun left_of faults_of mark_of mode ring batch streams feeds fed chunks) where
    fed_first : (p : ℕ) (x : Fed S) → slice_get fed p ≡ Some x → HasFirst x.stream x.feed (entries_at p run.batches)
    fed_first p x is =
        let f = run.each p x is in
        let h = f.dropped in
        let all = (all_put ring h.state h.reached).0 in
        let own = subst (λ (l : List Sample). AllByRecursion (λ e. slice_get l e.position ≡ Some e.value) h.state.taken) h.puts all in
        let first = first_ended x.stream x.feed left_of (feed_kind x.end) x.last f.read.taken x.samples x.end f.read.lost f.read.ends in
        record {
          samples = x.samples;
          of = subst (AreOf x.samples) h.taken (are_of_taken x.samples h.state.taken own);
          few = read_few x.stream x.feed (feed_kind x.end) f.read.taken (left_of x.last) x.samples x.end f.read.ends;
          first = first;
        }

    run_each : (p : ℕ) (stream : StreamDoc) (feed : FeedSource S) → slice_get streams p ≡ Some stream → slice_get feeds p ≡ Some feed → HasFirst stream feed (entries_at p run.batches)
    run_each p stream feed is there =
        let low = slice_get_within streams p stream is in
        let x = item_at fed p (omega (arith, low, ap length run.each_stream, length-map fed (λ (y : Fed S). y.stream))) in
        let s : x.0.stream ≡ stream = let both : Some x.0.stream ≡ Some stream = sym (map_at (λ (y : Fed S). y.stream) fed p x.0 x.1) ∙ ap (λ (l : List StreamDoc). slice_get l p) run.each_stream ∙ is in cc in
        let f : x.0.feed ≡ feed = let both : Some x.0.feed ≡ Some feed = sym (map_at (λ (y : Fed S). y.feed) fed p x.0 x.1) ∙ ap (λ (l : List (FeedSource S)). slice_get l p) run.each_feed ∙ there in cc in
        subst (λ (t : StreamDoc). HasFirst t feed (entries_at p run.batches)) s (subst (λ (g : FeedSource S). HasFirst x.0.stream g (entries_at p run.batches)) f (fed_first p x.0 x.1))

    pub run_part : IsPartOf left_of streams feeds (least_file_text chunks)
    run_part =
        let text = least_file_text chunks in
        let same : length feeds ≡ length streams = omega (arith, ap length run.each_stream, ap length run.each_feed, length-map fed (λ (y : Fed S). y.stream), length-map fed (λ (y : Fed S). y.feed)) in
        subst (IsPartOf left_of streams feeds) (take_all (length text) text (omega arith))
        (part_of streams feeds run.batches chunks chunks [] (length text) same run.recording (sym (append-nil chunks)) run.text run_each)
