-- The samples that were read of a source come first of those that the whole of its bytes gives.
use Rattle.std.proofs.Common.{◌≡◌, ℕ, zero, suc, ◌-◌, ◌^◌, ◌<◌, ◌≤◌, List, [], ◌∷◌, ◌++◌, length, length-append, take, drop, Option, Some, None, refl, sym, ap, ◌∙◌, subst, arith}
use Rattle.std.proofs.lemmas.List.{append-nil, length-drop, drop-append-le}
use Rattle.std.specs.Io.KnownBytes.{Consumes}
use Rattle.reading_model.specs.Outlook.{How, ended, failed, All, Outlook, Kind, final, at_end, at_fault, at_limit}
use Rattle.reading_model.specs.Rules.{Front, whole, short, last, Rules, given, by_front, all_by, all_of, AreSteady}
use Rattle.reading_model.specs.Reading.{how_of}
use Rattle.reading_model.specs.Read.{EndsSo}
use Rattle.piece_reader.specs.Steps.{Begun}
use Rattle.piece_reader.proofs.Ending.{fresh}
use Rattle.piece_reader.proofs.Fronts.{take_front}
use Rattle.xdf_model.specs.Sample.{Sample}
use Rattle.inlet_model.specs.declared.end.FeedEnd.{FeedEnd}
use Rattle.inlet_model.specs.Inlet.{FeedState, before_reply, feed_rules}
use Rattle.inlet_laws.proofs.Steady.{steady_feed}
use Rattle.recording_model.specs.declared.stream.StreamDoc.{StreamDoc}
use Rattle.run_model.specs.declared.feed.FeedSource.{FeedSource}
use Rattle.run_model.specs.Run.{byte_limit, feed_of}
use Rattle.run_model.specs.Outcomes.{AreFirstOf}

-- the items come first of those of another reading
abbrev ComeFirst : {I E : Type 0} → All I E → All I E → Type 0
ComeFirst {I = I} some all = (more : List I) × (all.0 ≡ some.0 ++ more)

first_given : {I E : Type 0} (i : Option I) (some all : All I E) → ComeFirst some all → ComeFirst (given i some) (given i all)
first_given None some all h = h
first_given (Some i) some all h = (h.0, ap (λ (l : List _). i ∷ l) h.1)

module _ {S I E : Type 0} (r : Rules S I E) (st : AreSteady r) where
  first_front : (left right : S → List ℕ → All I E) (how then : How) (s : S) (b more : List ℕ) (a : Front S I E) → r.at s b ≡ a
      → ((i : Option I) (u : ℕ) (t : S) → a ≡ whole i u t → ComeFirst (left t (drop u b)) (right t (drop u (b ++ more))))
      → ComeFirst (by_front r left how s b a) (by_front r right then s (b ++ more) (r.at s (b ++ more)))
  first_front left right how then s b more (whole i u t) e h =
      let same : r.at s (b ++ more) ≡ whole i u t = st.stays s b more (λ x. let wrong : whole i u t ≡ short = sym e ∙ x in cc) ∙ e in
      let k = first_given i (left t (drop u b)) (right t (drop u (b ++ more))) (h i u t refl) in
      (k.0, ap (λ (f : Front S I E). (by_front r right then s (b ++ more) f).0) same ∙ k.1)
  first_front left right how then s b more short e h = ((by_front r right then s (b ++ more) (r.at s (b ++ more))).0, refl)
  first_front left right how then s b more (last x) e h = ((by_front r right then s (b ++ more) (r.at s (b ++ more))).0, refl)

  first_by : (k m : ℕ) (how then : How) (s : S) (b more : List ℕ) → length (b ++ more) < m → ComeFirst (all_by k r how s b) (all_by m r then s (b ++ more))
  unfolding all_by
  first_by zero m how then s b more low = ((all_by m r then s (b ++ more)).0, refl)
  first_by (suc k) zero how then s b more low = absurd (omega arith)
  first_by (suc k) (suc m) how then s b more low =
      first_front (λ t rest. all_by k r how t rest) (λ t rest. all_by m r then t rest) how then s b more (r.at s b) refl (λ i u t e.
      let size = st.within s b i u t e in
      let there : drop u (b ++ more) ≡ drop u b ++ more = drop-append-le u b more size.1 in
      let fewer : length (drop u b ++ more) < m = omega (arith, length-append (drop u b) more, length-append b more, length-drop u b, size.0, size.1) in
      let g = first_by k m how then t (drop u b) more fewer in
      (g.0, ap (λ (l : List ℕ). (all_by m r then t l).0) there ∙ g.1))

  -- no more items than things that were looked for
  few_front : (go : S → List ℕ → All I E) (how : How) (s : S) (b : List ℕ) (n : ℕ) (a : Front S I E) → ((t : S) (c : List ℕ) → length (go t c).0 ≤ n) → length (by_front r go how s b a).0 ≤ suc n
  few_front go how s b n (whole None u t) h = let k = h t (drop u b) in omega (arith, k)
  few_front go how s b n (whole (Some i) u t) h = let k = h t (drop u b) in omega (arith, k)
  few_front go how s b n short h = omega arith
  few_front go how s b n (last x) h = omega arith

  few_by : (k : ℕ) (how : How) (s : S) (b : List ℕ) → length (all_by k r how s b).0 ≤ k
  unfolding all_by
  few_by zero how s b = omega arith
  few_by (suc k) how s b = few_front (λ t rest. all_by k r how t rest) how s b k (r.at s b) (λ t c. few_by k how t c)

module _ {S : Type 0} (stream : StreamDoc) (feed : FeedSource S) where
  abbrev rules : Rules FeedState Sample FeedEnd
  rules = feed_rules feed.uid stream.shape

  abbrev start : FeedState
  start = before_reply feed.limit

  -- more bytes give more samples
  grown : (taken rest : List ℕ) (how : How) → ComeFirst (feed_of stream feed taken how) (feed_of stream feed (taken ++ rest) ended)
  grown taken rest how =
      let b = take byte_limit taken in
      let more = take (byte_limit - length taken) rest in
      let all : take byte_limit (taken ++ rest) ≡ b ++ more = take_front byte_limit taken rest in
      let then = how_of byte_limit (taken ++ rest) ended in
      let k = first_by rules (steady_feed feed.uid stream.shape) (suc (length b)) (suc (length (b ++ more))) (how_of byte_limit taken how) then start b more (omega arith) in
      (k.0, ap (λ (l : List ℕ). (all_of rules then start l).0) all ∙ k.1)

  -- all samples of a text are no more than its bytes that count, and one
  pub all_few : (text : List ℕ) (how : How) → length (feed_of stream feed text how).0 < 2 ^ 62
  all_few text how =
      let b = take byte_limit text in
      let few = few_by rules (steady_feed feed.uid stream.shape) (suc (length b)) (how_of byte_limit text how) start b in
      omega (arith, few, length_take byte_limit text)
    where
      length_take : (n : ℕ) (xs : List ℕ) → length (take n xs) ≤ n
      length_take zero xs = omega arith
      length_take (suc n) [] = omega arith
      length_take (suc n) (x ∷ xs) = let k = length_take n xs in omega (arith, k)

  pub read_few : (kind : Kind) (taken : List ℕ) (left : Option (List ℕ)) (samples : List Sample) (e : FeedEnd) → EndsSo kind (feed_of stream feed) taken left samples e → length samples < 2 ^ 62
  read_few final taken left samples e h = subst (λ (a : All Sample FeedEnd). length a.0 < 2 ^ 62) (h [] ended) (all_few (taken ++ []) ended)
  read_few at_limit taken left samples e h = subst (λ (a : All Sample FeedEnd). length a.0 < 2 ^ 62) (h [] ended) (all_few (taken ++ []) ended)
  read_few at_end taken left samples e h = subst (λ (a : All Sample FeedEnd). length a.0 < 2 ^ 62) h.1 (all_few taken ended)
  read_few at_fault taken left samples e h = subst (λ (a : All Sample FeedEnd). length a.0 < 2 ^ 62) h (all_few taken failed)

  by_kind : (kind : Kind) (taken rest : List ℕ) (samples : List Sample) (e : FeedEnd) → EndsSo kind (feed_of stream feed) taken (Some rest) samples e
      → (more : List Sample) × ((feed_of stream feed (taken ++ rest) ended).0 ≡ samples ++ more)
  by_kind final taken rest samples e h = ([], ap (λ (a : All Sample FeedEnd). a.0) (h rest ended) ∙ sym (append-nil samples))
  by_kind at_limit taken rest samples e h = ([], ap (λ (a : All Sample FeedEnd). a.0) (h rest ended) ∙ sym (append-nil samples))
  by_kind at_end taken rest samples e h = let k = grown taken rest ended in (k.0, k.1 ∙ ap (λ (a : All Sample FeedEnd). a.0 ++ k.0) h.1)
  by_kind at_fault taken rest samples e h = let k = grown taken rest failed in (k.0, k.1 ∙ ap (λ (a : All Sample FeedEnd). a.0 ++ k.0) h)

  of_text : (a c : Option (List ℕ)) (taken : List ℕ) (samples : List Sample) → Consumes a c taken
      → ((rest : List ℕ) → c ≡ Some rest → (more : List Sample) × ((feed_of stream feed (taken ++ rest) ended).0 ≡ samples ++ more))
      → (text : List ℕ) → a ≡ Some text → (more : List Sample) × ((feed_of stream feed text ended).0 ≡ samples ++ more)
  of_text None c taken samples lost h text is = absurd cc
  of_text (Some x) None taken samples lost h text is = absurd lost
  of_text (Some x) (Some y) taken samples lost h text is =
      let k = h y refl in
      let same : text ≡ taken ++ y = let own : x ≡ text = cc is in sym own ∙ lost in
      (k.0, ap (λ (l : List ℕ). (feed_of stream feed l ended).0) same ∙ k.1)

  module _ (left_of : S → Option (List ℕ)) where
    -- an end was met
    pub first_ended : (kind : Kind) (after : S) (taken : List ℕ) (samples : List Sample) (e : FeedEnd) → Consumes (left_of feed.source) (left_of after) taken
        → EndsSo kind (feed_of stream feed) taken (left_of after) samples e → AreFirstOf left_of (feed_of stream feed) feed.source samples
    first_ended kind after taken samples e lost h text is =
        of_text (left_of feed.source) (left_of after) taken samples lost (λ rest there. by_kind kind taken rest samples e (ends_there kind (left_of after) rest there h)) text is
      where
        ends_there : (k : Kind) (c : Option (List ℕ)) (rest : List ℕ) → c ≡ Some rest → EndsSo k (feed_of stream feed) taken c samples e → EndsSo k (feed_of stream feed) taken (Some rest) samples e
        ends_there k c rest there h = subst (λ (o : Option (List ℕ)). EndsSo k (feed_of stream feed) taken o samples e) there h

    -- or none yet
    pub first_begun : (now : Outlook Sample FeedEnd) (after : S) (samples : List Sample) → Begun (fresh (feed_of stream feed)) now (left_of feed.source) (left_of after) samples
        → AreFirstOf left_of (feed_of stream feed) feed.source samples
    first_begun now after samples k text is =
        of_text (left_of feed.source) (left_of after) k.taken samples k.lost (λ rest there. ((now.coming rest ended).0, ap (λ (a : All Sample FeedEnd). a.0) (k.same rest ended))) text is
