-- The inputs of feeds, one after the other.
use Rattle.std.proofs.Common.{◌≡◌, ℕ, zero, suc, ◌+◌, ◌≤◌, List, [], ◌∷◌, ◌++◌, length, take, drop, Option, Some, None, refl, sym, ap, ◌∙◌, subst, append-nil, append_assoc, arith}
use Rattle.std.specs.Prelude.{slice_get}
use Rattle.std.specs.List.{zip}
use Rattle.std.proofs.lemmas.List.{take_all}
use Rattle.rec_base.specs.declared.name.Name.{Name}
use Rattle.rec_base.specs.declared.name.Name.TheVariants as name
use Rattle.rec_base.specs.Contents.{Contents, Given, Opens, IsInput}
use Rattle.dock_calls.specs.Asking.{HasReadFault}
use Rattle.dock_calls.specs.Places.{place_of, IsAfter}
use Rattle.dock_calls.proofs.Places.{IsInput-at, IsMarked-at, IsOpened-at, IsOpened-first, IsAfter-opened}
use Rattle.plan_model.specs.declared.plan.FeedLine.{FeedLine}
use Rattle.recording_model.specs.declared.stream.StreamDoc.{StreamDoc}
use Rattle.run_model.specs.declared.feed.FeedSource.{FeedSource}
use Rattle.record_call.specs.Feeds.{document_name, feed_input, feed_name, names_of, AreEach, IsStreamOf, IsNoDocument, IsNext, IsSourceOf, IsStreamRead, AreStreamsRead, AreMarksLeft, HasNoStreamHere, HasFailedHere, IsSourceOpened, AreSourcesOpened}
use Rattle.record_call.proofs.Lists.{take_next, parts_at}

names_more : {F : Type 0} (opens : F → List Name) (feeds : List F) (feed : F) → names_of opens (feeds ++ feed ∷ []) ≡ names_of opens feeds ++ opens feed
names_more opens [] feed = append-nil (opens feed)
names_more opens (x ∷ feeds) feed =
    ap (λ (t : List Name). opens x ++ t) (names_more opens feeds feed) ∙ sym (append_assoc (opens x) (names_of opens feeds) (opens feed))

-- the names behind those that were opened before
names_behind : {F : Type 0} (opens : F → List Name) (names : List Name) (feeds : List F) (feed : F) → (names ++ names_of opens feeds) ++ opens feed ≡ names ++ names_of opens (feeds ++ feed ∷ [])
names_behind opens names feeds feed =
    append_assoc names (names_of opens feeds) (opens feed) ∙ ap (λ (t : List Name). names ++ t) (sym (names_more opens feeds feed))

-- one feed more has its item
pub each_more : {F T : Type 0} (opens : F → List Name) (each : List Name → F → T → Type 0) (names : List Name) (feeds : List F) (xs : List T) (feed : F) (x : T)
    → AreEach opens each names feeds xs → each (names ++ names_of opens feeds) feed x → AreEach opens each names (feeds ++ feed ∷ []) (xs ++ x ∷ [])
each_more opens each names [] [] feed x all last =
    let P : List Name → Type 0 = λ ns. each ns feed x in (subst P (append-nil names) last, tt)
each_more opens each names [] (y ∷ xs) feed x all last = absurd all
each_more opens each names (f ∷ feeds) [] feed x all last = absurd all
each_more opens each names (f ∷ feeds) (y ∷ xs) feed x all last =
    let P : List Name → Type 0 = λ ns. each ns feed x in
    (all.0, each_more opens each (names ++ opens f) feeds xs feed x all.1 (subst P (sym (append_assoc names (opens f) (names_of opens feeds))) last))

pub each_length : {F T : Type 0} (opens : F → List Name) (each : List Name → F → T → Type 0) (names : List Name) (feeds : List F) (xs : List T) → AreEach opens each names feeds xs → length xs ≡ length feeds
each_length opens each names [] [] all = refl
each_length opens each names [] (y ∷ xs) all = absurd all
each_length opens each names (f ∷ feeds) [] all = absurd all
each_length opens each names (f ∷ feeds) (y ∷ xs) all = ap suc (each_length opens each (names ++ opens f) feeds xs all.1)

after_nil : (c d : Option Contents) (names : List Name) → IsAfter c d names → IsAfter c d (names ++ [])
after_nil c d names after = let P : List Name → Type 0 = λ ns. IsAfter c d ns in subst P (sym (append-nil names)) after

-- a read fault of a source, once these names were opened before it
pub fault_at : {S M I : Type 0} (left_of : S → Option (List ℕ)) (faults_of : S → ℕ) (mark_of : S → M) (input_mark_of : S → I) (c d : Option Contents) (mc md : Option (Given I)) (names : List Name) (file : Name)
    → IsAfter c d names → IsAfter mc md names → HasReadFault left_of faults_of mark_of input_mark_of d md file 0 → HasReadFault left_of faults_of mark_of input_mark_of c mc file (place_of names file)
fault_at left_of faults_of mark_of input_mark_of c d mc md names file after marked fault = record {
  first = fault.first;
  last = fault.last;
  source = IsOpened-at c d names file (left_of fault.first) after fault.source;
  marked = IsMarked-at mc md names file (input_mark_of fault.first) marked fault.marked;
  failed = fault.failed;
}

-- ---- header documents

pub streams_none : (c : Option Contents) → AreStreamsRead c c [] []
streams_none c = record { are = λ contents names after. record { each = tt }; left = λ contents names after. after_nil contents c names after }

pub first_input : (before now : Option Contents) (file : Name) (doc : List ℕ) → Opens before now file (Some doc) → IsInput before file 0 doc
first_input None now file doc opened = tt
first_input (Some f) None file doc opened = absurd opened
first_input (Some f) (Some g) file doc opened =
    let is : opened.0 ≡ doc = cc opened.1 in
    ap (λ (ts : List (List ℕ)). slice_get ts 0) opened.2.first ∙ ap (λ (t : List ℕ). Some t) is

stream_at : (contents before now : Option Contents) (names : List Name) (feed : FeedLine) (stream : StreamDoc) → IsAfter contents before names → IsStreamRead before now feed stream → IsStreamOf contents names feed stream
stream_at contents before now names feed stream after read = record {
  id = read.id;
  input = IsInput-at contents before names (name.File feed.doc) stream.doc after (first_input before now (name.File feed.doc) stream.doc read.opened);
  short = read.short;
  shape = read.shape;
}

pub streams_more : (a b d : Option Contents) (feeds : List FeedLine) (streams : List StreamDoc) (feed : FeedLine) (stream : StreamDoc) → AreStreamsRead a b feeds streams → IsStreamRead b d feed stream
    → AreStreamsRead a d (feeds ++ feed ∷ []) (streams ++ stream ∷ [])
streams_more a b d feeds streams feed stream so_far last = record {
  are = λ contents names after. record {
    each = each_more document_name (IsStreamOf contents) names feeds streams feed stream (so_far.are contents names after).each (stream_at contents b d _ feed stream (so_far.left contents names after) last);
  };
  left = λ contents names after.
      let P : List Name → Type 0 = λ ns. IsAfter contents d ns in
      subst P (names_behind document_name names feeds feed) (IsAfter-opened contents b d (names ++ names_of document_name feeds) (name.File feed.doc) _ (so_far.left contents names after) last.opened);
}

-- as a loop over places goes
pub streams_next : (a b d : Option Contents) (feeds : List FeedLine) (i : ℕ) (streams : List StreamDoc) (feed : FeedLine) (stream : StreamDoc) → Some feed ≡ slice_get feeds i → AreStreamsRead a b (take i feeds) streams
    → IsStreamRead b d feed stream → AreStreamsRead a d (take (i + 1) feeds) (streams ++ stream ∷ [])
streams_next a b d feeds i streams feed stream e so_far last =
    let P : List FeedLine → Type 0 = λ fs. AreStreamsRead a d fs (streams ++ stream ∷ []) in
    subst P (sym (take_next feeds i feed (sym e))) (streams_more a b d (take i feeds) streams feed stream so_far last)

module _ (a b contents : Option Contents) (names : List Name) (feeds : List FeedLine) (i : ℕ) (streams : List StreamDoc) (feed : FeedLine) (e : Some feed ≡ slice_get feeds i) (so_far : AreStreamsRead a b (take i feeds) streams) (after : IsAfter contents a names) where
  next_is : IsNext contents names feeds feed (names ++ names_of document_name (take i feeds))
  next_is = record {
    before = take i feeds;
    behind = drop (suc i) feeds;
    parts = parts_at feeds i feed (sym e);
    streams = streams;
    are = so_far.are contents names after;
    names_opened = refl;
  }

pub no_stream : (a b : Option Contents) (feeds : List FeedLine) (i : ℕ) (streams : List StreamDoc) (feed : FeedLine) (id : ℕ) → Some feed ≡ slice_get feeds i → AreStreamsRead a b (take i feeds) streams
    → (id ≡ feed.id) × (text : List ℕ) × IsInput b (name.File feed.doc) 0 text × IsNoDocument text → HasNoStreamHere a feeds id
no_stream a b feeds i streams feed id e so_far none = record {
  is = λ contents names after. record {
    feed = feed;
    opened = names ++ names_of document_name (take i feeds);
    next = next_is a b contents names feeds i streams feed e so_far after;
    same = none.0;
    text = none.1;
    input = IsInput-at contents b _ (name.File feed.doc) none.1 (so_far.left contents names after) none.2;
    none = none.3;
  };
}

pub failed_here : {S M I : Type 0} (left_of : S → Option (List ℕ)) (faults_of : S → ℕ) (mark_of : S → M) (input_mark_of : S → I) (a b : Option Contents) (ma mb : Option (Given I)) (feeds : List FeedLine) (i : ℕ) (streams : List StreamDoc) (feed : FeedLine)
    → Some feed ≡ slice_get feeds i → AreStreamsRead a b (take i feeds) streams → AreMarksLeft ma mb (names_of document_name (take i feeds))
    → HasReadFault left_of faults_of mark_of input_mark_of b mb (name.File feed.doc) 0 → HasFailedHere left_of faults_of mark_of input_mark_of a ma feeds
failed_here left_of faults_of mark_of input_mark_of a b ma mb feeds i streams feed e so_far marks_left fault = record {
  is = λ contents marks names after marked. record {
    feed = feed;
    opened = names ++ names_of document_name (take i feeds);
    next = next_is a b contents names feeds i streams feed e so_far after;
    failed = fault_at left_of faults_of mark_of input_mark_of contents b marks mb (names ++ names_of document_name (take i feeds)) (name.File feed.doc) (so_far.left contents names after) (marks_left.left marks names marked) fault;
  };
}

-- ---- feeds

zip_short : {A B : Type 0} (xs : List A) (ys : List B) → length (zip xs ys) ≤ length xs
zip_short [] ys = omega arith
zip_short (x ∷ xs) [] = omega arith
zip_short (x ∷ xs) (y ∷ ys) = let more = zip_short xs ys in omega (arith, more)

pub zip_long : {A B : Type 0} (xs : List A) (ys : List B) → length ys ≡ length xs → length (zip xs ys) ≡ length xs
zip_long [] ys e = refl
zip_long (x ∷ xs) [] e = absurd (omega (arith, e))
zip_long (x ∷ xs) (y ∷ ys) e = ap suc (zip_long xs ys (omega (arith, e)))

pub sources_none : {S : Type 0} (left_of : S → Option (List ℕ)) (c : Option Contents) → AreSourcesOpened left_of c c [] []
sources_none left_of c = record { are = λ contents names after. record { each = tt }; left = λ contents names after. after_nil contents c names after }

pub sources_more : {S : Type 0} (left_of : S → Option (List ℕ)) (a b d : Option Contents) (feeds : List (FeedLine × StreamDoc)) (sources : List (FeedSource S)) (feed : FeedLine × StreamDoc) (source : FeedSource S)
    → AreSourcesOpened left_of a b feeds sources → IsSourceOpened left_of b d feed source → AreSourcesOpened left_of a d (feeds ++ feed ∷ []) (sources ++ source ∷ [])
sources_more left_of a b d feeds sources feed source so_far last = record {
  are = λ contents names after. record {
    each = each_more feed_name (IsSourceOf left_of contents) names feeds sources feed source (so_far.are contents names after).each (record {
      opened = IsOpened-at contents b _ (feed_input feed) (left_of source.source) (so_far.left contents names after) (IsOpened-first b d (feed_input feed) (left_of source.source) last.opened);
      uid = last.uid;
      limit = last.limit;
    });
  };
  left = λ contents names after.
      let P : List Name → Type 0 = λ ns. IsAfter contents d ns in
      subst P (names_behind feed_name names feeds feed) (IsAfter-opened contents b d (names ++ names_of feed_name feeds) (feed_input feed) _ (so_far.left contents names after) last.opened);
}

-- a feed beside its stream
pub beside : (feeds : List FeedLine) (streams : List StreamDoc) (i : ℕ) (feed : FeedLine) (stream : StreamDoc) → slice_get feeds i ≡ Some feed → slice_get streams i ≡ Some stream → slice_get (zip feeds streams) i ≡ Some (feed, stream)
beside [] streams i feed stream e h = absurd cc
beside (f ∷ feeds) [] i feed stream e h = absurd cc
beside (f ∷ feeds) (s ∷ streams) zero feed stream e h = let same : f ≡ feed = cc e in let also : s ≡ stream = cc h in cc (same, also)
beside (f ∷ feeds) (s ∷ streams) (suc i) feed stream e h = beside feeds streams i feed stream e h

pub sources_next : {S : Type 0} (left_of : S → Option (List ℕ)) (a b d : Option Contents) (feeds : List FeedLine) (streams : List StreamDoc) (i : ℕ) (sources : List (FeedSource S)) (feed : FeedLine) (stream : StreamDoc) (source : FeedSource S)
    → Some feed ≡ slice_get feeds i → slice_get streams i ≡ Some stream → AreSourcesOpened left_of a b (take i (zip feeds streams)) sources → IsSourceOpened left_of b d (feed, stream) source
    → AreSourcesOpened left_of a d (take (i + 1) (zip feeds streams)) (sources ++ source ∷ [])
sources_next {S} left_of a b d feeds streams i sources feed stream source e h so_far last =
    let P : List (FeedLine × StreamDoc) → Type 0 = λ fs. AreSourcesOpened left_of a d fs (sources ++ source ∷ []) in
    let there = beside feeds streams i feed stream (sym e) h in
    subst P (sym (take_next (zip feeds streams) i (feed, stream) there)) (sources_more left_of a b d (take i (zip feeds streams)) sources (feed, stream) source so_far last)

-- the sources so far are all
pub sources_all : {S : Type 0} (left_of : S → Option (List ℕ)) (a d : Option Contents) (feeds : List FeedLine) (streams : List StreamDoc) (i : ℕ) (sources : List (FeedSource S)) → length streams ≡ length feeds → length feeds ≤ i
    → AreSourcesOpened left_of a d (take i (zip feeds streams)) sources → AreSourcesOpened left_of a d (zip feeds streams) sources
sources_all left_of a d feeds streams i sources count le so_far =
    let P : List (FeedLine × StreamDoc) → Type 0 = λ fs. AreSourcesOpened left_of a d fs sources in
    let long : length (zip feeds streams) ≤ length feeds = zip_short feeds streams in
    subst P (take_all i (zip feeds streams) (omega (arith, long, le))) so_far
