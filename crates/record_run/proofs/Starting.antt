-- Before the first turn, and what holds between two turns.
use Rattle.std.proofs.Common.{◌≡◌, inl, inr, ℕ, zero, suc, ◌+◌, ◌*◌, ◌≤◌, List, [], ◌∷◌, ◌++◌, length, map, slice_get, Option, Some, None, false, refl, sym, ap, ◌∙◌, subst, arith}
use Rattle.std.proofs.lemmas.Option.{slice_get_within}
use Rattle.std.proofs.Math.Nat.{mul-le-mul_left}
use Rattle.reading_model.specs.Outlook.{How}
use Rattle.piece_reader.proofs.Ending.{begun_fresh}
use Rattle.xdf_model.specs.declared.types.Shape.{Shape}
use Rattle.xdf_model.specs.Sample.{Sample, size_of}
use Rattle.feed_samples.specs.Inlet.{outlook}
use Rattle.ring_model.specs.Ring.{new_ring}
use Rattle.recording_model.specs.declared.stream.StreamDoc.{StreamDoc}
use Rattle.record_writer.specs.declared.place.Place.{Place}
use Rattle.record_writer.specs.Desk.{DeskState, next_in, next_at, new_place}
use Rattle.record_writer.specs.Standing.{StandsFor, IsReady}
use Rattle.run_model.specs.declared.feed.FeedSource.{FeedSource}
use Rattle.run_model.specs.Run.{byte_limit, feed_of}
use Rattle.thread_run.specs.declared.work.Work.{Work}
use Rattle.thread_run.specs.declared.lane.CountedHead.{CountedHead}
use Rattle.thread_run.specs.Opening.{ThreadsView, IsNewLane, IsNewHalt, AreThreadsFor}
use Rattle.record_run.specs.Inlets.{InletView, HasGiven, AreNumeric}
use Rattle.run_model.specs.Fitting.{AreNumbers}
use Rattle.record_run.specs.Opening.{TurnsView, IsNewInlet, AreTurnsFor}
use Rattle.record_run.specs.Turning.{IsTurned, AreTurned}
use Rattle.run_model.proofs.Lists.{item_at, push_cases}

next_new : (streams : List StreamDoc) (p : ℕ) → next_in (slice_get (map new_place streams) p) ≡ 0
next_new [] p = refl
next_new (s ∷ streams) zero = refl
next_new (s ∷ streams) (suc p) = next_new streams p

shapes_new : (streams : List StreamDoc) → map (λ (x : Place). x.shape) (map new_place streams) ≡ map (λ (s : StreamDoc). s.shape) streams
shapes_new [] = refl
shapes_new (s ∷ streams) = ap (λ (l : List Shape). s.shape ∷ l) (shapes_new streams)

abbrev nothing : List StreamDoc → List (List Sample)
nothing streams = map (λ (s : StreamDoc). []) streams

nothing_count : (streams : List StreamDoc) → length (nothing streams) ≡ length streams
nothing_count [] = refl
nothing_count (s ∷ streams) = ap suc (nothing_count streams)

nothing_at : (streams : List StreamDoc) (p : ℕ) (l : List Sample) → slice_get (nothing streams) p ≡ Some l → l ≡ []
nothing_at [] p l e = absurd cc
nothing_at (s ∷ streams) zero l e = sym (cc e)
nothing_at (s ∷ streams) (suc p) l e = nothing_at streams p l e

module _ {S M : Type 0} (left_of : S → Option (List ℕ)) (faults_of : S → ℕ) (mark_of : S → M) where
  given_none : (stream : StreamDoc) (feed : FeedSource S) (x : InletView S) (e : Option _) → e ≡ None → x.source ≡ feed.source → ((more : List ℕ) (how : How) → (outlook x.inlet).coming more how ≡ feed_of stream feed more how)
      → (outlook x.inlet).is_over ≡ false → HasGiven left_of faults_of (feed_of stream feed) feed.source x [] e
  given_none stream feed x None none source all goes = (rw source (begun_fresh (feed_of stream feed) (outlook x.inlet) (left_of feed.source) all goes), ap faults_of source)
  given_none stream feed x (Some e) none source all goes = absurd cc

  new_turned : (ring batch : ℕ) (stream : StreamDoc) (feed : FeedSource S) (x : InletView S) → IsNewInlet ring stream feed x → IsTurned left_of faults_of mark_of ring batch 0 stream feed [] x
  new_turned ring batch stream feed x k = record {
    given = given_none stream feed x x.end k.end k.source k.all k.goes;
    marked = ap mark_of k.source;
    id = k.id;
    shape = k.shape;
    capacity = k.capacity;
    queue = k.queue;
    pushes = k.pushes;
    bounded = omega arith;
    few = omega (arith, k.drops);
    aligned = λ none. omega arith;
    short = omega arith;
    state = new_ring;
    stands = k.stands;
    puts = refl;
    taken = refl;
    drops = sym k.drops;
    behind = refl;
  }

  -- the headers were written, and nothing was read
  pub opened_turned : (ring batch : ℕ) (streams : List StreamDoc) (feeds : List (FeedSource S)) (r : TurnsView S) (base held : Option (List ℕ)) → AreTurnsFor ring batch streams feeds r
      → StandsFor streams base held r.desk [] None → (lists : List (List Sample)) × AreTurned left_of faults_of mark_of ring batch 0 streams feeds base held r.desk lists r.inlets
  opened_turned ring batch streams feeds r base held k stands = (
    nothing streams,
    record {
      feed_count = k.feed_count;
      list_count = nothing_count streams;
      inlet_count = k.inlet_count;
      written = stands;
      next = λ p x e. let none : next_at r.desk p ≡ 0 = ap (λ (places : List Place). next_in (slice_get places p)) k.places ∙ next_new streams p in omega (arith, none);
      shapes = ap (map (λ (x : Place). x.shape)) k.places ∙ shapes_new streams;
      each = λ p s d l x es ed el ex.
          subst (λ (t : List Sample). IsTurned left_of faults_of mark_of ring batch 0 s d t x) (sym (nothing_at streams p l el)) (new_turned ring batch s d x (k.each p s d x es ed ex));
    },
  )

  module _ (ring batch turns : ℕ) (streams : List StreamDoc) (feeds : List (FeedSource S)) (base held : Option (List ℕ)) (desk : DeskState) (lists : List (List Sample)) (xs : List (InletView S))
      (k : AreTurned left_of faults_of mark_of ring batch turns streams feeds base held desk lists xs) where
    pub turned_at : (p : ℕ) (x : InletView S) → slice_get xs p ≡ Some x → (s : StreamDoc) × (d : FeedSource S) × (l : List Sample) × (slice_get streams p ≡ Some s) × (slice_get feeds p ≡ Some d)
        × (slice_get lists p ≡ Some l) × IsTurned left_of faults_of mark_of ring batch turns s d l x
    turned_at p x e =
        let within = slice_get_within xs p x e in
        let s = item_at streams p (omega (arith, within, k.inlet_count)) in
        let d = item_at feeds p (omega (arith, within, k.inlet_count, k.feed_count)) in
        let l = item_at lists p (omega (arith, within, k.inlet_count, k.list_count)) in
        (s.0, d.0, l.0, s.1, d.1, l.1, k.each p s.0 d.0 l.0 x s.1 d.1 l.1 e)

    pub queues_empty : (p : ℕ) (x : InletView S) → slice_get xs p ≡ Some x → x.ring.queue ≡ []
    queues_empty p x e = (turned_at p x e).6.queue

    pub numeric_turned : AreNumbers streams → AreNumeric xs
    numeric_turned numbers p x e =
        let t = turned_at p x e in
        subst (λ (shape : Shape). 1 ≤ size_of shape.format) (sym t.6.shape) (numbers p t.0 t.3)

    -- no feed goes on for so many turns
    pub not_endless : (p : ℕ) (x : InletView S) → slice_get xs p ≡ Some x → x.end ≡ None → 1 ≤ batch → byte_limit + 1 ≤ turns → ⊥
    not_endless p x e none some many =
        let t = (turned_at p x e).6 in
        let up : turns * 1 ≤ turns * batch = mul-le-mul_left turns some in
        omega (arith, up, many, t.aligned none, t.bounded)

-- ---- opening

pub opened_next : {S : Type 0} (ring n : ℕ) (streams : List StreamDoc) (feeds : List (FeedSource S)) (xs : List (InletView S)) (s : StreamDoc) (d : FeedSource S) (x : InletView S) → length xs ≡ n
    → ((p : ℕ) (t : StreamDoc) (f : FeedSource S) (y : InletView S) → slice_get streams p ≡ Some t → slice_get feeds p ≡ Some f → slice_get xs p ≡ Some y → IsNewInlet ring t f y)
    → slice_get streams n ≡ Some s → slice_get feeds n ≡ Some d → IsNewInlet ring s d x
    → (p : ℕ) (t : StreamDoc) (f : FeedSource S) (y : InletView S) → slice_get streams p ≡ Some t → slice_get feeds p ≡ Some f → slice_get (xs ++ x ∷ []) p ≡ Some y → IsNewInlet ring t f y
opened_next {S = S} ring n streams feeds xs s d x count each at there new p t f y et ef ey = elim (push_cases xs x y p ey) [
  | inl m ↦ each p t f y et ef m.1
  | inr m ↦ let is : p ≡ n = m.0 ∙ count in
      let same : s ≡ t = cc (at, et, is) in
      let same_f : d ≡ f = cc (there, ef, is) in
      subst (λ (v : StreamDoc). IsNewInlet ring v f y) same (subst (λ (v : FeedSource S). IsNewInlet ring s v y) same_f (subst (λ (v : InletView S). IsNewInlet ring s d v) m.1 new))
]

-- a recorder of new inlets, made over the streams as slices
pub open_for : {S : Type 0} (ring batch : ℕ) (streams : List StreamDoc) (feeds : List (FeedSource S)) (xs : List (InletView S)) (desk : DeskState) (first second : List StreamDoc)
    → first ≡ streams → second ≡ streams → 1 ≤ ring → 1 ≤ batch → IsReady first desk → desk.places ≡ map new_place first → length feeds ≡ length streams → length xs ≡ length second
    → ((p : ℕ) (s : StreamDoc) (d : FeedSource S) (x : InletView S) → slice_get second p ≡ Some s → slice_get feeds p ≡ Some d → slice_get xs p ≡ Some x → IsNewInlet ring s d x)
    → AreTurnsFor ring batch streams feeds (record { inlets = xs; desk = desk; batch = batch })
open_for ring batch streams feeds xs desk first second a b low some ready places feed_count count each = record {
  low = low;
  some = some;
  same_batch = refl;
  ready = subst (λ (l : List StreamDoc). IsReady l desk) a ready;
  places = places ∙ ap (map new_place) a;
  feed_count = feed_count;
  inlet_count = count ∙ ap length b;
  each = λ p s d x es ed ex. each p s d x (ap (λ (l : List StreamDoc). slice_get l p) b ∙ es) ed ex;
}

-- so for feeds by threads
pub threads_for : {S : Type 0} (ring batch : ℕ) (streams : List StreamDoc) (feeds : List (FeedSource S)) (v : ThreadsView S) (desk : DeskState) (first second : List StreamDoc)
    → first ≡ streams → second ≡ streams → 1 ≤ ring → 1 ≤ batch → IsReady first desk → desk.places ≡ map new_place first → length feeds ≡ length streams
    → (length v.works ≡ length second) × (length v.heads ≡ length second)
    → ((p : ℕ) (s : StreamDoc) (d : FeedSource S) (w : Work S) (h : CountedHead) → slice_get second p ≡ Some s → slice_get feeds p ≡ Some d → slice_get v.works p ≡ Some w → slice_get v.heads p ≡ Some h → IsNewLane ring s d w h)
    → IsNewHalt v.works v.raiser v.lookers → AreThreadsFor ring batch streams feeds desk v
threads_for ring batch streams feeds v desk first second a b low some ready places feed_count counts each halt = record {
  low = low;
  some = some;
  ready = subst (λ (l : List StreamDoc). IsReady l desk) a ready;
  places = places ∙ ap (map new_place) a;
  feed_count = feed_count;
  work_count = counts.0 ∙ ap length b;
  head_count = counts.1 ∙ ap length b;
  each = λ p s d w h es ed ew eh. each p s d w h (ap (λ (l : List StreamDoc). slice_get l p) b ∙ es) ed ew eh;
  halt = halt;
}
