-- Before anything is read.
use Rattle.std.proofs.Common.{◌≡◌, ◌≤◌, ℕ, inl, inr, zero, suc, List, [], ◌∷◌, ◌++◌, length, map, slice_get, Option, Some, None, refl, sym, ap, ◌∙◌, subst, arith}
use Rattle.std.proofs.lemmas.Option.{slice_get_within}
use Rattle.std.proofs.lemmas.List.{length-map}
use Rattle.xdf_model.specs.declared.types.Shape.{Shape}
use Rattle.xdf_model.specs.Sample.{Sample, size_of}
use Rattle.ring_model.specs.declared.entry.Entry.{Entry as RingEntry}
use Rattle.recording_model.specs.declared.stream.StreamDoc.{StreamDoc}
use Rattle.loss_model.specs.Loss.{behind_last}
use Rattle.record_writer.specs.declared.place.Place.{Place}
use Rattle.record_writer.specs.Desk.{DeskState, next_in, next_at, new_place}
use Rattle.record_writer.specs.Standing.{StandsFor}
use Rattle.run_model.specs.declared.feed.FeedSource.{FeedSource}
use Rattle.run_model.specs.Fitting.{AreNumbers}
use Rattle.run_model.specs.Rings.{ring_entry}
use Rattle.run_model.proofs.Lists.{item_at, map_at, push_cases}
use Rattle.feed_lane.specs.Lanes.{Lane}
use Rattle.thread_run.specs.declared.work.Work.{Work}
use Rattle.thread_run.specs.declared.lane.CountedHead.{CountedHead}
use Rattle.thread_run.specs.Work.{IsFresh}
use Rattle.thread_run.specs.Rounds.{AreDrawn, AreOfNumbers, Given, IsDrawn, given_by}
use Rattle.thread_run.specs.Opening.{IsNewLane, ThreadsView, AreThreadsFor}
use Rattle.thread_run.proofs.Going.{at_map}

next_new : (streams : List StreamDoc) (p : ℕ) → next_in (slice_get (map new_place streams) p) ≡ 0
next_new [] p = refl
next_new (s ∷ streams) zero = refl
next_new (s ∷ streams) (suc p) = next_new streams p

shape_new : (streams : List StreamDoc) (p : ℕ) (s : StreamDoc) → slice_get streams p ≡ Some s → slice_get (map (λ (x : Place). x.shape) (map new_place streams)) p ≡ Some s.shape
shape_new streams p s e = map_at (λ (x : Place). x.shape) (map new_place streams) p (new_place s) (map_at new_place streams p s e)

module _ {S : Type 0} (ring batch : ℕ) (streams : List StreamDoc) (feeds : List (FeedSource S)) (desk : DeskState) (v : ThreadsView S) (k : AreThreadsFor ring batch streams feeds desk v) where
  pub fresh_at : (p : ℕ) (w : Work S) → slice_get v.works p ≡ Some w → IsFresh w
  fresh_at p w e =
      let low = slice_get_within v.works p w e in
      let s = item_at streams p (omega (arith, low, k.work_count)) in
      let d = item_at feeds p (omega (arith, low, k.work_count, k.feed_count)) in
      let h = item_at v.heads p (omega (arith, low, k.work_count, k.head_count)) in
      let n = k.each p s.0 d.0 w h.0 s.1 d.1 e h.1 in
      record {
        goes = n.goes;
        received = n.received;
        counted = omega (arith, n.counted);
        none = n.puts;
        shape = n.shape ∙ sym n.reader_shape;
        unseen = (k.halt.each p w e).1;
      }

  pub lanes_meet : (p : ℕ) (w : Work S) (h : CountedHead) → slice_get v.works p ≡ Some w → slice_get v.heads p ≡ Some h → w.tail.lane ≡ h.head.lane
  lanes_meet p w h e f =
      let low = slice_get_within v.works p w e in
      let s = item_at streams p (omega (arith, low, k.work_count)) in
      let d = item_at feeds p (omega (arith, low, k.work_count, k.feed_count)) in
      sym (k.each p s.0 d.0 w h s.1 d.1 e f).lane

  -- what is known of a head
  head_at : (p : ℕ) (h : CountedHead) → slice_get v.heads p ≡ Some h → (s : StreamDoc) × (slice_get streams p ≡ Some s) × (h.head.lane.shape ≡ s.shape) × (h.head.taken ≡ []) × (h.kept ≡ 0)
  head_at p h f =
      let low = slice_get_within v.heads p h f in
      let s = item_at streams p (omega (arith, low, k.head_count)) in
      let d = item_at feeds p (omega (arith, low, k.head_count, k.feed_count)) in
      let w = item_at v.works p (omega (arith, low, k.head_count, k.work_count)) in
      let n = k.each p s.0 d.0 w.0 h s.1 d.1 w.1 f in
      (s.0, s.1, ap (λ (l : Lane). l.shape) n.lane ∙ n.shape, n.taken, n.kept)

  pub numbers_of : AreNumbers streams → AreOfNumbers (map given_by v.heads)
  numbers_of numbers p lane f =
      let h = at_map given_by v.heads p lane f in
      let a = head_at p h.0 h.1 in
      subst (λ (x : Given). 1 ≤ size_of x.shape.format) h.2 (subst (λ (x : Shape). 1 ≤ size_of x.format) (sym a.2) (numbers p a.0 a.1))

  drawn_at : (p : ℕ) (h : CountedHead) → slice_get v.heads p ≡ Some h → IsDrawn desk [] p (given_by h)
  drawn_at p h f =
      let a = head_at p h f in
      let none : next_at desk p ≡ 0 = ap (λ (places : List Place). next_in (slice_get places p)) k.places ∙ next_new streams p in
      record {
        taken = ap (map ring_entry) a.3;
        next = none ∙ sym (ap (λ (l : List (RingEntry Sample)). behind_last (map ring_entry l)) a.3);
        shape = ap (λ (places : List Place). slice_get (map (λ (x : Place). x.shape) places) p) k.places ∙ shape_new streams p a.0 a.1 ∙ ap Some (sym a.2);
        counted = let none_taken = ap length a.3 in omega (arith, a.4, none_taken);
      }

  -- the headers were written
  pub opened_drawn : (base held : Option (List ℕ)) → StandsFor streams base held desk [] None → AreDrawn batch streams base held desk [] (map given_by v.heads)
  opened_drawn base held st = record {
    written = st;
    short = tt;
    count = let long = ap length k.places in omega (arith, k.head_count, long, length-map streams new_place, length-map v.heads given_by);
    closed = k.ready.count;
    whole = k.ready.whole;
    each = λ p lane f. let h = at_map given_by v.heads p lane f in subst (λ (x : Given). IsDrawn desk [] p x) h.2 (drawn_at p h.0 h.1);
  }

-- ---- opening

-- one more feed was made ready
pub opened_next : {S : Type 0} (ring n : ℕ) (streams : List StreamDoc) (feeds : List (FeedSource S)) (ws : List (Work S)) (hs : List CountedHead) (s : StreamDoc) (d : FeedSource S) (w : Work S) (h : CountedHead)
    → length ws ≡ n → length hs ≡ n
    → ((p : ℕ) (t : StreamDoc) (f : FeedSource S) (y : Work S) (z : CountedHead) → slice_get streams p ≡ Some t → slice_get feeds p ≡ Some f → slice_get ws p ≡ Some y → slice_get hs p ≡ Some z → IsNewLane ring t f y z)
    → slice_get streams n ≡ Some s → slice_get feeds n ≡ Some d → IsNewLane ring s d w h
    → (p : ℕ) (t : StreamDoc) (f : FeedSource S) (y : Work S) (z : CountedHead) → slice_get streams p ≡ Some t → slice_get feeds p ≡ Some f → slice_get (ws ++ w ∷ []) p ≡ Some y → slice_get (hs ++ h ∷ []) p ≡ Some z
    → IsNewLane ring t f y z
opened_next {S = S} ring n streams feeds ws hs s d w h work_count head_count each at there new p t f y z et ef ey ez = elim (push_cases ws w y p ey) [
  | inl m ↦ elim (push_cases hs h z p ez) [ inl k ↦ each p t f y z et ef m.1 k.1 | inr k ↦ let low = m.0 in absurd (omega (arith, low, k.0, work_count, head_count)) ]
  | inr m ↦ elim (push_cases hs h z p ez) [
    | inl k ↦ let low = k.0 in absurd (omega (arith, low, m.0, work_count, head_count))
    | inr k ↦
        let is : p ≡ n = m.0 ∙ work_count in
        let same : s ≡ t = cc (at, et, is) in
        let same_f : d ≡ f = cc (there, ef, is) in
        subst (λ (x : StreamDoc). IsNewLane ring x f y z) same (subst (λ (x : FeedSource S). IsNewLane ring s x y z) same_f
        (subst (λ (x : Work S). IsNewLane ring s d x z) m.1 (subst (λ (x : CountedHead). IsNewLane ring s d w x) k.1 new)))
  ]
]

-- a fact of each of a list, and of one more
pub each_more : {A : Type 0} (P : A → Type 0) (xs : List A) (x : A) → ((p : ℕ) (y : A) → slice_get xs p ≡ Some y → P y) → P x → (p : ℕ) (y : A) → slice_get (xs ++ x ∷ []) p ≡ Some y → P y
each_more {A = A} P xs x each here p y e = elim (push_cases xs x y p e) [ inl k ↦ each p y k.1 | inr k ↦ subst P k.1 here ]
