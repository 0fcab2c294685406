-- Feeds whose inlets have ended, as their lanes are emptied one after the other.
use Rattle.std.proofs.Common.{◌≡◌, inl, inr, ℕ, zero, suc, true, ◌<◌, false, List, [], ◌∷◌, ◌++◌, length, map, take, drop, Result, Ok, Err, slice_get, slice_set, slice_index_or, Option, Some, refl, sym, ap, ◌∙◌, subst, arith, length-drop}
use Rattle.std.proofs.lemmas.List.{append-nil, take_all}
use Rattle.std.specs.Prelude.{IfOk}
use Rattle.std.proofs.lemmas.Option.{slice_get_read, slice_get_within}
use Rattle.xdf_model.specs.declared.types.Shape.{Shape}
use Rattle.xdf_model.specs.Sample.{Sample}
use Rattle.ring_model.specs.declared.entry.Entry.{Entry as RingEntry}
use Rattle.recording_model.specs.declared.stream.StreamDoc.{StreamDoc}
use Rattle.recording_model.specs.Batch.{Batch}
use Rattle.loss_model.specs.Loss.{entries_at, AreOf}
use Rattle.loss_laws.proofs.Rings.{all_put}
use Rattle.record_writer.specs.Desk.{DeskState}
use Rattle.run_model.specs.Putting.{AreFirst}
use Rattle.run_model.proofs.Cuts.{of_first}
use Rattle.run_model.specs.Rings.{ring_entry}
use Rattle.run_model.proofs.Fed.{are_of_taken}
use Rattle.run_model.proofs.Lists.{item_at, map_at, push_cases, set_cases, front_at}
use Rattle.halt_word.specs.Ends.{NoneSaw}
use Rattle.thread_ring.specs.Ends.{AreFew}
use Rattle.thread_run.specs.declared.lane.CountedHead.{CountedHead}
use Rattle.thread_run.specs.declared.work.Work.{Work}
use Rattle.thread_run.specs.declared.work.Worked.{Worked}
use Rattle.thread_run.specs.declared.settle.Joined.{Joined}
use Rattle.thread_run.specs.Concluded.{HaveCut, NoneHalted}
use Rattle.thread_run.specs.Rounds.{AreDrawn, Given, IsCutOf, given_by}
use Rattle.thread_run.specs.Settled.{AreReached, AreSettled, AreWorked, IsJoined, IsSameFeed, given_in}

-- ---- one feed whose lane was written of

pub feed_more : {S : Type 0} (a b c : Joined S) → IsSameFeed a b → IsSameFeed b c → IsSameFeed a c
feed_more a b c x y = record {
  id = y.id ∙ x.id;
  reader = y.reader ∙ x.reader;
  done = y.done ∙ x.done;
  lane = record { capacity = y.lane.capacity ∙ x.lane.capacity; shape = y.lane.shape ∙ x.lane.shape; puts = y.lane.puts ∙ x.lane.puts };
  reached = y.reached;
}

-- none was written of yet
pub feed_same : {S : Type 0} (xs : List (Joined S)) → AreReached xs → (p : ℕ) (b a : Joined S) → slice_get xs p ≡ Some b → slice_get xs p ≡ Some a → IsSameFeed b a × (a.lane.last.state.dropped ≡ b.lane.last.state.dropped)
feed_same {S = S} xs reached p b a eb ea =
    let same : b ≡ a = cc (eb, ea) in
    subst (λ (x : Joined S). IsSameFeed b x × (x.lane.last.state.dropped ≡ b.lane.last.state.dropped)) same (
      record { id = refl; reader = refl; done = refl; lane = record { capacity = refl; shape = refl; puts = refl }; reached = reached p b eb },
      refl,
    )

-- ---- the joins

-- one more of three lists
pub triples_more : {A B C : Type 0} (F : A → B → C → Type 0) (xs : List A) (ys : List B) (zs : List C) (n : ℕ) (x : A) (y : B) (z : C) → length zs ≡ n → slice_get xs n ≡ Some x → slice_get ys n ≡ Some y → F x y z
    → ((p : ℕ) (a : A) (b : B) (c : C) → slice_get xs p ≡ Some a → slice_get ys p ≡ Some b → slice_get zs p ≡ Some c → F a b c)
    → (p : ℕ) (a : A) (b : B) (c : C) → slice_get xs p ≡ Some a → slice_get ys p ≡ Some b → slice_get (zs ++ z ∷ []) p ≡ Some c → F a b c
triples_more {A = A} {B = B} {C = C} F xs ys zs n x y z count at there f each p a b c ea eb ec = elim (push_cases zs z c p ec) [
  | inl m ↦ each p a b c ea eb m.1
  | inr m ↦
      let here : p ≡ n = m.0 ∙ count in
      let same : x ≡ a = cc (at, ea, here) in
      let same_b : y ≡ b = cc (there, eb, here) in
      subst (λ (w : C). F a b w) m.1 (subst (λ (w : B). F a w z) same_b (subst (λ (w : A). F w y z) same f))
]

-- two lists that have the same at each place
pub lists_same : {A B C : Type 0} (f : A → C) (g : B → C) (xs : List A) (ys : List B) → length xs ≡ length ys → ((p : ℕ) (x : A) (y : B) → slice_get xs p ≡ Some x → slice_get ys p ≡ Some y → f x ≡ g y) → map f xs ≡ map g ys
lists_same f g [] [] long each = refl
lists_same f g [] (y ∷ ys) long each = absurd (omega (arith, long))
lists_same f g (x ∷ xs) [] long each = absurd (omega (arith, long))
lists_same {C = C} f g (x ∷ xs) (y ∷ ys) long each =
    ap (λ (c : C). c ∷ map f xs) (each 0 x y refl refl) ∙ ap (λ (l : List C). g y ∷ l) (lists_same f g xs ys (omega (arith, long)) (λ p a b ea eb. each (suc p) a b ea eb))

abbrev given : Shape → List (RingEntry Sample) → ℕ → Given
given x t n = record { shape = x; taken = t; kept = n }

given_same : {S : Type 0} (w : Worked S) (h : CountedHead) (s : Joined S) → IsJoined w h s → given_in s ≡ given_by h
given_same w h s k =
    ap (λ (x : Shape). given x s.lane.last.state.taken s.lane.kept) k.shape ∙ ap (λ (t : List (RingEntry Sample)). given h.head.lane.shape t s.lane.kept) k.taken ∙ ap (λ (n : ℕ). given h.head.lane.shape h.head.taken n) k.kept

-- the joins by the heads as they stand in another list
pub meet : {S : Type 0} (worked : List (Worked S)) (heads now : List CountedHead) (all : List (Joined S)) → heads ≡ now
    → ((p : ℕ) (w : Worked S) (h : CountedHead) (s : Joined S) → slice_get worked p ≡ Some w → slice_get heads p ≡ Some h → slice_get all p ≡ Some s → IsJoined w h s)
    → (p : ℕ) (w : Worked S) (h : CountedHead) (s : Joined S) → slice_get worked p ≡ Some w → slice_get now p ≡ Some h → slice_get all p ≡ Some s → IsJoined w h s
meet worked heads now all back each p w h s ew eh es = each p w h s ew (ap (λ (l : List CountedHead). slice_get l p) back ∙ eh) es

module _ {S M : Type 0} (left_of : S → Option (List ℕ)) (faults_of : S → ℕ) (mark_of : S → M) (works : List (Work S)) (worked : List (Worked S)) (heads : List CountedHead) (all : List (Joined S))
    (are : AreWorked left_of faults_of mark_of works worked) (count : length all ≡ length worked) (same : length worked ≡ length heads)
    (each : (p : ℕ) (w : Worked S) (h : CountedHead) (s : Joined S) → slice_get worked p ≡ Some w → slice_get heads p ≡ Some h → slice_get all p ≡ Some s → IsJoined w h s) where
  -- of each lane both ends have what the one had
  pub given_all : map given_in all ≡ map given_by heads
  given_all = lists_same given_in given_by all heads (count ∙ same) (λ p s h es eh.
      let w = item_at worked p (omega (arith, slice_get_within all p s es, count)) in
      given_same w.0 h s (each p w.0 h s w.1 eh es))

  pub joined_at : (p : ℕ) (s : Joined S) → slice_get all p ≡ Some s → (w : Worked S) × (h : CountedHead) × (slice_get worked p ≡ Some w) × (slice_get heads p ≡ Some h) × IsJoined w h s
  joined_at p s es =
      let w = item_at worked p (omega (arith, slice_get_within all p s es, count)) in
      let h = item_at heads p (omega (arith, slice_get_within all p s es, count, same)) in
      (w.0, h.0, w.1, h.1, each p w.0 h.0 s w.1 h.1 es)

  pub all_reached : AreReached all
  all_reached p s es = (joined_at p s es).4.reached

  none_saw : (ws : List (Worked S)) → NoneSaw (map (λ (w : Worked S). w.looker) ws) → (p : ℕ) (w : Worked S) → slice_get ws p ≡ Some w → w.looker.saw ≡ false
  none_saw [] unseen p w e = absurd cc
  none_saw (x ∷ ws) unseen zero w e = let is : x ≡ w = cc e in subst (λ (y : Worked S). y.looker.saw ≡ false) is unseen.0
  none_saw (x ∷ ws) unseen (suc p) w e = none_saw ws unseen.1 p w e

  -- no inlet was stopped, where none saw the word raised
  pub none_halted : NoneSaw (map (λ (w : Worked S). w.looker) worked) → NoneHalted all
  none_halted unseen p s es is =
      let j = joined_at p s es in
      let v = item_at works p (omega (arith, slice_get_within all p s es, count, are.count)) in
      let saw = (are.each p v.0 j.0 v.1 j.2).halted (sym j.4.done ∙ is) in
      let down = none_saw worked unseen p j.0 j.2 in
      absurd (let wrong : true ≡ false = sym saw ∙ down in cc)

  module _ (now : List (Joined S)) (long : length now ≡ length all) (stays : (p : ℕ) (before after : Joined S) → slice_get all p ≡ Some before → slice_get now p ≡ Some after → IsSameFeed before after) where
    now_at : (p : ℕ) (s : Joined S) → slice_get now p ≡ Some s → (b : Joined S) × (slice_get all p ≡ Some b) × IsSameFeed b s
    now_at p s es = let b = item_at all p (omega (arith, slice_get_within now p s es, long)) in (b.0, b.1, stays p b.0 s b.1 es)

    -- what was written of the lanes, where none failed
    pub settled_all : (batch : ℕ) (streams : List StreamDoc) (base held : Option (List ℕ)) (desk : DeskState) (batches : List Batch) → AreDrawn batch streams base held desk batches (map given_in now)
        → ((p : ℕ) (before after : Joined S) → slice_get all p ≡ Some before → slice_get now p ≡ Some after → (after.lane.last.state.queue ≡ []) × (after.lane.last.state.dropped ≡ before.lane.last.state.dropped))
        → AreSettled batch streams base held desk batches worked now
    settled_all batch streams base held desk batches k empty = record {
      written = k.written;
      short = k.short;
      closed = k.closed;
      whole = k.whole;
      count = long ∙ count;
      each = λ p w s ew es.
          let b = now_at p s es in
          let h = item_at heads p (omega (arith, slice_get_within worked p w ew, same)) in
          let j = each p w h.0 b.0 ew h.1 b.1 in
          let e = empty p b.0 s b.1 es in
          let d = k.each p (given_in s) (map_at given_in now p s es) in
          let puts : s.lane.last.state.puts ≡ b.0.lane.last.state.puts = b.2.lane.puts in
          let P : ℕ → Type 0 = λ c. AreFew c s.lane.last.state.puts s.lane.last.state.dropped in
          let Q : List Sample → Type 0 = λ l. AreFew b.0.lane.last.capacity l s.lane.last.state.dropped in
          let R : List (RingEntry Sample) → Type 0 = λ l. AreFew b.0.lane.last.capacity b.0.lane.last.state.puts l in (
            record {
              id = b.2.id ∙ j.id;
              reader = b.2.reader ∙ j.reader;
              done = b.2.done ∙ j.done;
              capacity = b.2.lane.capacity ∙ j.capacity;
              puts = puts ∙ j.puts;
              reached = b.2.reached;
              empty = e.0;
              few = subst P (sym b.2.lane.capacity) (subst Q (sym puts) (subst R (sym e.1) j.few));
              counted = d.counted;
            },
            d.taken,
          );
    }

    -- entries that come first of those that were taken of each lane are of what its inlet had put
    firsts_of : (some : List Batch) → ((p : ℕ) (lane : Given) → slice_get (map given_in now) p ≡ Some lane → AreFirst (entries_at p some) (map ring_entry lane.taken))
        → (p : ℕ) (w : Worked S) → slice_get worked p ≡ Some w → AreOf w.tail.puts (entries_at p some)
    firsts_of some first p w ew =
        let s = item_at now p (omega (arith, slice_get_within worked p w ew, count, long)) in
        let b = now_at p s.0 s.1 in
        let h = item_at heads p (omega (arith, slice_get_within worked p w ew, same)) in
        let j = each p w h.0 b.0 ew h.1 b.1 in
        let state = s.0.lane.last.state in
        let puts : state.puts ≡ w.tail.puts = b.2.lane.puts ∙ j.puts in
        let f = first p (given_in s.0) (map_at given_in now p s.0 s.1) in
        let all_of : AreOf state.puts (map ring_entry state.taken) = are_of_taken state.puts state.taken (all_put s.0.lane.last.capacity state b.2.reached).0 in
        subst (λ (l : List Sample). AreOf l (entries_at p some)) puts (of_first state.puts (entries_at p some) f.0 (subst (AreOf state.puts) f.1 all_of))

    pub going_on : NoneHalted all → NoneHalted now
    going_on none p s es is = let b = now_at p s es in none p b.0 b.1 (sym b.2.done ∙ is)

    -- the writer failed at what was left
    pub cut_behind : (streams : List StreamDoc) (base held : Option (List ℕ)) → IsCutOf streams base held (map given_in now) → HaveCut left_of faults_of mark_of streams base held works
    cut_behind streams base held k = record { some = k.some; cut = k.cut; worked = worked; are_worked = are; each = firsts_of k.some k.each }

  -- or before the joins
  pub cut_before : (streams : List StreamDoc) (base held : Option (List ℕ)) → IsCutOf streams base held (map given_by heads) → HaveCut left_of faults_of mark_of streams base held works
  cut_before streams base held k =
      cut_behind all refl (λ p b a eb ea. (feed_same all all_reached p b a eb ea).0) streams base held (subst (λ (lanes : List Given). IsCutOf streams base held lanes) (sym given_all) k)

-- ---- lists

-- a fact of each two at a place, where one of them was replaced
pub set_each : {A B : Type 0} (P : A → B → Type 0) (old : List A) (xs : List B) (n : ℕ) (here new : B) → slice_get xs n ≡ Some here → ((b : A) → P b here → P b new)
    → ((p : ℕ) (b : A) (a : B) → slice_get old p ≡ Some b → slice_get xs p ≡ Some a → P b a) → (p : ℕ) (b : A) (a : B) → slice_get old p ≡ Some b → slice_get (slice_set xs n new) p ≡ Some a → P b a
set_each P old xs n here new at next each p b a eb ea = elim (set_cases xs n p new a ea) [
  | inl k ↦ subst (P b) (sym k.1) (next b (each p b here eb (ap (slice_get xs) k.0 ∙ at)))
  | inr k ↦ each p b a eb k.1
]

pub empty_of : {A : Type 0} (xs : List A) → length xs ≡ 0 → xs ≡ []
empty_of [] e = refl
empty_of (x ∷ xs) e = absurd (omega (arith, e))

-- the first of those that are left
pub first_at : {A : Type 0} (l all : List A) (n : ℕ) (x : A) → l ≡ drop n all → n < length all → x ≡ slice_index_or l 0 x → slice_get all n ≡ Some x
first_at l all n x left low is =
    let some : 0 < length l = let long = ap length left ∙ length-drop n all in omega (arith, long, low) in
    sym (front_at n all) ∙ ap (λ (m : List _). slice_get m 0) (sym left) ∙ slice_get_read l (length l) 0 x refl some is

-- one more of a pair of lists
pub pairs_more : {A B : Type 0} (F : A → B → Type 0) (xs : List A) (ys : List B) (n : ℕ) (x : A) (y : B) → length ys ≡ n → slice_get xs n ≡ Some x → F x y
    → ((p : ℕ) (a : A) (b : B) → slice_get xs p ≡ Some a → slice_get ys p ≡ Some b → F a b) → (p : ℕ) (a : A) (b : B) → slice_get xs p ≡ Some a → slice_get (ys ++ y ∷ []) p ≡ Some b → F a b
pairs_more {A = A} {B = B} F xs ys n x y count at f each p a b ea eb = elim (push_cases ys y b p eb) [
  | inl m ↦ each p a b ea m.1
  | inr m ↦
      let here : p ≡ n = m.0 ∙ count in
      let same : x ≡ a = cc (at, ea, here) in
      subst (λ (z : B). F a z) m.1 (subst (λ (z : A). F z y) same f)
]

-- what a slice that was changed in place gives back
pub written_back : {A : Type 0} (n : ℕ) (new old : List A) → n ≡ length old → length new ≡ length old → take n (new ++ drop (length new) old) ≡ new
written_back {A = A} n new old size same =
    let none : drop (length new) old ≡ [] = empty_of (drop (length new) old) (let long = length-drop (length new) old in omega (arith, long, same)) in
    ap (λ (l : List A). take n (new ++ l)) none ∙ ap (take n) (append-nil new) ∙ take_all n new (omega (arith, size, same))

pub if_ok : {R E : Type 0} (r : Result R E) (P Q : R → Type 0) → ((v : R) → P v → Q v) → IfOk r P → IfOk r Q
if_ok (Ok v) P Q f h = f v h
if_ok (Err e) P Q f h = tt
