-- Entries of a ring, as they go one after the other to the writer.
use Rattle.std.proofs.Common.{◌≡◌, ◌≢◌, ◌^◌, ℕ, ◌+◌, ◌<◌, ◌≤◌, inl, inr, false, List, [], ◌∷◌, ◌++◌, length, map, take, drop, Option, None, Some, Result, refl, sym, ap, ◌∙◌, subst, append_assoc, arith}
use Rattle.std.specs.Prelude.{slice_get, OnOk}
use Rattle.std.specs.List.{AllByRecursion}
use Rattle.std.proofs.lemmas.Bool.Decides.{nat_tests}
use Rattle.std.proofs.lemmas.List.{append-nil, length-map}
use Rattle.xdf_model.specs.declared.types.Shape.{Shape}
use Rattle.xdf_model.specs.Sample.{Sample}
use Rattle.ring_model.specs.declared.entry.Entry.{Entry as RingEntry}
use Rattle.ring_model.specs.Ring.{RingState, RingRun, Take}
use Rattle.inlet_ring.specs.Lone.{Lone, take_events, StandsFor as RingStandsFor}
use Rattle.recording_model.specs.declared.stream.StreamDoc.{StreamDoc}
use Rattle.recording_model.specs.Batch.{Entry, Batch, entries_from}
use Rattle.turns_model.specs.Turns.{batch_of}
use Rattle.record_writer.specs.declared.place.Place.{Place}
use Rattle.record_writer.specs.declared.fault.WriterFault.{WriterFault}
use Rattle.record_writer.specs.Desk.{DeskState, next_at, shapes_of, IsFreeFor}
use Rattle.record_writer.specs.Standing.{StandsFor, closed}
use Rattle.run_model.specs.Rings.{ring_entry}
use Rattle.record_run.specs.FeedRings.{IsTake}
use Rattle.run_model.specs.Putting.{IsOnePut, IsTakenAt}
use Rattle.record_run.specs.Inlets.{InletView, IsDrained, AreWaiting}
use Rattle.run_model.specs.Fitting.{IsFitting}
use Rattle.run_model.proofs.Lists.{cons_of}
use Rattle.run_model.proofs.Batches.{open_of, open_more, closed_all}

-- ---- the ring

-- these were taken out of a ring
pub record HasTaken (old now : Lone Sample) (a b : RingState Sample) : Type 0 where
  pub puts : b.puts ≡ a.puts
  pub taken : b.taken ++ now.queue ≡ a.taken ++ old.queue
  pub dropped : b.dropped ≡ a.dropped

run_take : (capacity : ℕ) (a b : RingState Sample) (e : RingEntry Sample) (q : List (RingEntry Sample)) → a.queue ≡ e ∷ q → RingRun capacity a (Take ∷ []) b
    → (b.puts ≡ a.puts) × (b.taken ≡ a.taken ++ e ∷ []) × (b.dropped ≡ a.dropped)
run_take capacity a b e q is run =
    let change = run.1.change in
    let last = run.2 in
    let one : take 1 a.queue ≡ e ∷ [] = ap (take 1) is in
    (cc, cc, cc)

take_one : (old new : Lone Sample) (e : RingEntry Sample) (a : RingState Sample) → IsTake old new e → RingStandsFor old a
    → (b : RingState Sample) × RingStandsFor new b × HasTaken old new a b
take_one old new e a t st =
    let q = drop 1 old.queue in
    let is : old.queue ≡ e ∷ q = cons_of old.queue e t.oldest in
    let k = t.steps a st in
    let P : List (RingEntry Sample) → Type 0 = λ l. RingRun old.capacity a (take_events l) k.0 in
    let r = run_take old.capacity a k.0 e q (sym st.queue ∙ is) (subst P is k.1) in (
      k.0,
      k.2,
      record {
        puts = r.0;
        taken = ap (λ (l : List (RingEntry Sample)). l ++ new.queue) r.1 ∙ append_assoc a.taken (e ∷ []) new.queue ∙ ap (λ (l : List (RingEntry Sample)). a.taken ++ e ∷ l) t.queue
            ∙ ap (λ (l : List (RingEntry Sample)). a.taken ++ l) (sym is);
        dropped = r.2;
      },
    )

-- ---- what waits

-- the entry comes next, and these wait behind it
pub record ComesNext (shape : Shape) (next pushes : ℕ) (e : RingEntry Sample) (rest : List (RingEntry Sample)) : Type 0 where
  pub low : next ≤ e.position
  pub fits : IsFitting shape e.value
  pub more : List Sample
  pub queue : map ring_entry rest ≡ entries_from (e.position + 1) more
  pub high : e.position + 1 + length more ≤ pushes
  pub all : AllByRecursion (IsFitting shape) more

next_of : (shape : Shape) (next pushes first : ℕ) (samples : List Sample) (e : RingEntry Sample) (rest : List (RingEntry Sample)) → ring_entry e ∷ map ring_entry rest ≡ entries_from first samples
    → next ≤ first → first + length samples ≤ pushes → AllByRecursion (IsFitting shape) samples → ComesNext shape next pushes e rest
next_of shape next pushes first [] e rest is low high fits = absurd cc
next_of shape next pushes first (s ∷ more) e rest is low high fits =
    let head : ring_entry e ≡ record { position = first; sample = s } = cc in
    let at : e.position ≡ first = ap (λ (x : Entry). x.position) head in
    let value : s ≡ e.value = sym (ap (λ (x : Entry). x.sample) head) in
    let tail : map ring_entry rest ≡ entries_from (first + 1) more = cc in
    record {
      low = omega arith;
      fits = subst (IsFitting shape) value fits.0;
      more = more;
      queue = tail ∙ ap (λ (n : ℕ). entries_from (n + 1) more) (sym at);
      high = omega arith;
      all = fits.1;
    }

pub comes_next : {S : Type 0} (shape : Shape) (next : ℕ) (x : InletView S) (e : RingEntry Sample) → AreWaiting shape next x → slice_get x.ring.queue 0 ≡ Some e → ComesNext shape next x.ring.pushes e (drop 1 x.ring.queue)
comes_next shape next x e w is =
    next_of shape next x.ring.pushes w.first w.samples e (drop 1 x.ring.queue) (sym (ap (map ring_entry) (cons_of x.ring.queue e is)) ∙ w.queue) w.low w.high w.fits

pub record SameBut {S : Type 0} (x now : InletView S) : Type 0 where
  pub id : now.id ≡ x.id
  pub source : now.source ≡ x.source
  pub inlet : now.inlet ≡ x.inlet
  pub end : now.end ≡ x.end
  pub drops : now.drops ≡ x.drops
  pub pushes : now.ring.pushes ≡ x.ring.pushes
  pub capacity : now.ring.capacity ≡ x.ring.capacity

-- so far these entries were put
pub record Draining {S : Type 0} (place : ℕ) (x now : InletView S) (before after : DeskState) (base_held held : Option (List ℕ)) : Type 0 where
  pub put : List Entry
  pub shape : Shape
  pub is_shape : slice_get (shapes_of after) place ≡ Some shape
  pub waits : AreWaiting shape (next_at after place) now
  pub parts : map ring_entry x.ring.queue ≡ put ++ map ring_entry now.ring.queue
  pub stands : (streams : List StreamDoc) (base : Option (List ℕ)) (batches : List Batch) → StandsFor streams base base_held before batches None → StandsFor streams base held after batches (open_of place put)
  pub free : IsFreeFor after place
  pub whole : after.broken ≡ false
  pub next_else : (p : ℕ) → p ≢ place → next_at after p ≡ next_at before p
  pub shapes : shapes_of after ≡ shapes_of before
  pub same : SameBut x now
  pub states : (s : RingState Sample) → RingStandsFor x.ring s → (t : RingState Sample) × RingStandsFor now.ring t × HasTaken x.ring now.ring s t

pub draining_none : {S : Type 0} (place : ℕ) (x : InletView S) (desk : DeskState) (held : Option (List ℕ)) (shape : Shape) → slice_get (shapes_of desk) place ≡ Some shape → AreWaiting shape (next_at desk place) x
    → desk.count ≡ 0 → desk.broken ≡ false → Draining place x x desk desk held held
draining_none place x desk held shape is_shape waits count whole = record {
  put = [];
  shape = shape;
  is_shape = is_shape;
  waits = waits;
  parts = refl;
  stands = λ streams base batches st. st;
  free = inl count;
  whole = whole;
  next_else = λ p ne. refl;
  shapes = refl;
  same = record { id = refl; source = refl; inlet = refl; end = refl; drops = refl; pushes = refl; capacity = refl };
  states = λ s st. (s, st, record { puts = refl; taken = refl; dropped = refl });
}

waits_more : {S : Type 0} (shape : Shape) (now next : InletView S) (e : RingEntry Sample) (at after : ℕ) → ComesNext shape at now.ring.pushes e (drop 1 now.ring.queue) → IsTake now.ring next.ring e → after ≡ e.position + 1
    → AreWaiting shape after next
waits_more shape now next e at after n t is = record {
  first = e.position + 1;
  samples = n.more;
  queue = ap (map ring_entry) t.queue ∙ n.queue;
  low = omega arith;
  high = omega (arith, n.high, t.pushes);
  fits = n.all;
}

pub draining_more : {S : Type 0} (place : ℕ) (x now next : InletView S) (before mid after : DeskState) (base_held held_mid held : Option (List ℕ)) (e : RingEntry Sample)
    → Draining place x now before mid base_held held_mid → IsTake now.ring next.ring e → SameBut now next → IsOnePut place e.position e.value mid after held_mid held
    → Draining place x next before after base_held held
draining_more place x now next before mid after base_held held_mid held e d t same o =
    let n = comes_next d.shape (next_at mid place) now e d.waits t.oldest in
    let entry : Entry = ring_entry e in
    let here : next_at after place ≡ e.position + 1 = let k = o.next place in grind (arith, nat_tests) in
    let is : now.ring.queue ≡ e ∷ next.ring.queue = cons_of now.ring.queue e t.oldest ∙ ap (λ (l : List (RingEntry Sample)). e ∷ l) (sym t.queue) in
    record {
      put = d.put ++ entry ∷ [];
      shape = d.shape;
      is_shape = ap (λ (l : List Shape). slice_get l place) o.shapes ∙ d.is_shape;
      waits = waits_more d.shape now next e (next_at mid place) (next_at after place) n t here;
      parts = d.parts ∙ ap (λ (l : List (RingEntry Sample)). d.put ++ map ring_entry l) is ∙ sym (append_assoc d.put (entry ∷ []) (map ring_entry next.ring.queue));
      stands = λ streams base batches st.
          subst (StandsFor streams base held after batches) (open_more place e.position e.value d.put) (o.put streams base batches (open_of place d.put) (d.stands streams base batches st));
      free = inr o.place_is;
      whole = o.whole;
      next_else = λ p ne. let k = o.next p in let l = d.next_else p ne in grind (arith, nat_tests);
      shapes = o.shapes ∙ d.shapes;
      same = record {
        id = same.id ∙ d.same.id;
        source = same.source ∙ d.same.source;
        inlet = same.inlet ∙ d.same.inlet;
        end = same.end ∙ d.same.end;
        drops = same.drops ∙ d.same.drops;
        pushes = t.pushes ∙ d.same.pushes;
        capacity = t.capacity ∙ d.same.capacity;
      };
      states = λ s st.
          let k = d.states s st in
          let one = take_one now.ring next.ring e k.0 t k.1 in
          (one.0, one.1, record { puts = one.2.puts ∙ k.2.puts; taken = one.2.taken ∙ k.2.taken; dropped = one.2.dropped ∙ k.2.dropped });
    }

-- ---- what a put asks for

-- the writer takes the oldest entry
pub taken_at : {S : Type 0} (place : ℕ) (own : Shape) (x now : InletView S) (before after : DeskState) (base_held held : Option (List ℕ)) → Draining place x now before after base_held held
    → slice_get (shapes_of before) place ≡ Some own → now.ring.pushes ≤ 2 ^ 40 → (e : RingEntry Sample) → slice_get now.ring.queue 0 ≡ Some e → IsTakenAt after place own e
taken_at place own x now before after base_held held d is_own few e oldest =
    let n = comes_next d.shape (next_at after place) now e d.waits oldest in
    let here = ap (λ (l : List Shape). slice_get l place) d.shapes ∙ is_own in
    let same : d.shape ≡ own = let is = d.is_shape in cc in
    let fits : IsFitting own e.value = subst (λ (s : Shape). IsFitting s e.value) same n.fits in
    (omega (arith, n.high, few), n.low, here, fits.0, fits.1)

pub still_within : (places first : List Place) (place : ℕ) → map (λ (x : Place). x.shape) places ≡ map (λ (x : Place). x.shape) first → place < length first → place < length places
still_within places first place same lt =
    let f : Place → Shape = λ x. x.shape in
    omega (arith, ap length same, length-map places f, length-map first f)

-- ---- the whole pass

pub all_put : {S : Type 0} (place : ℕ) (x now : InletView S) (before after : DeskState) (base_held held : Option (List ℕ)) (d : Draining place x now before after base_held held) → now.ring.queue ≡ []
    → d.put ≡ map ring_entry x.ring.queue
all_put place x now before after base_held held d none =
    sym (append-nil d.put) ∙ ap (λ (l : List (RingEntry Sample)). d.put ++ map ring_entry l) (sym none) ∙ sym d.parts

-- the batch is closed
pub closed_so : {S : Type 0} (place : ℕ) (x now : InletView S) (before after last : DeskState) (base_held held_mid held : Option (List ℕ)) (r : Result (Unit {0}) WriterFault)
    → Draining place x now before after base_held held_mid → now.ring.queue ≡ []
    → ((streams : List StreamDoc) (base : Option (List ℕ)) (batches : List Batch) (current : Option Batch) → StandsFor streams base held_mid after batches current → OnOk r (StandsFor streams base held last (closed batches current) None))
    → (streams : List StreamDoc) (base : Option (List ℕ)) (batches : List Batch) → StandsFor streams base base_held before batches None
    → OnOk r (StandsFor streams base held last (batches ++ batch_of place (map ring_entry x.ring.queue)) None)
closed_so place x now before after last base_held held_mid held r d none closes streams base batches st =
    let is : closed batches (open_of place d.put) ≡ batches ++ batch_of place (map ring_entry x.ring.queue) =
    closed_all place batches d.put ∙ ap (λ (es : List Entry). batches ++ batch_of place es) (all_put place x now before after base_held held_mid d none) in
    subst (λ (bs : List Batch). OnOk r (StandsFor streams base held last bs None)) is (closes streams base batches (open_of place d.put) (d.stands streams base batches st))

pub drained_all : {S : Type 0} (place : ℕ) (x now next : InletView S) (before after : DeskState) (base_held held : Option (List ℕ)) → Draining place x now before after base_held held → now.ring.queue ≡ [] → next.ring ≡ now.ring
    → SameBut now next → IsDrained x next
drained_all place x now next before after base_held held d empty stays same = record {
  id = same.id ∙ d.same.id;
  source = same.source ∙ d.same.source;
  inlet = same.inlet ∙ d.same.inlet;
  end = same.end ∙ d.same.end;
  drops = same.drops ∙ d.same.drops;
  queue = ap (λ (r : Lone Sample). r.queue) stays ∙ empty;
  pushes = same.pushes ∙ d.same.pushes;
  capacity = same.capacity ∙ d.same.capacity;
  states = λ s st.
      let k = d.states s st in
      let taken : k.0.taken ≡ s.taken ++ x.ring.queue = sym (append-nil k.0.taken) ∙ ap (λ (l : List (RingEntry Sample)). k.0.taken ++ l) (sym empty) ∙ k.2.taken in
      (k.0, subst (λ (r : Lone Sample). RingStandsFor r k.0) (sym stays) k.1, k.2.puts, taken, k.2.dropped);
}
