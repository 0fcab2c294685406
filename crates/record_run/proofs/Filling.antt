-- Samples of a feed, as they go one after the other into a ring that was empty.
use Rattle.std.proofs.Common.{◌≡◌, ◌≢◌, ℕ, zero, suc, ◌+◌, ◌-◌, ◌<◌, ◌≤◌, Bool, true, false, List, [], ◌∷◌, ◌++◌, length, map, take, drop, if◌then◌else◌, Option, None, Some, refl, sym, ap, ◌∙◌, subst, append_assoc, arith, length-append, length-drop}
use Rattle.std.proofs.lemmas.Bool.{eqb-true, eqb-false}
use Rattle.std.proofs.lemmas.List.{map-append, drop-map, length-map, append-nil}
use Rattle.std.specs.List.{AllByRecursion}
use Rattle.rec_base.specs.Causes.{Blames}
use Rattle.reading_model.specs.Outlook.{item, end, Answered}
use Rattle.reading_model.specs.Read.{Reader}
use Rattle.piece_reader.specs.Steps.{Begun}
use Rattle.piece_reader.proofs.Collecting.{begun_item}
use Rattle.piece_reader.proofs.Ending.{fresh, ends_so}
use Rattle.xdf_model.specs.declared.types.Shape.{Shape}
use Rattle.xdf_model.specs.Sample.{Sample}
use Rattle.inlet_model.specs.declared.end.FeedEnd.{FeedEnd}
use Rattle.inlet_model.specs.declared.end.FeedEnd.TheVariants as ends
use Rattle.inlet_model.specs.Inlet.{feed_kind}
use Rattle.feed_samples.specs.Inlet.{InletState, outlook}
use Rattle.ring_model.specs.declared.entry.Entry.{Entry as RingEntry}
use Rattle.ring_model.specs.Ring.{RingState, RingRun, Put, Drop}
use Rattle.inlet_ring.specs.Lone.{Lone, StandsFor, is_full, with_room}
use Rattle.recording_model.specs.Batch.{Entry, entries_from}
use Rattle.record_writer.proofs.Layouts.{entries_more}
use Rattle.turns_laws.specs.Slabs.{last_of}
use Rattle.turns_laws.proofs.Rings.{push_room, push_full}
use Rattle.run_model.specs.Rings.{ring_entry}
use Rattle.feed_samples.specs.declared.step.FeedStep.{FeedStep}
use Rattle.feed_samples.specs.declared.step.FeedStep.TheVariants as step
use Rattle.feed_samples.specs.Inlet.{FitsGiven, got, received_by}
use Rattle.run_model.proofs.Ends.{fault_alone}
use Rattle.record_run.specs.declared.ring.Given.TheVariants as given
use Rattle.record_run.specs.FeedRings.{IsPush, IsPut, dropped_by}
use Rattle.record_run.specs.Inlets.{InletView, HasGiven, IsKept, IsFilled}
use Rattle.run_model.specs.Fitting.{IsFitting}

-- ---- the ring

-- what a ring made of more samples
pub record HasPut (a b : RingState Sample) (more : List Sample) (drops : ℕ) : Type 0 where
  pub puts : b.puts ≡ a.puts ++ more
  pub taken : b.taken ≡ a.taken
  pub dropped : length b.dropped ≡ length a.dropped + drops

took_one : (xs : List (RingEntry Sample)) → 1 ≤ length xs → length (take 1 xs) ≡ 1
took_one [] le = absurd (omega arith)
took_one (x ∷ xs) le = refl

-- a push drops the oldest exactly where the ring is full
run_put : (full : Bool) (ring : Lone Sample) (s : Sample) (a b : RingState Sample) → 1 ≤ ring.capacity → is_full ring ≡ full → StandsFor ring a
    → RingRun ring.capacity a (if full then Drop ∷ Put s ∷ [] else Put s ∷ []) b → HasPut a b (s ∷ []) (if full then 1 else 0)
run_put true ring s a b some is st run =
    let size : length ring.queue ≡ ring.capacity = eqb-true (length ring.queue) ring.capacity is in
    let same : length a.queue ≡ ring.capacity = ap length (sym st.queue) ∙ size in
    let one : length (take 1 a.queue) ≡ 1 = took_one a.queue (omega arith) in
    let m = run.0 in
    let first = run.1.change in
    let second = run.2.1.change in
    let last = run.2.2 in
    let drops : b.dropped ≡ a.dropped ++ take 1 a.queue = cc in
    record { puts = cc; taken = cc; dropped = omega (arith, ap length drops, length-append a.dropped (take 1 a.queue), one) }
run_put false ring s a b some is st run =
    let first = run.1.change in
    let last = run.2 in
    let drops : b.dropped ≡ a.dropped = cc in
    record { puts = cc; taken = cc; dropped = omega (arith, ap length drops) }

put_one : (old new : Lone Sample) (s : Sample) (a : RingState Sample) → 1 ≤ old.capacity → IsPush old new s → StandsFor old a
    → (b : RingState Sample) × StandsFor new b × HasPut a b (s ∷ []) (dropped_by old)
put_one old new s a some p st =
    let k = p.steps a st in
    (k.0, k.2, run_put (is_full old) old s a k.0 some refl st k.1)

-- the entries are those of the last samples
length_last : (n : ℕ) (xs : List Entry) → length (last_of n xs) ≡ length xs - (length xs - n)
length_last n xs = length-drop (length xs - n) xs

queue_by : (full : Bool) (ring : Lone Sample) (e : Entry) (xs : List Entry) → 1 ≤ ring.capacity → is_full ring ≡ full → map ring_entry ring.queue ≡ last_of ring.capacity xs
    → map ring_entry (if full then drop 1 ring.queue else ring.queue) ++ e ∷ [] ≡ last_of ring.capacity (xs ++ e ∷ [])
queue_by true ring e xs some is same =
    let size : length ring.queue ≡ ring.capacity = eqb-true (length ring.queue) ring.capacity is in
    let enough : ring.capacity ≤ length xs = omega (arith, ap length same, length-map ring.queue ring_entry, length_last ring.capacity xs) in
    ap (λ (l : List Entry). l ++ e ∷ []) (sym (drop-map ring_entry 1 ring.queue) ∙ ap (drop 1) same) ∙ sym (push_full ring.capacity xs e some enough)
queue_by false ring e xs some is same =
    let size : length ring.queue ≢ ring.capacity = eqb-false (length ring.queue) ring.capacity is in
    let room : length xs < ring.capacity = omega (arith, size, ap length same, length-map ring.queue ring_entry, length_last ring.capacity xs) in
    ap (λ (l : List Entry). l ++ e ∷ []) same ∙ sym (push_room ring.capacity xs e room)

queue_more : (capacity at : ℕ) (old new : Lone Sample) (s : Sample) (more : List Sample) → 1 ≤ old.capacity → IsPush old new s → old.capacity ≡ capacity → old.pushes ≡ at + length more
    → map ring_entry old.queue ≡ last_of capacity (entries_from at more) → map ring_entry new.queue ≡ last_of capacity (entries_from at (more ++ s ∷ []))
queue_more capacity at old new s more some p size count same =
    let e : Entry = record { position = old.pushes; sample = s } in
    let P : ℕ → Type 0 = λ n. map ring_entry old.queue ≡ last_of n (entries_from at more) in
    let here = queue_by (is_full old) old e (entries_from at more) some refl (subst P (sym size) same) in
    let spot : record { position = at + length more; sample = s } ≡ e = ap (λ (n : ℕ). let f : Entry = record { position = n; sample = s } in f) (sym count) in
    ap (map ring_entry) p.queue
    ∙ map-append ring_entry (with_room old) (record { position = old.pushes; value = s } ∷ [])
    ∙ here
    ∙ ap (λ (n : ℕ). last_of n (entries_from at more ++ e ∷ [])) size
    ∙ ap (last_of capacity) (ap (λ (f : Entry). entries_from at more ++ f ∷ []) (sym spot) ∙ sym (entries_more at more s))

all_more : {A : Type 0} (P : A → Type 0) (xs : List A) (x : A) → AllByRecursion P xs → P x → AllByRecursion P (xs ++ x ∷ [])
all_more P [] x all one = (one, tt)
all_more P (y ∷ xs) x all one = (all.0, all_more P xs x all.1 one)

-- ---- the counts

queue_length : (full : Bool) (ring : Lone Sample) (e : RingEntry Sample) → 1 ≤ ring.capacity → is_full ring ≡ full
    → length ((if full then drop 1 ring.queue else ring.queue) ++ e ∷ []) + (if full then 1 else 0) ≡ length ring.queue + 1
queue_length true ring e some is =
    let size : length ring.queue ≡ ring.capacity = eqb-true (length ring.queue) ring.capacity is in
    omega (arith, length-append (drop 1 ring.queue) (e ∷ []), length-drop 1 ring.queue)
queue_length false ring e some is = omega (arith, length-append ring.queue (e ∷ []))

few_by : (full : Bool) (ring : Lone Sample) (drops : ℕ) → is_full ring ≡ full → drops + length ring.queue ≤ ring.pushes → drops ≤ ring.pushes - ring.capacity
    → drops + (if full then 1 else 0) ≤ ring.pushes + 1 - ring.capacity
few_by true ring drops is within few =
    let size : length ring.queue ≡ ring.capacity = eqb-true (length ring.queue) ring.capacity is in
    omega arith
few_by false ring drops is within few = omega arith

pub kept_push : (inlet next : InletState) (old new : Lone Sample) (s : Sample) (drops : ℕ) → IsKept inlet old drops → IsPush old new s → next.received ≡ inlet.received + 1 → next.byte_limit ≡ inlet.byte_limit
    → next.received ≤ next.byte_limit → IsKept next new (drops + dropped_by old)
kept_push inlet next old new s drops k p received counted bounded =
    let e : RingEntry Sample = record { position = old.pushes; value = s } in
    let size = queue_length (is_full old) old e k.low refl in
    let few = few_by (is_full old) old drops refl k.within k.few in
    record {
      low = omega (arith, k.low, p.capacity);
      received = omega (arith, received, k.received, p.pushes);
      counted = counted ∙ k.counted;
      bounded = omega (arith, received, k.received, p.pushes, bounded, counted, k.counted);
      within = omega (arith, size, ap length p.queue, p.pushes, k.within);
      few = omega (arith, few, p.pushes, p.capacity);
    }

-- ---- the reading

none_left : (n : ℕ) → drop n (entries_from 0 []) ≡ []
none_left zero = refl
none_left (suc n) = refl

pub record Filling {S M : Type 0} (left_of : S → Option (List ℕ)) (faults_of : S → ℕ) (mark_of : S → M) (x now : InletView S) (n : ℕ) : Type 0 where
  pub more : List Sample
  pub count : length more ≡ n
  pub start : x.end ≡ None
  pub marked : mark_of now.source ≡ mark_of x.source
  pub quiet : faults_of now.source ≡ faults_of x.source
  pub given : (reader : Reader Sample FeedEnd) (first : S) (given : List Sample)
      → Begun (fresh reader) (outlook x.inlet) (left_of first) (left_of x.source) given → Begun (fresh reader) (outlook now.inlet) (left_of first) (left_of now.source) (given ++ more)
  pub id : now.id ≡ x.id
  pub shape : now.inlet.shape ≡ x.inlet.shape
  pub capacity : now.ring.capacity ≡ x.ring.capacity
  pub pushes : now.ring.pushes ≡ x.ring.pushes + length more
  pub queue : map ring_entry now.ring.queue ≡ last_of x.ring.capacity (entries_from x.ring.pushes more)
  pub fits : AllByRecursion (IsFitting x.inlet.shape) more
  pub states : (s : RingState Sample) → StandsFor x.ring s → (t : RingState Sample) × StandsFor now.ring t
      × (t.puts ≡ s.puts ++ more) × (t.taken ≡ s.taken) × (length t.dropped + x.drops ≡ length s.dropped + now.drops)

pub filling_none : {S M : Type 0} (left_of : S → Option (List ℕ)) (faults_of : S → ℕ) (mark_of : S → M) (x : InletView S) → x.end ≡ None → x.ring.queue ≡ [] → Filling left_of faults_of mark_of x x 0
filling_none left_of faults_of mark_of x start empty = record {
  more = [];
  count = refl;
  start = start;
  marked = refl;
  quiet = refl;
  given = λ reader first given b. subst (λ (l : List Sample). Begun (fresh reader) (outlook x.inlet) (left_of first) (left_of x.source) l) (sym (append-nil given)) b;
  id = refl;
  shape = refl;
  capacity = refl;
  pushes = omega arith;
  queue = ap (map ring_entry) empty ∙ sym (none_left (0 - x.ring.capacity));
  fits = tt;
  states = λ s st. (s, st, sym (append-nil s.puts), refl, refl);
}

-- one more sample was read, and pushed
pub record IsOneMore {S M : Type 0} (left_of : S → Option (List ℕ)) (faults_of : S → ℕ) (mark_of : S → M) (now next : InletView S) (s : Sample) : Type 0 where
  pub answer : Answered feed_kind (outlook now.inlet) (outlook next.inlet) (left_of now.source) (left_of next.source) (item s)
  pub fits : IsFitting now.inlet.shape s
  pub shape : next.inlet.shape ≡ now.inlet.shape
  pub marked : mark_of next.source ≡ mark_of now.source
  pub quiet : faults_of next.source ≡ faults_of now.source
  pub id : next.id ≡ now.id
  pub push : IsPush now.ring next.ring s
  pub drops : next.drops ≡ now.drops + dropped_by now.ring

pub filling_more : {S M : Type 0} (left_of : S → Option (List ℕ)) (faults_of : S → ℕ) (mark_of : S → M) (x now next : InletView S) (n : ℕ) (s : Sample) → 1 ≤ now.ring.capacity
    → Filling left_of faults_of mark_of x now n → IsOneMore left_of faults_of mark_of now next s → Filling left_of faults_of mark_of x next (n + 1)
filling_more left_of faults_of mark_of x now next n s some f o =
    let P : Shape → Type 0 = λ shape. IsFitting shape s in
    let long = length-append f.more (s ∷ []) in
    record {
      more = f.more ++ s ∷ [];
      count = omega (arith, long, f.count);
      start = f.start;
      marked = o.marked ∙ f.marked;
      quiet = o.quiet ∙ f.quiet;
      given = λ reader first given b.
          subst (λ (l : List Sample). Begun (fresh reader) (outlook next.inlet) (left_of first) (left_of next.source) l) (append_assoc given f.more (s ∷ []))
          (begun_item feed_kind (fresh reader) (outlook now.inlet) (outlook next.inlet) (left_of first) (left_of now.source) (left_of next.source) (given ++ f.more) s (f.given reader first given b) o.answer);
      id = o.id ∙ f.id;
      shape = o.shape ∙ f.shape;
      capacity = o.push.capacity ∙ f.capacity;
      pushes = omega (arith, o.push.pushes, f.pushes, long);
      queue = queue_more x.ring.capacity x.ring.pushes now.ring next.ring s f.more some o.push f.capacity f.pushes f.queue;
      fits = all_more (IsFitting x.inlet.shape) f.more s f.fits (subst P f.shape o.fits);
      states = λ a st.
          let k = f.states a st in
          let one = put_one now.ring next.ring s k.0 some o.push k.1 in (
            one.0,
            one.1,
            one.2.puts ∙ ap (λ (l : List Sample). l ++ s ∷ []) k.2 ∙ append_assoc a.puts f.more (s ∷ []),
            one.2.taken ∙ k.3,
            omega (arith, one.2.dropped, k.4, o.drops),
          );
    }

-- ---- an answer of the reader, in the ring

pub record GivesOne (shape : Shape) (old new : Lone Sample) (inlet next : InletState) (left left' : Option (List ℕ)) (drops : ℕ) : Type 0 where
  pub sample : Sample
  pub push : IsPush old new sample
  pub drops_is : drops ≡ dropped_by old
  pub answer : Answered feed_kind (outlook inlet) (outlook next) left left' (item sample)
  pub fits : IsFitting shape sample
  pub received : next.received ≡ inlet.received + 1

pub gives_one : (shape : Shape) (old new : Lone Sample) (inlet next : InletState) (left left' : Option (List ℕ)) (drops : ℕ) (s : FeedStep) → IsPut old new s (given.Sample drops)
    → Answered feed_kind (outlook inlet) (outlook next) left left' (got s) → FitsGiven shape s → next.received ≡ received_by s inlet.received → GivesOne shape old new inlet next left left' drops
gives_one shape old new inlet next left left' drops (step.Sample s) put answer fits received =
    record { sample = s; push = put.0; drops_is = put.1; answer = answer; fits = fits; received = received }
gives_one shape old new inlet next left left' drops (step.End e) put answer fits received = absurd put
gives_one shape old new inlet next left left' drops step.Memory put answer fits received = absurd put

pub gives_end : (shape : Shape) (old new : Lone Sample) (inlet next : InletState) (left left' : Option (List ℕ)) (e : FeedEnd) (s : FeedStep) → IsPut old new s (given.End e)
    → Answered feed_kind (outlook inlet) (outlook next) left left' (got s) → next.received ≡ received_by s inlet.received
    → (new ≡ old) × Answered feed_kind (outlook inlet) (outlook next) left left' (end e) × (next.received ≡ inlet.received)
gives_end shape old new inlet next left left' e (step.Sample s) put answer received = absurd put
gives_end shape old new inlet next left left' e (step.End f) put answer received =
    (put.1, subst (λ (x : FeedEnd). Answered feed_kind (outlook inlet) (outlook next) left left' (end x)) put.0 answer, received)
gives_end shape old new inlet next left left' e step.Memory put answer received = absurd put

-- ---- the whole pass

-- the end was met before, or no sample is asked for
pub filled_over : {S M : Type 0} (left_of : S → Option (List ℕ)) (faults_of : S → ℕ) (mark_of : S → M) (batch : ℕ) (x : InletView S) (e : FeedEnd) → IsKept x.inlet x.ring x.drops → x.end ≡ Some e → x.ring.queue ≡ []
    → IsFilled left_of faults_of mark_of batch x x
filled_over left_of faults_of mark_of batch x e k over empty = record {
  more = [];
  count = omega arith;
  all = λ goes. absurd (cc);
  marked = refl;
  given = λ reader first given h. subst (λ (l : List Sample). HasGiven left_of faults_of reader first x l x.end) (sym (append-nil given)) h;
  over = λ d is. (is, refl);
  id = refl;
  shape = refl;
  capacity = refl;
  pushes = omega arith;
  bounded = k.bounded;
  few = k.few;
  queue = ap (map ring_entry) empty ∙ sym (none_left (0 - x.ring.capacity));
  fits = tt;
  states = λ s st. (s, st, sym (append-nil s.puts), refl, refl);
}

pub filled_all : {S M : Type 0} (left_of : S → Option (List ℕ)) (faults_of : S → ℕ) (mark_of : S → M) (batch : ℕ) (x now : InletView S) → IsKept now.inlet now.ring now.drops → now.end ≡ None
    → Filling left_of faults_of mark_of x now batch → IsFilled left_of faults_of mark_of batch x now
filled_all left_of faults_of mark_of batch x now k goes f = record {
  more = f.more;
  count = omega (arith, f.count);
  all = λ _. f.count;
  marked = f.marked;
  given = λ reader first given h.
      let b = subst (HasGiven left_of faults_of reader first x given) f.start h in
      subst (HasGiven left_of faults_of reader first now (given ++ f.more)) (sym goes) (f.given reader first given b.0, f.quiet ∙ b.1);
  over = λ e is. absurd (cc);
  id = f.id;
  shape = f.shape;
  capacity = f.capacity;
  pushes = f.pushes;
  bounded = k.bounded;
  few = k.few;
  queue = f.queue;
  fits = f.fits;
  states = f.states;
}

-- the end was given
pub record IsEnded {S M : Type 0} (left_of : S → Option (List ℕ)) (faults_of : S → ℕ) (mark_of : S → M) (now next : InletView S) (e : FeedEnd) : Type 0 where
  pub answer : Answered feed_kind (outlook now.inlet) (outlook next.inlet) (left_of now.source) (left_of next.source) (end e)
  pub cause : Blames (((outlook now.inlet).is_over ≡ false) × (e ≡ ends.ReadFault)) (faults_of now.source) (faults_of next.source)
  pub shape : next.inlet.shape ≡ now.inlet.shape
  pub marked : mark_of next.source ≡ mark_of now.source
  pub id : next.id ≡ now.id
  pub ring : next.ring ≡ now.ring
  pub drops : next.drops ≡ now.drops
  pub over : next.end ≡ Some e

ended_given : {S M : Type 0} (left_of : S → Option (List ℕ)) (faults_of : S → ℕ) (mark_of : S → M) (now next : InletView S) (e : FeedEnd) (reader : Reader Sample FeedEnd) (first : S) (given : List Sample)
    → IsEnded left_of faults_of mark_of now next e → faults_of now.source ≡ faults_of first → Begun (fresh reader) (outlook now.inlet) (left_of first) (left_of now.source) given
    → HasGiven left_of faults_of reader first next given (Some e)
ended_given left_of faults_of mark_of now next e reader first given o same b = (
  ends_so feed_kind reader (outlook now.inlet) (outlook next.inlet) (left_of first) (left_of now.source) (left_of next.source) given e b o.answer,
  record {
    later = omega (arith, o.cause.later, same);
    rose = λ is. let rose = o.cause.rose (b.goes, fault_alone e is) in omega (arith, rose, same);
    quiet = λ other. o.cause.quiet (λ h. other (ap feed_kind h.1)) ∙ same;
  },
)

pub filled_end : {S M : Type 0} (left_of : S → Option (List ℕ)) (faults_of : S → ℕ) (mark_of : S → M) (batch n : ℕ) (x now next : InletView S) (e : FeedEnd) → IsKept next.inlet next.ring next.drops → n ≤ batch
    → Filling left_of faults_of mark_of x now n → IsEnded left_of faults_of mark_of now next e → IsFilled left_of faults_of mark_of batch x next
filled_end left_of faults_of mark_of batch n x now next e k le f o = record {
  more = f.more;
  count = omega (arith, f.count, le);
  all = λ goes. let over = o.over in absurd (cc);
  marked = o.marked ∙ f.marked;
  given = λ reader first given h.
      let b = subst (HasGiven left_of faults_of reader first x given) f.start h in
      subst (HasGiven left_of faults_of reader first next (given ++ f.more)) (sym o.over)
      (ended_given left_of faults_of mark_of now next e reader first (given ++ f.more) o (f.quiet ∙ b.1) (f.given reader first given b.0));
  over = λ d is. let start = f.start in absurd (cc);
  id = o.id ∙ f.id;
  shape = o.shape ∙ f.shape;
  capacity = ap (λ (r : Lone Sample). r.capacity) o.ring ∙ f.capacity;
  pushes = ap (λ (r : Lone Sample). r.pushes) o.ring ∙ f.pushes;
  bounded = k.bounded;
  few = k.few;
  queue = ap (λ (r : Lone Sample). map ring_entry r.queue) o.ring ∙ f.queue;
  fits = f.fits;
  states = λ s st.
      let t = f.states s st in
      let P : Lone Sample → Type 0 = λ r. StandsFor r t.0 in
      (t.0, subst P (sym o.ring) t.1, t.2, t.3, omega (arith, t.4, o.drops));
}
