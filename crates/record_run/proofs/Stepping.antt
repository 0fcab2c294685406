-- One more turn.
use Rattle.std.proofs.Common.{◌≡◌, inl, inr, ℕ, zero, suc, ◌+◌, ◌-◌, ◌*◌, ◌≤◌, List, [], ◌∷◌, ◌++◌, length, map, drop, slice_get, Option, Some, None, refl, sym, ap, ◌∙◌, subst, arith, length-append, length-drop}
use Rattle.std.specs.List.{AllByRecursion}
use Rattle.std.proofs.lemmas.Option.{slice_get_within}
use Rattle.reading_model.specs.Read.{Reader}
use Rattle.xdf_model.specs.declared.types.Shape.{Shape}
use Rattle.xdf_model.specs.Sample.{Sample, size_of}
use Rattle.inlet_model.specs.declared.end.FeedEnd.{FeedEnd}
use Rattle.recording_model.specs.declared.stream.StreamDoc.{StreamDoc}
use Rattle.recording_model.specs.Batch.{Entry, Batch, entries_from}
use Rattle.turns_model.specs.Turns.{kept_in, first_turns}
use Rattle.turns_laws.specs.Slabs.{last_of}
use Rattle.loss_model.specs.Loss.{behind_last}
use Rattle.record_writer.specs.Desk.{DeskState, next_at, shapes_of}
use Rattle.record_writer.specs.Standing.{StandsFor, IsClosed}
use Rattle.run_model.specs.declared.feed.FeedSource.{FeedSource}
use Rattle.run_model.specs.Run.{feed_of}
use Rattle.run_model.specs.Rings.{ring_entry}
use Rattle.run_model.proofs.Lists.{item_at, map_at}
use Rattle.record_run.specs.Kept.{kept_up_to}
use Rattle.record_run.specs.Inlets.{InletView, HasGiven, IsFilled, IsDrained, AreNumeric, AreWaiting, AreWaitingAll, waiting_batches}
use Rattle.run_model.specs.Fitting.{IsFitting}
use Rattle.record_run.specs.Turning.{IsTurned, AreTurned}
use Rattle.record_run.proofs.Slabs.{HasGrown, kept_here, kept_grows, waits, behind_grows}
use Rattle.record_run.proofs.Beside.{AreGrown, turns_same, waiting_is_turn}

-- ---- small facts

map_both : {A B : Type 0} (f : A → B) (xs ys : List A) → map f (xs ++ ys) ≡ map f xs ++ map f ys
map_both f [] ys = refl
map_both f (x ∷ xs) ys = ap (λ (l : List _). f x ∷ l) (map_both f xs ys)

all_drop : {A : Type 0} (P : A → Type 0) (n : ℕ) (xs : List A) → AllByRecursion P xs → AllByRecursion P (drop n xs)
all_drop P zero xs h = h
all_drop P (suc n) [] h = tt
all_drop P (suc n) (x ∷ xs) h = all_drop P n xs h.1

next_turn : (batch t : ℕ) → suc t * batch ≡ t * batch + batch
next_turn batch t = grind arith

-- ---- one inlet

module _ {S M : Type 0} (left_of : S → Option (List ℕ)) (faults_of : S → ℕ) (mark_of : S → M) where
  given_moved : (reader : Reader Sample FeedEnd) (first : S) (y z : InletView S) (given : List Sample) (e : Option FeedEnd) → z.source ≡ y.source → z.inlet ≡ y.inlet
      → HasGiven left_of faults_of reader first y given e → HasGiven left_of faults_of reader first z given e
  given_moved reader first y z given None source inlet h = rw (source, inlet) h
  given_moved reader first y z given (Some e) source inlet h = rw source h

  end_moved : (reader : Reader Sample FeedEnd) (first : S) (z : InletView S) (given : List Sample) (d e : Option FeedEnd) → e ≡ d
      → HasGiven left_of faults_of reader first z given d → HasGiven left_of faults_of reader first z given e
  end_moved reader first z given d e same h = subst (HasGiven left_of faults_of reader first z given) (sym same) h

  module _ (ring batch turns : ℕ) (stream : StreamDoc) (feed : FeedSource S) (samples : List Sample) (x y z : InletView S) (low : 1 ≤ ring) (some : 1 ≤ batch)
      (k : IsTurned left_of faults_of mark_of ring batch turns stream feed samples x) (f : IsFilled left_of faults_of mark_of batch x y) where
    -- by whether the feed had ended
    grown_by : (e : Option FeedEnd) → x.end ≡ e → HasGrown batch turns samples f.more
    grown_by None is = record { either = inl (k.aligned is, f.count) }
    grown_by (Some e) is = record { either = inr ((f.over e is).1, k.short) }

    pub grown : HasGrown batch turns samples f.more
    grown = grown_by x.end refl

    pub queue_is : map ring_entry y.ring.queue ≡ last_of ring (entries_from (length samples) f.more)
    queue_is = f.queue ∙ ap (λ (n : ℕ). last_of n (entries_from x.ring.pushes f.more)) k.capacity ∙ ap (λ (n : ℕ). last_of ring (entries_from n f.more)) k.pushes

    pub queue_kept : map ring_entry y.ring.queue ≡ kept_in ring batch turns (samples ++ f.more)
    queue_kept = queue_is ∙ sym (kept_here ring batch turns samples f.more some grown)

    -- what waits can be written
    pub waiting : (next : ℕ) → next ≤ x.ring.pushes → AreWaiting stream.shape next y
    waiting next under =
        let n = length f.more - ring in
        let rest = length-drop n f.more in
        let P : Shape → Type 0 = λ shape. AllByRecursion (IsFitting shape) f.more in
        record {
          first = length samples + n;
          samples = drop n f.more;
          queue = queue_is ∙ waits ring (length samples) f.more;
          low = omega (arith, under, k.pushes);
          high = omega (arith, rest, f.pushes, k.pushes);
          fits = all_drop (IsFitting stream.shape) n f.more (subst P k.shape f.fits);
        }

    no_end : (e : Option FeedEnd) → x.end ≡ e → y.end ≡ None → x.end ≡ None
    no_end None is none = is
    no_end (Some e) is none = absurd (cc (none, (f.over e is).0))

    pub turned : IsDrained y z → IsTurned left_of faults_of mark_of ring batch (suc turns) stream feed (samples ++ f.more) z
    turned d =
        let size = length-append samples f.more in
        let more = next_turn batch turns in
        let s = f.states k.state k.stands in
        let t = d.states s.0 s.1 in
        record {
          given = end_moved (feed_of stream feed) feed.source z (samples ++ f.more) y.end z.end d.end
              (given_moved (feed_of stream feed) feed.source y z (samples ++ f.more) y.end d.source d.inlet (f.given (feed_of stream feed) feed.source samples k.given));
          marked = ap mark_of d.source ∙ f.marked ∙ k.marked;
          id = d.id ∙ f.id ∙ k.id;
          shape = ap (λ (i : _). i.shape) d.inlet ∙ f.shape ∙ k.shape;
          capacity = d.capacity ∙ f.capacity ∙ k.capacity;
          queue = d.queue;
          pushes = omega (arith, size, d.pushes, f.pushes, k.pushes);
          bounded = omega (arith, size, f.pushes, k.pushes, f.bounded);
          few = omega (arith, size, d.drops, f.few, f.pushes, k.pushes, f.capacity, k.capacity);
          aligned = λ none. let open_y : y.end ≡ None = sym d.end ∙ none in omega (arith, size, more, f.all open_y, k.aligned (no_end x.end refl open_y));
          short = omega (arith, size, more, f.count, k.short);
          state = t.0;
          stands = t.1;
          puts = t.2 ∙ s.2 ∙ ap (λ (l : List Sample). l ++ f.more) k.puts;
          taken = ap (map ring_entry) (t.3 ∙ ap (λ (l : _). l ++ y.ring.queue) s.3) ∙ map_both ring_entry k.state.taken y.ring.queue
              ∙ ap (λ (es : List Entry). es ++ map ring_entry y.ring.queue) k.taken ∙ ap (λ (es : List Entry). kept_up_to ring batch samples turns ++ es) queue_is
              ∙ sym (kept_grows ring batch turns samples f.more some grown);
          drops = let same = ap length t.4 in omega (arith, same, s.4, k.drops, d.drops);
          behind = ap behind_last (kept_grows ring batch turns samples f.more some grown) ∙ behind_grows ring (length samples) (kept_up_to ring batch samples turns) f.more low k.behind ∙ sym size;
        }

-- ---- all inlets

module _ {S M : Type 0} (left_of : S → Option (List ℕ)) (faults_of : S → ℕ) (mark_of : S → M) (batch : ℕ) where
  abbrev pub AreFilled : List (InletView S) → List (InletView S) → Type 0
  AreFilled xs ys = (p : ℕ) (x y : InletView S) → slice_get xs p ≡ Some x → slice_get ys p ≡ Some y → IsFilled left_of faults_of mark_of batch x y

  -- what each feed gave, with what it gave in this turn
  abbrev pub with_more : (lists : List (List Sample)) (xs ys : List (InletView S)) → AreFilled xs ys → List (List Sample)
  with_more (l ∷ lists) (x ∷ xs) (y ∷ ys) f = (l ++ (f 0 x y refl refl).more) ∷ with_more lists xs ys (λ p a b e h. f (suc p) a b e h)
  with_more [] xs ys f = []
  with_more (l ∷ lists) [] ys f = []
  with_more (l ∷ lists) (x ∷ xs) [] f = []

  more_count : (lists : List (List Sample)) (xs ys : List (InletView S)) (f : AreFilled xs ys) → length xs ≡ length lists → length ys ≡ length lists → length (with_more lists xs ys f) ≡ length lists
  more_count [] xs ys f a b = refl
  more_count (l ∷ lists) [] ys f a b = absurd (omega (arith, a))
  more_count (l ∷ lists) (x ∷ xs) [] f a b = absurd (omega (arith, b))
  more_count (l ∷ lists) (x ∷ xs) (y ∷ ys) f a b = ap suc (more_count lists xs ys (λ p c d e h. f (suc p) c d e h) (omega (arith, a)) (omega (arith, b)))

  more_at : (lists : List (List Sample)) (xs ys : List (InletView S)) (f : AreFilled xs ys) (p : ℕ) (new : List Sample) → slice_get (with_more lists xs ys f) p ≡ Some new
      → (l : List Sample) × (x : InletView S) × (y : InletView S) × (slice_get lists p ≡ Some l) × (slice_get xs p ≡ Some x) × (slice_get ys p ≡ Some y)
      × (k : IsFilled left_of faults_of mark_of batch x y) × (new ≡ l ++ k.more)
  more_at [] xs ys f p new e = absurd cc
  more_at (l ∷ lists) [] ys f p new e = absurd cc
  more_at (l ∷ lists) (x ∷ xs) [] f p new e = absurd cc
  more_at (l ∷ lists) (x ∷ xs) (y ∷ ys) f zero new e = (l, x, y, refl, refl, refl, f 0 x y refl refl, sym (cc e))
  more_at (l ∷ lists) (x ∷ xs) (y ∷ ys) f (suc p) new e = more_at lists xs ys (λ q a b c d. f (suc q) a b c d) p new e

  module _ (ring turns : ℕ) (streams : List StreamDoc) (feeds : List (FeedSource S)) (base held : Option (List ℕ)) (desk : DeskState) (lists : List (List Sample)) (xs ys : List (InletView S))
      (low : 1 ≤ ring) (some : 1 ≤ batch) (k : AreTurned left_of faults_of mark_of ring batch turns streams feeds base held desk lists xs) (count : length ys ≡ length xs) (f : AreFilled xs ys) where
    abbrev pub new_lists : List (List Sample)
    new_lists = with_more lists xs ys f

    list_count : length new_lists ≡ length lists
    list_count = more_count lists xs ys f (k.inlet_count ∙ sym k.list_count) (count ∙ k.inlet_count ∙ sym k.list_count)

    pub all_waiting : AreWaitingAll desk ys
    all_waiting p y e =
        let within = slice_get_within ys p y e in
        let s = item_at streams p (omega (arith, within, count, k.inlet_count)) in
        let d = item_at feeds p (omega (arith, within, count, k.inlet_count, k.feed_count)) in
        let l = item_at lists p (omega (arith, within, count, k.inlet_count, k.list_count)) in
        let x = item_at xs p (omega (arith, within, count)) in
        let turned = k.each p s.0 d.0 l.0 x.0 s.1 d.1 l.1 x.1 in
        let filled = f p x.0 y x.1 e in
        let same : s.0.shape ≡ y.inlet.shape = sym (filled.shape ∙ turned.shape) in (
          ap (λ (shapes : List Shape). slice_get shapes p) k.shapes ∙ map_at (λ (t : StreamDoc). t.shape) streams p s.0 s.1 ∙ ap Some same,
          subst (λ (shape : Shape). AreWaiting shape (next_at desk p) y) same
              (waiting left_of faults_of mark_of ring batch turns s.0 d.0 l.0 x.0 y y low some turned filled (next_at desk p) (k.next p x.0 x.1)),
        )

    -- feeds of numbers stay feeds of numbers
    pub numeric_filled : AreNumeric xs → AreNumeric ys
    numeric_filled numeric p y e =
        let x = item_at xs p (omega (arith, slice_get_within ys p y e, count)) in
        subst (λ (shape : Shape). 1 ≤ size_of shape.format) (sym (f p x.0 y x.1 e).shape) (numeric p x.0 x.1)

    -- what stands at a place
    new_at : (p : ℕ) (new : List Sample) → slice_get new_lists p ≡ Some new → (l : List Sample) × (x : InletView S) × (y : InletView S) × (slice_get lists p ≡ Some l) × (slice_get xs p ≡ Some x)
        × (slice_get ys p ≡ Some y) × (g : IsFilled left_of faults_of mark_of batch x y) × (new ≡ l ++ g.more)
        × (s : StreamDoc) × (d : FeedSource S) × (slice_get streams p ≡ Some s) × (slice_get feeds p ≡ Some d) × IsTurned left_of faults_of mark_of ring batch turns s d l x
    new_at p new e =
        let m = more_at lists xs ys f p new e in
        let within = slice_get_within xs p m.1 m.4 in
        let s = item_at streams p (omega (arith, within, k.inlet_count)) in
        let d = item_at feeds p (omega (arith, within, k.inlet_count, k.feed_count)) in
        (m.0, m.1, m.2, m.3, m.4, m.5, m.6, m.7, s.0, d.0, s.1, d.1, k.each p s.0 d.0 m.0 m.1 s.1 d.1 m.3 m.4)

    are_grown : AreGrown batch turns lists new_lists
    are_grown = record {
      count = list_count;
      each = λ p old new e h.
          let m = new_at p new h in
          let same : m.0 ≡ old = cc (m.3, e) in
          let g = grown left_of faults_of mark_of ring batch turns m.8 m.9 m.0 m.1 m.2 m.2 low some m.12 m.6 in
          (m.6.more, m.7 ∙ ap (λ (l : List Sample). l ++ m.6.more) same, subst (λ (l : List Sample). HasGrown batch turns l m.6.more) same g);
    }

    -- so the batches that wait are those of this turn
    pub batches_are : first_turns ring batch lists turns ++ waiting_batches 0 ys ≡ first_turns ring batch new_lists (suc turns)
    batches_are =
        let same = turns_same ring batch turns turns lists new_lists some (omega arith) are_grown in
        let now = waiting_is_turn ring batch turns 0 ys new_lists (list_count ∙ k.list_count ∙ sym k.inlet_count ∙ sym count) (λ p y l e h.
        let m = new_at p l h in
        let is : m.2 ≡ y = cc (m.5, e) in
        subst (λ (v : InletView S). map ring_entry v.ring.queue ≡ kept_in ring batch turns l) is
        (queue_kept left_of faults_of mark_of ring batch turns m.8 m.9 m.0 m.1 m.2 m.2 low some m.12 m.6 ∙ ap (kept_in ring batch turns) (sym m.7))) in
        ap (λ (bs : List Batch). bs ++ waiting_batches 0 ys) (sym same) ∙ ap (λ (bs : List Batch). first_turns ring batch new_lists turns ++ bs) now

    pub all_turned : (zs : List (InletView S)) (held' : Option (List ℕ)) (desk' : DeskState) → length zs ≡ length ys
        → ((p : ℕ) (y z : InletView S) → slice_get ys p ≡ Some y → slice_get zs p ≡ Some z → IsDrained y z)
        → StandsFor streams base held' desk' (first_turns ring batch lists turns ++ waiting_batches 0 ys) None
        → ((p : ℕ) (y : InletView S) → slice_get ys p ≡ Some y → next_at desk' p ≤ y.ring.pushes) → shapes_of desk' ≡ shapes_of desk
        → AreTurned left_of faults_of mark_of ring batch (suc turns) streams feeds base held' desk' new_lists zs
    all_turned zs held' desk' count' drained stands next shapes = record {
      feed_count = k.feed_count;
      list_count = list_count ∙ k.list_count;
      inlet_count = count' ∙ count ∙ k.inlet_count;
      written = subst (λ (bs : List Batch). IsClosed streams base held' desk' bs) batches_are stands;
      next = λ p z e.
          let y = item_at ys p (let w = slice_get_within zs p z e in omega (arith, w, count')) in
          let d = drained p y.0 z y.1 e in
          omega (arith, next p y.0 y.1, d.pushes);
      shapes = shapes ∙ k.shapes;
      each = λ p s d l z es ed el ez.
          let m = new_at p l el in
          let same_s : m.8 ≡ s = cc (m.10, es) in
          let same_d : m.9 ≡ d = cc (m.11, ed) in
          let one = turned left_of faults_of mark_of ring batch turns m.8 m.9 m.0 m.1 m.2 z low some m.12 m.6 (drained p m.2 z m.5 ez) in
          subst (λ (t : List Sample). IsTurned left_of faults_of mark_of ring batch (suc turns) s d t z) (sym m.7)
          (subst (λ (t : StreamDoc). IsTurned left_of faults_of mark_of ring batch (suc turns) t d (m.0 ++ m.6.more) z) same_s
          (subst (λ (t : FeedSource S). IsTurned left_of faults_of mark_of ring batch (suc turns) m.8 t (m.0 ++ m.6.more) z) same_d one));
    }
