-- What a turn that was cut off has written.
use Rattle.std.proofs.Common.{◌≡◌, ◌≢◌, ◌⊎◌, inl, inr, Bool, ℕ, zero, suc, ◌+◌, ◌<◌, ◌≤◌, List, [], ◌∷◌, ◌++◌, map, take, drop, slice_get, Option, None, Some, Result, Ok, Err, refl, sym, ap, ◌∙◌, subst, append_assoc, arith}
use Rattle.std.specs.Prelude.{OnErr}
use Rattle.std.proofs.lemmas.Bool.{ne_eqb}
use Rattle.std.proofs.lemmas.List.{append-nil}
use Rattle.xdf_model.specs.Sample.{Sample}
use Rattle.ring_model.specs.declared.entry.Entry.{Entry as RingEntry}
use Rattle.recording_model.specs.declared.stream.StreamDoc.{StreamDoc}
use Rattle.recording_model.specs.Batch.{Entry, Batch}
use Rattle.turns_model.specs.Turns.{batch_of}
use Rattle.loss_model.specs.Loss.{entries_at}
use Rattle.record_writer.specs.declared.fault.WriterFault.{WriterFault}
use Rattle.record_writer.specs.Desk.{DeskState}
use Rattle.record_writer.specs.Standing.{StandsFor, IsCut, closed}
use Rattle.run_model.specs.Putting.{AreFirst, IsCutAt}
use Rattle.run_model.specs.Rings.{ring_entry}
use Rattle.run_model.proofs.Batches.{open_of, closed_all, entries_append}
use Rattle.run_model.proofs.Lists.{cons_of, same_or}
use Rattle.record_run.specs.Inlets.{InletView, waiting_batches}
use Rattle.record_run.specs.Cutting.{IsCutQueues}
use Rattle.record_run.proofs.Beside.{entries_own}
use Rattle.record_run.proofs.Draining.{Draining}

-- ---- the entries of a batch

entries_apart : (p place : ℕ) (es : List Entry) → p ≢ place → entries_at p (batch_of place es) ≡ []
entries_apart p place [] ne = refl
entries_apart p place (e ∷ es) ne = let apart = ne_eqb place p (λ h. ne (sym h)) in rw apart refl

entries_open : (place : ℕ) (batches : List Batch) (put : List Entry) → entries_at place (closed batches (open_of place put)) ≡ entries_at place batches ++ put
entries_open place batches put =
    ap (entries_at place) (closed_all place batches put)
    ∙ entries_append place batches (batch_of place put)
    ∙ ap (λ (l : List Entry). entries_at place batches ++ l) (entries_own place put)

entries_open_else : (p place : ℕ) (batches : List Batch) (put : List Entry) → p ≢ place → entries_at p (closed batches (open_of place put)) ≡ entries_at p batches
entries_open_else p place batches put ne =
    ap (entries_at p) (closed_all place batches put)
    ∙ entries_append p batches (batch_of place put)
    ∙ ap (λ (l : List Entry). entries_at p batches ++ l) (entries_apart p place put ne)
    ∙ append-nil (entries_at p batches)

-- ---- one put

-- more wait behind the entry that was to be put
pub cut_longer : (place : ℕ) (e : RingEntry Sample) (queue : List (RingEntry Sample)) (before some : List Batch) → slice_get queue 0 ≡ Some e → IsCutAt place [] (e ∷ []) before some
    → IsCutAt place [] queue before some
cut_longer place e queue before some oldest k =
    let rest = map ring_entry (drop 1 queue) in
    record {
      put = k.put;
      left = k.left ++ rest;
      taken = ap (map ring_entry) (cons_of queue e oldest) ∙ ap (λ (l : List Entry). l ++ rest) k.taken ∙ append_assoc k.put k.left rest;
      here = k.here;
      others = k.others;
    }

-- ---- the entries of a ring

-- these were put before
cut_behind : {S : Type 0} (place : ℕ) (x now : InletView S) (put : List Entry) (batches some : List Batch) → map ring_entry x.ring.queue ≡ put ++ map ring_entry now.ring.queue
    → IsCutAt place [] now.ring.queue (closed batches (open_of place put)) some → IsCutAt place [] x.ring.queue batches some
cut_behind place x now put batches some parts k = record {
  put = put ++ k.put;
  left = k.left;
  taken = parts ∙ ap (λ (l : List Entry). put ++ l) k.taken ∙ sym (append_assoc put k.put k.left);
  here = k.here ∙ ap (λ (l : List Entry). l ++ k.put) (entries_open place batches put) ∙ append_assoc (entries_at place batches) put k.put;
  others = λ p ne. k.others p ne ∙ entries_open_else p place batches put ne;
}

-- a put fails
pub cut_one : {S : Type 0} (place : ℕ) (x now : InletView S) (before mid : DeskState) (base_held held_mid held : Option (List ℕ)) (r : Result Bool WriterFault) (e : WriterFault) → r ≡ Err e
    → Draining place x now before mid base_held held_mid
    → ((streams : List StreamDoc) (base : Option (List ℕ)) (batches : List Batch) (current : Option Batch) → StandsFor streams base held_mid mid batches current
    → OnErr r ((some : List Batch) × IsCut streams base held some × IsCutAt place [] now.ring.queue (closed batches current) some))
    → (streams : List StreamDoc) (base : Option (List ℕ)) (batches : List Batch) → StandsFor streams base base_held before batches None
    → (some : List Batch) × IsCut streams base held some × IsCutAt place [] x.ring.queue batches some
cut_one place x now before mid base_held held_mid held r e is d cut streams base batches st =
    let current = open_of place d.put in
    let P : Result Bool WriterFault → Type 0 = λ o. OnErr o ((some : List Batch) × IsCut streams base held some × IsCutAt place [] now.ring.queue (closed batches current) some) in
    let k = subst P is (cut streams base batches current (d.stands streams base batches st)) in
    (k.0, k.1, cut_behind place x now d.put batches k.0 d.parts k.2)

-- all were put, and the batch can't be closed
pub cut_so : {S : Type 0} (place : ℕ) (x now : InletView S) (before after : DeskState) (base_held held_mid held : Option (List ℕ)) (r : Result (Unit {0}) WriterFault)
    → Draining place x now before after base_held held_mid → now.ring.queue ≡ []
    → ((streams : List StreamDoc) (base : Option (List ℕ)) (batches : List Batch) (current : Option Batch) → StandsFor streams base held_mid after batches current → OnErr r (IsCut streams base held (closed batches current)))
    → (streams : List StreamDoc) (base : Option (List ℕ)) (batches : List Batch) → StandsFor streams base base_held before batches None
    → OnErr r ((some : List Batch) × IsCut streams base held some × IsCutAt place [] x.ring.queue batches some)
cut_so place x now before after base_held held_mid held (Ok v) d none cuts streams base batches st = tt
cut_so place x now before after base_held held_mid held (Err e) d none cuts streams base batches st =
    let current = open_of place d.put in (
      closed batches current,
      cuts streams base batches current (d.stands streams base batches st),
      record {
        put = d.put;
        left = [];
        taken = d.parts ∙ ap (λ (l : List (RingEntry Sample)). d.put ++ map ring_entry l) none;
        here = entries_open place batches d.put;
        others = λ p ne. entries_open_else p place batches d.put ne;
      },
    )

-- ---- the rings of all inlets

waiting_behind : {S : Type 0} (p n : ℕ) (xs : List (InletView S)) → p < n → entries_at p (waiting_batches n xs) ≡ []
waiting_behind p n [] low = refl
waiting_behind p n (x ∷ xs) low =
    let own = map ring_entry x.ring.queue in
    entries_append p (batch_of n own) (waiting_batches (n + 1) xs)
    ∙ ap (λ (l : List Entry). l ++ entries_at p (waiting_batches (n + 1) xs)) (entries_apart p n own (λ h. omega (arith, h, low)))
    ∙ waiting_behind p (n + 1) xs (omega (arith, low))

waiting_before : {S : Type 0} (p n m : ℕ) (xs : List (InletView S)) → n + m ≤ p → entries_at p (waiting_batches n (take m xs)) ≡ []
waiting_before p n zero xs high = refl
waiting_before p n (suc m) [] high = refl
waiting_before p n (suc m) (x ∷ xs) high =
    let own = map ring_entry x.ring.queue in
    let rest = waiting_batches (n + 1) (take m xs) in
    entries_append p (batch_of n own) rest
    ∙ ap (λ (l : List Entry). l ++ entries_at p rest) (entries_apart p n own (λ h. omega (arith, h, high)))
    ∙ waiting_before p (n + 1) m xs (omega (arith, high))

waiting_here : {S : Type 0} (p n m : ℕ) (xs : List (InletView S)) (x : InletView S) → slice_get xs p ≡ Some x → p < m → entries_at (n + p) (waiting_batches n (take m xs)) ≡ map ring_entry x.ring.queue
waiting_here p n zero xs x at low = absurd (omega (arith, low))
waiting_here p n (suc m) [] x at low = absurd cc
waiting_here {S = S} zero n (suc m) (y ∷ xs) x at low =
    let same : y ≡ x = cc at in
    let own = map ring_entry y.ring.queue in
    let rest = waiting_batches (n + 1) (take m xs) in
    let one : n + 0 ≡ n = omega arith in
    ap (λ (q : ℕ). entries_at q (batch_of n own ++ rest)) one
    ∙ entries_append n (batch_of n own) rest
    ∙ ap (λ (l : List Entry). l ++ entries_at n rest) (entries_own n own)
    ∙ ap (λ (l : List Entry). own ++ l) (waiting_behind n (n + 1) (take m xs) (omega arith))
    ∙ append-nil own ∙ ap (λ (z : InletView S). map ring_entry z.ring.queue) same
waiting_here (suc p) n (suc m) (y ∷ xs) x at low =
    let own = map ring_entry y.ring.queue in
    let rest = waiting_batches (n + 1) (take m xs) in
    let one : n + suc p ≡ (n + 1) + p = omega arith in
    entries_append (n + suc p) (batch_of n own) rest
    ∙ ap (λ (l : List Entry). l ++ entries_at (n + suc p) rest) (entries_apart (n + suc p) n own (λ h. omega (arith, h)))
    ∙ ap (λ (q : ℕ). entries_at q rest) one ∙ waiting_here p (n + 1) m xs x at (omega (arith, low))

less_or : (p q : ℕ) → p ≢ q → (p < q) ⊎ (q < p)
less_or zero zero ne = absurd (ne refl)
less_or zero (suc q) ne = inl (omega arith)
less_or (suc p) zero ne = inr (omega arith)
less_or (suc p) (suc q) ne = elim (less_or p q (λ h. ne (ap suc h))) [ inl low ↦ inl (omega (arith, low)) | inr high ↦ inr (omega (arith, high)) ]

-- the rings before that at the place were written, those behind it weren't
module _ {S : Type 0} (xs : List (InletView S)) (batches some : List Batch) (place : ℕ) where
  abbrev before : List Batch
  before = batches ++ waiting_batches 0 (take place xs)

  first_here : (x : InletView S) → IsCutAt place [] x.ring.queue before some → AreFirst (entries_at place some) (entries_at place batches ++ map ring_entry x.ring.queue)
  first_here x k =
      let old = entries_at place batches in
      let none = waiting_before place 0 place xs (omega arith) in
      let is : entries_at place some ≡ old ++ k.put =
      k.here ∙ ap (λ (l : List Entry). l ++ k.put) (entries_append place batches (waiting_batches 0 (take place xs)) ∙ ap (λ (l : List Entry). old ++ l) none ∙ append-nil old) in
      (k.left, ap (λ (l : List Entry). old ++ l) k.taken ∙ sym (append_assoc old k.put k.left) ∙ ap (λ (l : List Entry). l ++ k.left) (sym is))

  first_else : (p : ℕ) (y : InletView S) → slice_get xs p ≡ Some y → entries_at p some ≡ entries_at p before → (p < place) ⊎ (place < p)
      → AreFirst (entries_at p some) (entries_at p batches ++ map ring_entry y.ring.queue)
  first_else p y at is (inl low) =
      let old = entries_at p batches in
      let all = old ++ map ring_entry y.ring.queue in
      let whole : entries_at p some ≡ all = is ∙ entries_append p batches (waiting_batches 0 (take place xs)) ∙ ap (λ (l : List Entry). old ++ l) (from_zero ∙ waiting_here p 0 place xs y at low) in
      ([], sym (append-nil all) ∙ ap (λ (l : List Entry). l ++ []) (sym whole))
    where
      from_zero : entries_at p (waiting_batches 0 (take place xs)) ≡ entries_at (0 + p) (waiting_batches 0 (take place xs))
      from_zero = ap (λ (q : ℕ). entries_at q (waiting_batches 0 (take place xs))) (omega arith)
  first_else p y at is (inr high) =
      let old = entries_at p batches in
      let none = waiting_before p 0 place xs (omega (arith, high)) in
      let same : entries_at p some ≡ old = is ∙ entries_append p batches (waiting_batches 0 (take place xs)) ∙ ap (λ (l : List Entry). old ++ l) none ∙ append-nil old in
      (map ring_entry y.ring.queue, ap (λ (l : List Entry). l ++ map ring_entry y.ring.queue) (sym same))

  pub cut_queues : (streams : List StreamDoc) (base held : Option (List ℕ)) (x : InletView S) → slice_get xs place ≡ Some x → IsCut streams base held some → IsCutAt place [] x.ring.queue before some
      → IsCutQueues streams base held xs batches
  cut_queues streams base held x at cut k = record {
    some = some;
    cut = cut;
    each = λ p y there. elim (same_or p place) [
      | inl same ↦ let is : x ≡ y = cc (at, there, same) in
          subst (λ (q : ℕ). AreFirst (entries_at q some) (entries_at q batches ++ map ring_entry y.ring.queue)) (sym same)
          (subst (λ (z : InletView S). AreFirst (entries_at place some) (entries_at place batches ++ map ring_entry z.ring.queue)) is (first_here x k))
      | inr ne ↦ first_else p y there (k.others p ne) (less_or p place ne)
    ];
  }
