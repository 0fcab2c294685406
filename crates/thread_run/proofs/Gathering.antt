-- Entries of a lane, as they are taken one after the other and go to the writer.
use Rattle.std.proofs.Common.{◌≡◌, ◌≢◌, ℕ, ◌+◌, ◌≤◌, inl, inr, false, List, [], ◌∷◌, ◌++◌, length, map, if◌then◌else◌, Option, None, refl, sym, ap, ◌∙◌, subst, append_assoc, arith, length-append}
use Rattle.std.specs.Prelude.{slice_get, min}
use Rattle.std.specs.List.{AllByRecursion}
use Rattle.std.proofs.lemmas.Bool.{eq-eqb, ne_eqb}
use Rattle.std.proofs.lemmas.Bool.Decides.{nat_tests}
use Rattle.std.proofs.lemmas.List.{append-nil, map-append, length-map}
use Rattle.xdf_model.specs.Sample.{Sample}
use Rattle.ring_model.specs.declared.entry.Entry.{Entry as RingEntry}
use Rattle.recording_model.specs.declared.stream.StreamDoc.{StreamDoc}
use Rattle.recording_model.specs.Batch.{Entry, Batch}
use Rattle.turns_model.specs.Turns.{batch_of}
use Rattle.loss_model.specs.Loss.{entries_at, behind_last}
use Rattle.record_writer.specs.declared.place.Place.{Place}
use Rattle.record_writer.specs.Desk.{DeskState, next_in, next_at, shapes_of}
use Rattle.record_writer.specs.Standing.{StandsFor, closed}
use Rattle.run_model.specs.Rings.{ring_entry}
use Rattle.run_model.specs.Putting.{IsOnePut, IsCutAt}
use Rattle.run_model.proofs.Batches.{open_of, open_more, closed_all, entries_append}
use Rattle.thread_run.specs.Lanes.{AreGathered, AreShortOf, AreWritten, Counts}

-- ---- the position behind the last entry

pub behind_more : (xs : List Entry) (e : Entry) → behind_last (xs ++ e ∷ []) ≡ e.position + 1
behind_more [] e = refl
behind_more (x ∷ []) e = refl
behind_more (x ∷ y ∷ xs) e = behind_more (y ∷ xs) e

entries_here : (place : ℕ) (put : List Entry) → entries_at place (batch_of place put) ≡ put
entries_here place [] = refl
entries_here place (e ∷ more) =
    let test = eq-eqb place place refl in
    ap (λ (b : _). (if b then e ∷ more else []) ++ []) test ∙ append-nil (e ∷ more)

short_one : (batch place : ℕ) (put : List Entry) → length put ≤ batch → AreShortOf batch place (batch_of place put)
short_one batch place [] le = tt
short_one batch place (e ∷ more) le = ((refl, le), tt)

-- batches of a place have nothing of another
pub other_none : (batch place p : ℕ) (bs : List Batch) → p ≢ place → AreShortOf batch place bs → entries_at p bs ≡ []
other_none batch place p [] ne short = refl
other_none batch place p (b ∷ bs) ne short =
    let test = ne_eqb b.place p (λ h. ne (sym h ∙ short.0.0)) in
    rw test (other_none batch place p bs ne short.1)

-- ---- the batch

pub gathered_none : (place : ℕ) (taken : List (RingEntry Sample)) (desk : DeskState) (held : Option (List ℕ)) → desk.count ≡ 0 → desk.broken ≡ false → next_at desk place ≡ behind_last (map ring_entry taken)
    → AreGathered place 0 taken taken desk desk held held
gathered_none place taken desk held count whole next = record {
  put = [];
  count = refl;
  taken = sym (append-nil (map ring_entry taken));
  stands = λ streams base batches st. st;
  free = inl count;
  whole = whole;
  next_here = next;
  next_else = λ p ne. refl;
  shapes = refl;
}

pub gathered_more : (place n : ℕ) (first now next : List (RingEntry Sample)) (before mid after : DeskState) (base_held held_mid held : Option (List ℕ)) (e : RingEntry Sample)
    → AreGathered place n first now before mid base_held held_mid → next ≡ now ++ e ∷ [] → IsOnePut place e.position e.value mid after held_mid held
    → AreGathered place (n + 1) first next before after base_held held
gathered_more place n first now next before mid after base_held held_mid held e d is o =
    let entry : Entry = ring_entry e in
    let all : map ring_entry next ≡ map ring_entry now ++ entry ∷ [] = ap (map ring_entry) is ∙ map-append ring_entry now (e ∷ []) in
    record {
      put = d.put ++ entry ∷ [];
      count = omega (arith, length-append d.put (entry ∷ []), d.count);
      taken = all ∙ ap (λ (l : List Entry). l ++ entry ∷ []) d.taken ∙ append_assoc (map ring_entry first) d.put (entry ∷ []);
      stands = λ streams base batches st.
          subst (StandsFor streams base held after batches) (open_more place e.position e.value d.put) (o.put streams base batches (open_of place d.put) (d.stands streams base batches st));
      free = inr o.place_is;
      whole = o.whole;
      next_here =
          let here : next_at after place ≡ e.position + 1 = let k = o.next place in grind (arith, nat_tests) in
          here ∙ sym (ap behind_last all ∙ behind_more (map ring_entry now) entry);
      next_else = λ p ne. let k = o.next p in let l = d.next_else p ne in grind (arith, nat_tests);
      shapes = o.shapes ∙ d.shapes;
    }

-- nothing more was taken
pub gathered_same : (place n : ℕ) (first now next : List (RingEntry Sample)) (before mid after : DeskState) (base_held held_mid held : Option (List ℕ))
    → AreGathered place n first now before mid base_held held_mid → next ≡ now → after ≡ mid → held ≡ held_mid → AreGathered place n first next before after base_held held
gathered_same place n first now next before mid after base_held held_mid held d a b c =
    subst (λ (l : List (RingEntry Sample)). AreGathered place n first l before after base_held held) (sym a)
    (subst (λ (t : DeskState). AreGathered place n first now before t base_held held) (sym b)
    (subst (λ (h : Option (List ℕ)). AreGathered place n first now before mid base_held h) (sym c) d))

-- the batch was closed
pub record IsClosing (before after : DeskState) (held_before held : Option (List ℕ)) : Type 0 where
  pub closed_so : (streams : List StreamDoc) (base : Option (List ℕ)) (batches : List Batch) (current : Option Batch) → StandsFor streams base held_before before batches current → StandsFor streams base held after (closed batches current) None
  pub next : (p : ℕ) → next_at after p ≡ next_at before p
  pub shapes : shapes_of after ≡ shapes_of before
  pub none : after.count ≡ 0
  pub whole : after.broken ≡ false

pub closing : (before after : DeskState) (held_before held : Option (List ℕ))
    → ((streams : List StreamDoc) (base : Option (List ℕ)) (batches : List Batch) (current : Option Batch) → StandsFor streams base held_before before batches current → StandsFor streams base held after (closed batches current) None)
    → after.places ≡ before.places → after.count ≡ 0 → after.broken ≡ false → IsClosing before after held_before held
closing before after held_before held so places none whole = record {
  closed_so = so;
  next = λ p. ap (λ (l : List Place). next_in (slice_get l p)) places;
  shapes = ap (λ (l : List Place). map (λ (x : Place). x.shape) l) places;
  none = none;
  whole = whole;
}

pub written_one : (place n batch : ℕ) (first now : List (RingEntry Sample)) (before mid after : DeskState) (base_held held_mid held : Option (List ℕ)) → n ≤ batch
    → AreGathered place n first now before mid base_held held_mid → IsClosing mid after held_mid held → AreWritten batch place first now before after base_held held
written_one place n batch first now before mid after base_held held_mid held le d k = record {
  bs = batch_of place d.put;
  short = short_one batch place d.put (omega (arith, d.count, le));
  taken = d.taken ∙ ap (λ (l : List Entry). map ring_entry first ++ l) (sym (entries_here place d.put));
  put = λ streams base batches st.
      subst (λ (bs : List Batch). StandsFor streams base held after bs None) (closed_all place batches d.put) (k.closed_so streams base batches (open_of place d.put) (d.stands streams base batches st));
  next_here = k.next place ∙ d.next_here;
  next_else = λ p ne. k.next p ∙ d.next_else p ne;
  shapes = k.shapes ∙ d.shapes;
  closed = k.none;
  whole = k.whole;
}

-- so many more were taken and counted
pub counted_more : (place n old new : ℕ) (first now : List (RingEntry Sample)) (before after : DeskState) (base_held held : Option (List ℕ)) → AreGathered place n first now before after base_held held
    → Counts old first → new ≡ min (old + n) 18_446_744_073_709_551_615 → Counts new now
counted_more place n old new first now before after base_held held d counts is =
    let long = ap length d.taken in
    let parts = length-append (map ring_entry first) d.put in
    omega (arith, long, parts, length-map now ring_entry, length-map first ring_entry, d.count, counts, is)

-- ---- one batch behind others

pub all_append : {A : Type 0} (P : A → Type 0) (xs ys : List A) → AllByRecursion P xs → AllByRecursion P ys → AllByRecursion P (xs ++ ys)
all_append P [] ys a b = b
all_append P (x ∷ xs) ys a b = (a.0, all_append P xs ys a.1 b)

pub written_none : (batch place : ℕ) (taken : List (RingEntry Sample)) (desk : DeskState) (held : Option (List ℕ)) → desk.count ≡ 0 → desk.broken ≡ false → next_at desk place ≡ behind_last (map ring_entry taken)
    → AreWritten batch place taken taken desk desk held held
written_none batch place taken desk held count whole next = record {
  bs = [];
  short = tt;
  taken = sym (append-nil (map ring_entry taken));
  put = λ streams base batches st. subst (λ (bs : List Batch). StandsFor streams base held desk bs None) (sym (append-nil batches)) st;
  next_here = next;
  next_else = λ p ne. refl;
  shapes = refl;
  closed = count;
  whole = whole;
}

pub written_more : (batch place : ℕ) (first now next : List (RingEntry Sample)) (before mid after : DeskState) (base_held held_mid held : Option (List ℕ))
    → AreWritten batch place first now before mid base_held held_mid → AreWritten batch place now next mid after held_mid held → AreWritten batch place first next before after base_held held
written_more batch place first now next before mid after base_held held_mid held a b = record {
  bs = a.bs ++ b.bs;
  short = all_append (λ (x : Batch). (x.place ≡ place) × (length x.entries ≤ batch)) a.bs b.bs a.short b.short;
  taken = b.taken ∙ ap (λ (l : List Entry). l ++ entries_at place b.bs) a.taken ∙ append_assoc (map ring_entry first) (entries_at place a.bs) (entries_at place b.bs)
      ∙ ap (λ (l : List Entry). map ring_entry first ++ l) (sym (entries_append place a.bs b.bs));
  put = λ streams base batches st.
      subst (λ (bs : List Batch). StandsFor streams base held after bs None) (append_assoc batches a.bs b.bs) (b.put streams base (batches ++ a.bs) (a.put streams base batches st));
  next_here = b.next_here;
  next_else = λ p ne. b.next_else p ne ∙ a.next_else p ne;
  shapes = b.shapes ∙ a.shapes;
  closed = b.closed;
  whole = b.whole;
}

-- ---- where the writer failed

-- behind batches of the place that were all of what had been taken before
pub cut_over : (batch place : ℕ) (first mid now : List (RingEntry Sample)) (bs batches some : List Batch) → AreShortOf batch place bs → map ring_entry mid ≡ map ring_entry first ++ entries_at place bs
    → IsCutAt place mid now (batches ++ bs) some → IsCutAt place first now batches some
cut_over batch place first mid now bs batches some short taken k =
    let put = entries_at place bs in
    record {
      put = put ++ k.put;
      left = k.left;
      taken = k.taken ∙ ap (λ (l : List Entry). l ++ (k.put ++ k.left)) taken ∙ append_assoc (map ring_entry first) put (k.put ++ k.left) ∙ ap (λ (l : List Entry). map ring_entry first ++ l) (sym (append_assoc put k.put k.left));
      here = k.here ∙ ap (λ (l : List Entry). l ++ k.put) (entries_append place batches bs) ∙ append_assoc (entries_at place batches) put k.put;
      others = λ p ne. k.others p ne ∙ entries_append p batches bs ∙ ap (λ (l : List Entry). entries_at p batches ++ l) (other_none batch place p bs ne short) ∙ append-nil (entries_at p batches);
    }

-- so it is where these are the open batch
pub cut_open : (place : ℕ) (first mid now : List (RingEntry Sample)) (put : List Entry) (batches some : List Batch) → map ring_entry mid ≡ map ring_entry first ++ put
    → IsCutAt place mid now (closed batches (open_of place put)) some → IsCutAt place first now batches some
cut_open place first mid now put batches some taken k =
    cut_over (length put) place first mid now (batch_of place put) batches some (short_one (length put) place put (omega arith)) (taken ∙ ap (λ (l : List Entry). map ring_entry first ++ l) (sym (entries_here place put)))
    (subst (λ (bs : List Batch). IsCutAt place mid now bs some) (closed_all place batches put) k)

-- all that was taken is in the batches
pub cut_all : (place : ℕ) (first now : List (RingEntry Sample)) (put : List Entry) (batches : List Batch) → map ring_entry now ≡ map ring_entry first ++ put → IsCutAt place first now batches (closed batches (open_of place put))
cut_all place first now put batches taken = cut_open place first now now put batches (closed batches (open_of place put)) taken (record {
  put = [];
  left = [];
  taken = sym (append-nil (map ring_entry now));
  here = sym (append-nil (entries_at place (closed batches (open_of place put))));
  others = λ p ne. refl;
})
