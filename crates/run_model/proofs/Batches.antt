-- The open batch of a writer, and what a writer that failed has written.
use Rattle.std.proofs.Common.{◌≡◌, ◌≢◌, ℕ, zero, suc, ◌==◌, List, [], ◌∷◌, ◌++◌, map, slice_get, Option, None, Some, if◌then◌else◌, inl, inr, refl, sym, ap, ◌∙◌, subst, append_assoc, arith}
use Rattle.std.proofs.lemmas.Bool.{eq-eqb, ne_eqb}
use Rattle.std.proofs.lemmas.List.{append-nil, map-append}
use Rattle.xdf_model.specs.declared.types.Shape.{Shape}
use Rattle.xdf_model.specs.Sample.{Sample}
use Rattle.ring_model.specs.declared.entry.Entry.{Entry as RingEntry}
use Rattle.recording_model.specs.declared.stream.StreamDoc.{StreamDoc}
use Rattle.recording_model.specs.Batch.{Entry, Batch}
use Rattle.turns_model.specs.Turns.{batch_of}
use Rattle.loss_model.specs.Loss.{entries_at}
use Rattle.record_writer.specs.declared.place.Place.{Place}
use Rattle.record_writer.specs.declared.fault.WriterFault.{WriterFault}
use Rattle.record_writer.specs.declared.fault.WriterFault.TheVariants as fault
use Rattle.record_writer.specs.Desk.{DeskState, IsFreeFor}
use Rattle.record_writer.specs.Standing.{StandsFor, IsOpen, IsCut, closed, with_entry}
use Rattle.record_writer.proofs.Stopped.{stands_cut}
use Rattle.run_model.specs.Putting.{IsCutAt}
use Rattle.run_model.specs.Rings.{ring_entry}

-- ---- the batch

-- the open batch of these entries; none where there are none
abbrev pub open_of : ℕ → List Entry → Option Batch
open_of place [] = None
open_of place (e ∷ more) = Some (record { place = place; entries = e ∷ more })

pub open_more : (place position : ℕ) (s : Sample) (put : List Entry) → Some (with_entry place (open_of place put) position s) ≡ open_of place (put ++ record { position = position; sample = s } ∷ [])
open_more place position s [] = refl
open_more place position s (e ∷ more) = refl

pub closed_all : (place : ℕ) (batches : List Batch) (put : List Entry) → closed batches (open_of place put) ≡ batches ++ batch_of place put
closed_all place batches [] = sym (append-nil batches)
closed_all place batches (e ∷ more) = refl

-- ---- what a put asks for

pub place_at : (places : List Place) (p : ℕ) (shape : Shape) → slice_get (map (λ (x : Place). x.shape) places) p ≡ Some shape → (x : Place) × (slice_get places p ≡ Some x) × (x.shape ≡ shape)
place_at [] p shape e = absurd cc
place_at (x ∷ places) zero shape e = (x, refl, cc)
place_at (x ∷ places) (suc p) shape e = place_at places p shape e

-- ---- what a put that failed leaves

pub entries_append : (place : ℕ) (xs ys : List Batch) → entries_at place (xs ++ ys) ≡ entries_at place xs ++ entries_at place ys
entries_append place [] ys = refl
entries_append place (b ∷ xs) ys =
    let own : List Entry = if b.place == place then b.entries else [] in
    ap (λ (l : List Entry). own ++ l) (entries_append place xs ys) ∙ sym (append_assoc own (entries_at place xs) (entries_at place ys))

-- the entries of one batch
one_here : (p place : ℕ) (es : List Entry) → place ≡ p → entries_at p (record { place = place; entries = es } ∷ []) ≡ es
one_here p place es same = let test = eq-eqb place p same in rw test (append-nil es)

one_else : (p place : ℕ) (es : List Entry) → place ≢ p → entries_at p (record { place = place; entries = es } ∷ []) ≡ []
one_else p place es ne = let test = ne_eqb place p ne in rw test refl

-- a batch that is open is of the place that is free
open_place : (streams : List StreamDoc) (base held : Option (List ℕ)) (desk : DeskState) (batches : List Batch) (b : Batch) (place : ℕ) → IsOpen streams base held desk batches b → IsFreeFor desk place → b.place ≡ place
open_place streams base held desk batches b place o (inl none) = absurd (let n = o.count in omega (arith, n, none))
open_place streams base held desk batches b place o (inr same) = sym o.place ∙ same

module _ (place : ℕ) (e : RingEntry Sample) (streams : List StreamDoc) (base held : Option (List ℕ)) (desk : DeskState) (batches : List Batch) where
  abbrev with_one : Option Batch → Batch
  with_one current = with_entry place current e.position e.value

  with_here : (current : Option Batch) → StandsFor streams base held desk batches current → IsFreeFor desk place
      → entries_at place (closed batches (Some (with_one current))) ≡ entries_at place (closed batches current) ++ ring_entry e ∷ []
  with_here None st free =
      entries_append place batches (with_one None ∷ []) ∙ ap (λ (l : List Entry). entries_at place batches ++ l) (one_here place place (ring_entry e ∷ []) refl)
  with_here (Some b) st free =
      let here = open_place streams base held desk batches b place st free in
      let old = entries_at place batches in
      entries_append place batches (with_one (Some b) ∷ [])
      ∙ ap (λ (l : List Entry). old ++ l) (one_here place b.place (b.entries ++ ring_entry e ∷ []) here)
      ∙ sym (append_assoc old b.entries (ring_entry e ∷ []))
      ∙ ap (λ (l : List Entry). l ++ ring_entry e ∷ []) (sym (entries_append place batches (b ∷ []) ∙ ap (λ (l : List Entry). old ++ l) (one_here place b.place b.entries here)))

  with_others : (current : Option Batch) → StandsFor streams base held desk batches current → IsFreeFor desk place → (p : ℕ) → p ≢ place
      → entries_at p (closed batches (Some (with_one current))) ≡ entries_at p (closed batches current)
  with_others None st free p ne =
      entries_append p batches (with_one None ∷ []) ∙ ap (λ (l : List Entry). entries_at p batches ++ l) (one_else p place (ring_entry e ∷ []) (λ h. ne (sym h))) ∙ append-nil (entries_at p batches)
  with_others (Some b) st free p ne =
      let here = open_place streams base held desk batches b place st free in
      let apart : b.place ≢ p = λ h. ne (sym h ∙ here) in
      let old = entries_at p batches in
      entries_append p batches (with_one (Some b) ∷ [])
      ∙ ap (λ (l : List Entry). old ++ l) (one_else p b.place (b.entries ++ ring_entry e ∷ []) apart ∙ sym (one_else p b.place b.entries apart))
      ∙ sym (entries_append p batches (b ∷ []))

  module _ (current : Option Batch) (st : StandsFor streams base held desk batches current) (free : IsFreeFor desk place) (taken now : List (RingEntry Sample)) (one : now ≡ taken ++ e ∷ []) where
    -- the writer was at the entry
    pub cut_with : IsCutAt place taken now (closed batches current) (closed batches (Some (with_one current)))
    cut_with = record {
      put = ring_entry e ∷ [];
      left = [];
      taken = ap (map ring_entry) one ∙ map-append ring_entry taken (e ∷ []);
      here = with_here current st free;
      others = with_others current st free;
    }

    -- it wasn't
    pub cut_without : IsCutAt place taken now (closed batches current) (closed batches current)
    cut_without = record {
      put = [];
      left = ring_entry e ∷ [];
      taken = ap (map ring_entry) one ∙ map-append ring_entry taken (e ∷ []);
      here = sym (append-nil (entries_at place (closed batches current)));
      others = λ p ne. refl;
    }

-- a sample of texts that was to be put: its write failed, or there was no memory for it
pub cut_text : (place : ℕ) (e : RingEntry Sample) (taken now : List (RingEntry Sample)) (before : DeskState) (held_before held : Option (List ℕ)) (f : WriterFault) → now ≡ taken ++ e ∷ [] → IsFreeFor before place
    → ((streams : List StreamDoc) (base : Option (List ℕ)) (batches : List Batch) (current : Option Batch) → StandsFor streams base held_before before batches current → f ≡ fault.WriteFault
    → IsCut streams base held (closed batches (Some (with_entry place current e.position e.value))))
    → (f ≡ fault.Memory → held ≡ held_before)
    → (streams : List StreamDoc) (base : Option (List ℕ)) (batches : List Batch) (current : Option Batch) → StandsFor streams base held_before before batches current
    → (some : List Batch) × IsCut streams base held some × IsCutAt place taken now (closed batches current) some
cut_text place e taken now before held_before held fault.WriteFault one free cut memory streams base batches current st = (
  closed batches (Some (with_entry place current e.position e.value)),
  cut streams base batches current st refl,
  cut_with place e streams base held_before before batches current st free taken now one,
)
cut_text place e taken now before held_before held fault.Memory one free cut memory streams base batches current st =
    let P : Option (List ℕ) → Type 0 = λ h. IsCut streams base h (closed batches current) in (
      closed batches current,
      subst P (sym (memory refl)) (stands_cut streams base held_before before batches current st),
      cut_without place e streams base held_before before batches current st free taken now one,
    )
