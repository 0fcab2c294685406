-- What holds of all lanes, once one of them was written of.
use Rattle.std.proofs.Common.{◌≡◌, inl, inr, ℕ, zero, suc, ◌≤◌, List, [], ◌∷◌, ◌++◌, length, map, set, get_or, slice_get, Option, Some, refl, sym, ap, ◌∙◌, subst, append_assoc, arith}
use Rattle.std.proofs.lemmas.List.{append-nil, length-map, length-set}
use Rattle.xdf_model.specs.declared.types.Shape.{Shape}
use Rattle.xdf_model.specs.Sample.{size_of}
use Rattle.recording_model.specs.declared.stream.StreamDoc.{StreamDoc}
use Rattle.recording_model.specs.Batch.{Entry, Batch}
use Rattle.loss_model.specs.Loss.{entries_at}
use Rattle.record_writer.specs.declared.place.Place.{Place}
use Rattle.record_writer.specs.Desk.{DeskState}
use Rattle.record_writer.specs.Standing.{IsCut}
use Rattle.run_model.specs.Putting.{AreFirst, IsCutAt}
use Rattle.run_model.specs.Rings.{ring_entry}
use Rattle.run_model.proofs.Batches.{entries_append}
use Rattle.run_model.proofs.Lists.{map_at, set_cases}
use Rattle.thread_run.specs.declared.lane.CountedHead.{CountedHead}
use Rattle.feed_lane.specs.Lanes.{Lane}
use Rattle.thread_run.specs.Lanes.{AreShortOf, AreWritten, Counts}
use Rattle.thread_run.specs.Rounds.{AreShort, Given, IsDrawn, AreDrawn, AreOfNumbers, IsCutOf, given_by, lanes_of}
use Rattle.thread_run.proofs.Gathering.{all_append, other_none}

pub short_all : (batch place : ℕ) (bs : List Batch) → AreShortOf batch place bs → AreShort batch bs
short_all batch place [] short = tt
short_all batch place (b ∷ bs) short = (short.0.1, short_all batch place bs short.1)

-- the lane at a place was written of
pub lanes_more : (batch place : ℕ) (streams : List StreamDoc) (base held_mid held : Option (List ℕ)) (mid after : DeskState) (batches : List Batch) (lanes : List Given) (old new : Given)
    → AreDrawn batch streams base held_mid mid batches lanes → slice_get lanes place ≡ Some old → AreWritten batch place old.taken new.taken mid after held_mid held → new.shape ≡ old.shape → Counts new.kept new.taken
    → (more : List Batch) × AreDrawn batch streams base held after more (set lanes place new)
lanes_more batch place streams base held_mid held mid after batches lanes old new k at w same_shape counted = (
  batches ++ w.bs,
  record {
    written = w.put streams base batches k.written;
    short = all_append (λ (b : Batch). length b.entries ≤ batch) batches w.bs k.short (short_all batch place w.bs w.short);
    count = let f : Place → Shape = λ x. x.shape in omega (arith, length-set lanes place new, k.count, ap length w.shapes, length-map after.places f, length-map mid.places f);
    closed = w.closed;
    whole = w.whole;
    each = λ p lane is. elim (set_cases lanes place p new lane is) [
      | inl here ↦
          let before = k.each place old at in
          let same : new ≡ lane = sym here.1 in
          subst (λ (x : Given). IsDrawn after (batches ++ w.bs) p x) same (subst (λ (q : ℕ). IsDrawn after (batches ++ w.bs) q new) (sym here.0) (record {
            taken = w.taken ∙ ap (λ (l : List Entry). l ++ entries_at place w.bs) before.taken ∙ sym (entries_append place batches w.bs);
            next = w.next_here;
            shape = ap (λ (l : List Shape). slice_get l place) w.shapes ∙ before.shape ∙ ap Some (sym same_shape);
            counted = counted;
          }))
      | inr there ↦
          let before = k.each p lane there.1 in
          record {
            taken = before.taken ∙ sym (entries_append p batches w.bs ∙ ap (λ (l : List Entry). entries_at p batches ++ l) (other_none batch place p w.bs there.0 w.short) ∙ append-nil (entries_at p batches));
            next = w.next_else p there.0 ∙ before.next;
            shape = ap (λ (l : List Shape). slice_get l p) w.shapes ∙ before.shape;
            counted = before.counted;
          }
    ];
  },
)

-- the writer failed at the lane at a place
pub lanes_cut : (batch place : ℕ) (streams : List StreamDoc) (base held_mid held : Option (List ℕ)) (mid : DeskState) (batches some : List Batch) (lanes : List Given) (old new : Given)
    → AreDrawn batch streams base held_mid mid batches lanes → slice_get lanes place ≡ Some old → IsCut streams base held some → IsCutAt place old.taken new.taken batches some → IsCutOf streams base held (set lanes place new)
lanes_cut batch place streams base held_mid held mid batches some lanes old new k at cut c = record {
  some = some;
  cut = cut;
  each = λ p lane is. elim (set_cases lanes place p new lane is) [
    | inl here ↦
        let same : new ≡ lane = sym here.1 in
        let before = (k.each place old at).taken in
        subst (λ (x : Given). AreFirst (entries_at p some) (map ring_entry x.taken)) same (subst (λ (q : ℕ). AreFirst (entries_at q some) (map ring_entry new.taken)) (sym here.0) (
          c.left,
          c.taken ∙ ap (λ (l : List Entry). l ++ (c.put ++ c.left)) before ∙ sym (append_assoc (entries_at place batches) c.put c.left) ∙ ap (λ (l : List Entry). l ++ c.left) (sym c.here),
        ))
    | inr there ↦ ([], (k.each p lane there.1).taken ∙ sym (c.others p there.0) ∙ sym (append-nil (entries_at p some)))
  ];
}

pub map_set : {A B : Type 0} (f : A → B) (xs : List A) (i : ℕ) (v : A) → set (map f xs) i (f v) ≡ map f (set xs i v)
map_set f [] i v = refl
map_set f (x ∷ xs) zero v = refl
map_set f (x ∷ xs) (suc i) v = λ k. f x ∷ map_set f xs i v k

pub at_map : {A B : Type 0} (f : A → B) (xs : List A) (p : ℕ) (y : B) → slice_get (map f xs) p ≡ Some y → (x : A) × (slice_get xs p ≡ Some x) × (f x ≡ y)
at_map f [] p y e = absurd cc
at_map f (x ∷ xs) zero y e = (x, refl, cc e)
at_map f (x ∷ xs) (suc p) y e = at_map f xs p y e

pub ends_same : {A B : Type 0} (f : A → B) (l : List A) (i : ℕ) (v w : A) → f w ≡ f (get_or l i v) → map f (set l i w) ≡ map f l
ends_same f [] i v w h = refl
ends_same f (x ∷ xs) zero v w h = λ k. h k ∷ map f xs
ends_same f (x ∷ xs) (suc i) v w h = λ k. f x ∷ ends_same f xs i v w h k

-- two lists with the same keys have the same key at each place
pub ends_at : {A B : Type 0} (f : A → B) (xs ys : List A) (p : ℕ) (y : A) → map f ys ≡ map f xs → slice_get ys p ≡ Some y → (x : A) × (slice_get xs p ≡ Some x) × (f y ≡ f x)
ends_at f xs [] p y e g = absurd cc
ends_at f [] (z ∷ ys) p y e g = absurd cc
ends_at f (x ∷ xs) (z ∷ ys) zero y e g = (x, refl, (let h : f z ≡ f x = cc in let same : z ≡ y = cc g in ap f (sym same) ∙ h))
ends_at f (x ∷ xs) (z ∷ ys) (suc p) y e g = ends_at f xs ys p y (let t : map f ys ≡ map f xs = cc in t) g

-- the lanes stay those of numbers
pub numbers_same : (xs ys : List CountedHead) → lanes_of ys ≡ lanes_of xs → AreOfNumbers (map given_by xs) → AreOfNumbers (map given_by ys)
numbers_same xs ys same numbers p lane at =
    let y = at_map given_by ys p lane at in
    let e = ends_at (λ (h : CountedHead). h.head.lane) xs ys p y.0 same y.1 in
    subst (λ (x : Given). 1 ≤ size_of x.shape.format) y.2 (subst (λ (l : Lane). 1 ≤ size_of l.shape.format) (sym e.2) (numbers p (given_by e.0) (map_at given_by xs p e.0 e.1)))
