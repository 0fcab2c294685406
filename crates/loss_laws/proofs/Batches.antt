-- The groups of batches have the entries of the batches.
use Rattle.std.proofs.Common.{◌≡◌, ◌≢◌, ℕ, ◌+◌, ◌^◌, ◌<◌, ◌≤◌, ◌==◌, true, false, List, [], ◌∷◌, ◌++◌, length, map, if◌then◌else◌, inl, inr, refl, sym, ap, ◌∙◌, subst, arith, append_assoc}
use Rattle.std.specs.Prelude.{⊤}
use Rattle.std.specs.List.{AllByRecursion, flat_map}
use Rattle.std.proofs.lemmas.Bool.{eq-eqb, ne_eqb, cases_eq}
use Rattle.std.proofs.lemmas.List.{map-append}
use Rattle.std.proofs.lemmas.Option.{slice_get_within}
use Rattle.xdf_model.specs.declared.types.Shape.{Shape}
use Rattle.xdf_model.specs.Sample.{Sample}
use Rattle.recording_model.specs.declared.stream.StreamDoc.{StreamDoc}
use Rattle.recording_model.specs.Batch.{Entry, Batch, Group, entries_in, positions_at, IsRising, AreLongest, Divides, AreDivided}
use Rattle.recording_model.specs.Layout.{id_of, id_at}
use Rattle.recording_model.specs.Recording.{AreStreams}
use Rattle.loss_model.specs.Loss.{entries_at, AreOf}
use Rattle.loss_laws.proofs.Entries.{IsFrom}
use Rattle.loss_laws.proofs.Groups.{entries_of, entries_own, entries_other, stream_at}

pub of_append : (place : ℕ) (xs ys : List Group) → entries_of place (xs ++ ys) ≡ entries_of place xs ++ entries_of place ys
of_append place [] ys = refl
of_append place (g ∷ xs) ys =
    let own : List Entry = if g.place == place then entries_in g else [] in
    ap (λ (t : List Entry). own ++ t) (of_append place xs ys) ∙ sym (append_assoc own (entries_of place xs) (entries_of place ys))

-- ---- one batch

groups_own : (shape : Shape) (p place : ℕ) (gs : List Group) → AreLongest shape p gs → p ≡ place → entries_of place gs ≡ flat_map entries_in gs
groups_own shape p place [] are e = refl
groups_own shape p place (g ∷ gs) are e = entries_own place g gs (are.0 ∙ e) ∙ ap (λ (t : List Entry). entries_in g ++ t) (groups_own shape p place gs are.3 e)

groups_other : (shape : Shape) (p place : ℕ) (gs : List Group) → AreLongest shape p gs → p ≢ place → entries_of place gs ≡ []
groups_other shape p place [] are e = refl
groups_other shape p place (g ∷ gs) are e = entries_other place g gs (λ (h : g.place ≡ place). e (sym are.0 ∙ h)) ∙ groups_other shape p place gs are.3 e

abbrev of_batch : ℕ → Batch → List Entry
of_batch place b = if b.place == place then b.entries else []

batch_entries : (streams : List StreamDoc) (place : ℕ) (b : Batch) (gs : List Group) → Divides streams b gs → entries_of place gs ≡ of_batch place b
batch_entries streams place b gs d = elim (cases_eq b.place place) [
  | inl e ↦ groups_own d.stream.shape b.place place gs d.longest e ∙ sym d.all ∙ (let test = eq-eqb b.place place e in rw test refl)
  | inr e ↦ groups_other d.stream.shape b.place place gs d.longest e ∙ (let test = ne_eqb b.place place e in rw test refl)
]

groups_known : (streams : List StreamDoc) (shape : Shape) (p : ℕ) (gs : List Group) → 1 ≤ id_at streams p → AreLongest shape p gs → AllByRecursion (λ g. 1 ≤ id_at streams g.place) gs
groups_known streams shape p [] low are = tt
groups_known streams shape p (g ∷ gs) low are = (subst (λ (q : ℕ). 1 ≤ id_at streams q) (sym are.0) low, groups_known streams shape p gs low are.3)

both_known : (streams : List StreamDoc) (xs ys : List Group) → AllByRecursion (λ g. 1 ≤ id_at streams g.place) xs → AllByRecursion (λ g. 1 ≤ id_at streams g.place) ys
    → AllByRecursion (λ g. 1 ≤ id_at streams g.place) (xs ++ ys)
both_known streams [] ys a b = b
both_known streams (x ∷ xs) ys a b = (a.0, both_known streams xs ys a.1 b)

-- ---- all batches

pub divided_entries : (streams : List StreamDoc) (place : ℕ) (bs : List Batch) (gs : List Group) → AreDivided streams bs gs → entries_of place gs ≡ entries_at place bs
divided_entries streams place [] gs d = ap (entries_of place) d
divided_entries streams place (b ∷ bs) gs d =
    ap (entries_of place) d.4
    ∙ of_append place d.0 d.1
    ∙ ap (λ (t : List Entry). t ++ entries_of place d.1) (batch_entries streams place b d.0 d.2)
    ∙ ap (λ (t : List Entry). of_batch place b ++ t) (divided_entries streams place bs d.1 d.3)

-- each group is of a stream, and not of the ledger
pub divided_known : (streams : List StreamDoc) (bs : List Batch) (gs : List Group) → AreStreams streams → AreDivided streams bs gs → AllByRecursion (λ g. 1 ≤ id_at streams g.place) gs
divided_known streams [] gs are d = subst (λ (xs : List Group). AllByRecursion (λ g. 1 ≤ id_at streams g.place) xs) (sym d) tt
divided_known streams (b ∷ bs) gs are d =
    let v = d.2 in
    let low : 1 ≤ id_at streams b.place = subst (λ (n : ℕ). 1 ≤ n) (sym (ap id_of v.is_stream)) (stream_at streams b.place v.stream are v.is_stream).low in
    subst (λ (xs : List Group). AllByRecursion (λ g. 1 ≤ id_at streams g.place) xs) (sym d.4)
    (both_known streams d.0 d.1 (groups_known streams v.stream.shape b.place d.0 low v.longest) (divided_known streams bs d.1 are d.3))

-- ---- their positions

abbrev pub positions_of : List Entry → List ℕ
positions_of es = map (λ (e : Entry). e.position) es

positions_are : (place : ℕ) (bs : List Batch) → positions_at place bs ≡ positions_of (entries_at place bs)
positions_are place [] = refl
positions_are place (b ∷ bs) =
    let rest = entries_at place bs in
    let own : (if b.place == place then positions_of b.entries else []) ≡ positions_of (of_batch place b) =
    elim (b.place == place) as (λ t. (if t then positions_of b.entries else []) ≡ positions_of (if t then b.entries else [])) [ true ↦ refl | false ↦ refl ] in
    ap (λ (t : List ℕ). t ++ positions_at place bs) own
    ∙ ap (λ (t : List ℕ). positions_of (of_batch place b) ++ t) (positions_are place bs)
    ∙ sym (map-append (λ (e : Entry). e.position) (of_batch place b) rest)

abbrev BeginsAt : ℕ → List Entry → Type 0
BeginsAt n [] = ⊤
BeginsAt n (e ∷ es) = n ≤ e.position

rising_from : (samples : List Sample) (n : ℕ) (es : List Entry) → length samples < 2 ^ 62 → BeginsAt n es → IsRising (positions_of es) → AreOf samples es → IsFrom n es
rising_from samples n [] few begins rises of = tt
rising_from samples n (e ∷ []) few begins rises of = let here = slice_get_within samples e.position e.sample of.0 in (begins, omega (arith, here, few), tt)
rising_from samples n (e ∷ f ∷ es) few begins rises of =
    let here = slice_get_within samples e.position e.sample of.0 in
    let next = rises.0 in
    (begins, omega (arith, here, few), rising_from samples (e.position + 1) (f ∷ es) few (omega (arith, next)) rises.1 of.1)

begins_all : (es : List Entry) → BeginsAt 0 es
begins_all [] = tt
begins_all (e ∷ es) = omega arith

pub in_order_from : (samples : List Sample) (place : ℕ) (bs : List Batch) → length samples < 2 ^ 62 → IsRising (positions_at place bs) → AreOf samples (entries_at place bs) → IsFrom 0 (entries_at place bs)
in_order_from samples place bs few rises of =
    let es = entries_at place bs in
    rising_from samples 0 es few (begins_all es) (subst IsRising (positions_are place bs) rises) of
