-- What one more turn adds to what is kept.
use Rattle.std.proofs.Common.{◌≡◌, ◌⊎◌, inl, inr, ℕ, zero, suc, ◌+◌, ◌-◌, ◌*◌, ◌<◌, ◌≤◌, List, [], ◌∷◌, ◌++◌, length, take, drop, slice_get, Some, refl, sym, ap, ◌∙◌, subst, arith, length-append, length-drop, append_assoc}
use Rattle.std.specs.Prelude.{filter, Bool, true, false, if◌then◌else◌, ◌==◌, ◌&&◌}
use Rattle.std.proofs.lemmas.List.{append-nil, take-append-le, drop-append-le, take_all}
use Rattle.std.proofs.Math.Seq.{drop-append_seam}
use Rattle.std.proofs.Math.Nat.{mul-le-mul_right}
use Rattle.xdf_model.specs.Sample.{Sample}
use Rattle.recording_model.specs.Batch.{Entry, entries_from}
use Rattle.turns_model.specs.Turns.{kept_in, slab_of, is_kept}
use Rattle.turns_laws.specs.Slabs.{last_of, slab}
use Rattle.turns_laws.proofs.Kept.{kept_is, entries_length}
use Rattle.loss_model.specs.Loss.{AreOf, behind_last}
use Rattle.record_run.specs.Kept.{kept_up_to}

-- a feed had all positions up to this turn, and got at most a slab more; or it had ended, and got none
pub record HasGrown (batch turn : ℕ) (old more : List Sample) : Type 0 where
  pub either : ((length old ≡ turn * batch) × (length more ≤ batch)) ⊎ ((more ≡ []) × (length old ≤ turn * batch))

slab_ends : (batch t : ℕ) → (t + 1) * batch ≡ t * batch + batch
slab_ends batch t = grind arith

none_left : {A : Type 0} (n : ℕ) (xs : List A) → length xs ≤ n → drop n xs ≡ []
none_left zero [] le = refl
none_left zero (x ∷ xs) le = absurd (omega (arith, le))
none_left (suc n) [] le = refl
none_left (suc n) (x ∷ xs) le = none_left n xs (omega (arith, le))

take_none : {A : Type 0} (n : ℕ) (xs : List A) → xs ≡ [] → take n xs ≡ []
take_none zero xs e = refl
take_none (suc n) xs e = ap (take (suc n)) e

-- a slab of which all positions are there stays
slab_before : (batch t : ℕ) (l more : List Sample) → (t + 1) * batch ≤ length l → slab batch t (l ++ more) ≡ slab batch t l
slab_before batch t l more le =
    let end = slab_ends batch t in
    let a = t * batch in
    let rest = length-drop a l in
    ap (λ (xs : List Sample). entries_from a (take batch xs)) (drop-append-le a l more (omega (arith, le, end)))
    ∙ ap (entries_from a) (take-append-le batch (drop a l) more (omega (arith, le, end, rest)))

-- the slab of this turn
slab_here : (batch t : ℕ) (l more : List Sample) → length l ≡ t * batch → length more ≤ batch → slab batch t (l ++ more) ≡ entries_from (length l) more
slab_here batch t l more full few =
    ap (λ (a : ℕ). entries_from a (take batch (drop a (l ++ more)))) (sym full)
    ∙ ap (λ (xs : List Sample). entries_from (length l) (take batch xs)) (drop-append_seam l more)
    ∙ ap (entries_from (length l)) (take_all batch more few)

slab_past : (batch t : ℕ) (l : List Sample) → length l ≤ t * batch → slab batch t l ≡ []
slab_past batch t l short =
    ap (entries_from (t * batch)) (take_none batch (drop (t * batch) l) (none_left (t * batch) l short))

nothing_joins : (l more : List Sample) → more ≡ [] → l ++ more ≡ l
nothing_joins l more none = ap (λ (m : List Sample). l ++ m) none ∙ append-nil l

-- what is kept of this turn's slab
pub kept_here : (ring batch t : ℕ) (l more : List Sample) → 1 ≤ batch → HasGrown batch t l more → kept_in ring batch t (l ++ more) ≡ last_of ring (entries_from (length l) more)
kept_here ring batch t l more some grown =
    kept_is ring batch t (l ++ more) some ∙ elim grown.either [
      | inl k ↦ ap (last_of ring) (slab_here batch t l more k.0 k.1)
      | inr k ↦ ap (λ (xs : List Sample). last_of ring (slab batch t xs)) (nothing_joins l more k.0) ∙ ap (last_of ring) (slab_past batch t l k.1)
          ∙ sym (ap (λ (m : List Sample). last_of ring (entries_from (length l) m)) k.0)
    ]

-- what is kept of the slabs before stays
pub kept_before : (ring batch t n : ℕ) (l more : List Sample) → 1 ≤ batch → n < t → HasGrown batch t l more → kept_in ring batch n (l ++ more) ≡ kept_in ring batch n l
kept_before ring batch t n l more some low grown = elim grown.either [
  | inl k ↦ let up : (n + 1) * batch ≤ t * batch = mul-le-mul_right batch (omega (arith, low)) in
      kept_is ring batch n (l ++ more) some ∙ ap (last_of ring) (slab_before batch n l more (omega (arith, up, k.0))) ∙ sym (kept_is ring batch n l some)
  | inr k ↦ ap (kept_in ring batch n) (nothing_joins l more k.0)
]

pub kept_up_to_before : (ring batch t n : ℕ) (l more : List Sample) → 1 ≤ batch → n ≤ t → HasGrown batch t l more → kept_up_to ring batch (l ++ more) n ≡ kept_up_to ring batch l n
kept_up_to_before ring batch t zero l more some le grown = refl
kept_up_to_before ring batch t (suc n) l more some le grown =
    ap (λ (es : List Entry). es ++ kept_in ring batch n (l ++ more)) (kept_up_to_before ring batch t n l more some (omega (arith, le)) grown)
    ∙ ap (λ (es : List Entry). kept_up_to ring batch l n ++ es) (kept_before ring batch t n l more some (omega (arith, le)) grown)

-- so what is kept grows by what is kept of this turn's slab
pub kept_grows : (ring batch t : ℕ) (l more : List Sample) → 1 ≤ batch → HasGrown batch t l more → kept_up_to ring batch (l ++ more) (suc t) ≡ kept_up_to ring batch l t ++ last_of ring (entries_from (length l) more)
kept_grows ring batch t l more some grown =
    ap (λ (es : List Entry). es ++ kept_in ring batch t (l ++ more)) (kept_up_to_before ring batch t t l more some (omega arith) grown)
    ∙ ap (λ (es : List Entry). kept_up_to ring batch l t ++ es) (kept_here ring batch t l more some grown)

-- ---- what is kept has the feed's samples, up to the last one

-- each entry has the feed's sample at its position
entries_are : (n : ℕ) (front xs : List Sample) → length front ≡ n → AreOf (front ++ xs) (entries_from n xs)
entries_are n front [] len = tt
entries_are n front (x ∷ xs) len =
    let more = length-append front (x ∷ []) in
    let P : List Sample → Type 0 = λ l. AreOf l (entries_from (n + 1) xs) in
    (get_behind n front x xs len, subst P (append_assoc front (x ∷ []) xs) (entries_are (n + 1) (front ++ x ∷ []) xs (omega (arith, len, more))))
  where
    get_behind : (n : ℕ) (front : List Sample) (x : Sample) (xs : List Sample) → length front ≡ n → slice_get (front ++ x ∷ xs) n ≡ Some x
    get_behind zero [] x xs len = refl
    get_behind (suc n) [] x xs len = absurd (omega (arith, len))
    get_behind zero (y ∷ front) x xs len = absurd (omega (arith, len))
    get_behind (suc n) (y ∷ front) x xs len = get_behind n front x xs (omega (arith, len))

are_filtered : (f : Entry → Bool) (l : List Sample) (es : List Entry) → AreOf l es → AreOf l (filter f es)
are_filtered f l [] are = tt
are_filtered f l (e ∷ es) are = elim (f e) as (λ b. AreOf l (if b then e ∷ filter f es else filter f es)) [
  | true ↦ (are.0, are_filtered f l es are.1)
  | false ↦ are_filtered f l es are.1
]

are_both : (l : List Sample) (es fs : List Entry) → AreOf l es → AreOf l fs → AreOf l (es ++ fs)
are_both l [] fs a b = b
are_both l (e ∷ es) fs a b = (a.0, are_both l es fs a.1 b)

pub kept_are : (ring batch n : ℕ) (l : List Sample) → AreOf l (kept_up_to ring batch l n)
kept_are ring batch zero l = tt
kept_are ring batch (suc n) l =
    are_both l (kept_up_to ring batch l n) (kept_in ring batch n l) (kept_are ring batch n l)
    (are_filtered (λ (e : Entry). slab_of batch e.position == n && is_kept ring batch (length l) e.position) l (entries_from 0 l) (entries_are 0 [] l refl))

-- the position behind the last entry
behind_both : (es : List Entry) (f : Entry) (fs : List Entry) → behind_last (es ++ f ∷ fs) ≡ behind_last (f ∷ fs)
behind_both [] f fs = refl
behind_both (e ∷ []) f fs = refl
behind_both (e ∷ g ∷ es) f fs = behind_both (g ∷ es) f fs

behind_entries : (n : ℕ) (x : Sample) (xs : List Sample) → behind_last (entries_from n (x ∷ xs)) ≡ n + suc (length xs)
behind_entries n x [] = omega arith
behind_entries n x (y ∷ xs) = let k = behind_entries (n + 1) y xs in omega (arith, k)

drop_entries : (k n : ℕ) (xs : List Sample) → drop k (entries_from n xs) ≡ entries_from (n + k) (drop k xs)
drop_entries zero n xs = ap (λ (m : ℕ). entries_from m xs) (omega arith)
drop_entries (suc k) n [] = refl
drop_entries (suc k) n (x ∷ xs) = let shift : (n + 1) + k ≡ n + suc k = omega arith in drop_entries k (n + 1) xs ∙ ap (λ (m : ℕ). entries_from m (drop k xs)) shift

-- what the ring holds of samples at consecutive positions
pub waits : (ring n : ℕ) (more : List Sample) → last_of ring (entries_from n more) ≡ entries_from (n + (length more - ring)) (drop (length more - ring) more)
waits ring n more = ap (λ (k : ℕ). drop (k - ring) (entries_from n more)) (entries_length n more) ∙ drop_entries (length more - ring) n more

behind_drop : (k n : ℕ) (es : List Entry) (xs : List Sample) → k < length xs → behind_last (es ++ entries_from (n + k) (drop k xs)) ≡ n + length xs
behind_drop k n es [] low = absurd (omega (arith, low))
behind_drop zero n es (x ∷ xs) low =
    let shift : n + 0 ≡ n = omega arith in
    ap (λ (m : ℕ). behind_last (es ++ entries_from m (x ∷ xs))) shift ∙ behind_both es _ (entries_from (n + 1) xs) ∙ behind_entries n x xs
behind_drop (suc k) n es (x ∷ xs) low =
    let shift : n + suc k ≡ (n + 1) + k = omega arith in
    let deeper = behind_drop k (n + 1) es xs (omega (arith, low)) in
    ap (λ (m : ℕ). behind_last (es ++ entries_from m (drop k xs))) shift ∙ deeper ∙ omega arith

pub behind_grows : (ring n : ℕ) (es : List Entry) (more : List Sample) → 1 ≤ ring → behind_last es ≡ n → behind_last (es ++ last_of ring (entries_from n more)) ≡ n + length more
behind_grows ring n es [] some at =
    let shift : n ≡ n + 0 = omega arith in
    ap (λ (fs : List Entry). behind_last (es ++ fs)) (none_left (0 - ring) [] (omega arith)) ∙ ap behind_last (append-nil es) ∙ at ∙ shift
behind_grows ring n es (x ∷ more) some at =
    ap (λ (fs : List Entry). behind_last (es ++ fs)) (waits ring n (x ∷ more)) ∙ behind_drop (length (x ∷ more) - ring) n es (x ∷ more) (omega (arith, some))
