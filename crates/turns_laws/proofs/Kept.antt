-- What is kept of a slab are its last entries.
use Rattle.std.proofs.Common.{◌≡◌, ◌≢◌, ℕ, zero, suc, ◌+◌, ◌-◌, ◌*◌, ◌/◌, ◌<◌, ◌≤◌, ◌&&◌, Bool, true, false, nat_lt, min, List, [], ◌∷◌, ◌++◌, length, take, drop, refl, sym, ap, ◌∙◌, subst, eqb, eq-eqb, ne_eqb, arith, length-drop}
use Rattle.std.specs.Prelude.{filter}
use Rattle.std.proofs.lemmas.Bool.{lt-ltb, le-ltb}
use Rattle.std.proofs.lemmas.List.{append-nil}
use Rattle.std.proofs.lemmas.List.Elements.{filter-append}
use Rattle.std.proofs.Math.Nat.{div-lt_iff_lt-mul, div-eq_of_lt-le, le-div_iff_mul-le}
use Rattle.xdf_model.specs.Sample.{Sample}
use Rattle.recording_model.specs.Batch.{Entry, entries_from}
use Rattle.turns_model.specs.Turns.{slab_of, is_kept, kept_in}
use Rattle.turns_laws.specs.Slabs.{last_of, slab}

pub entries_length : (n : ℕ) (xs : List Sample) → length (entries_from n xs) ≡ length xs
entries_length n [] = refl
entries_length n (x ∷ xs) = ap suc (entries_length (n + 1) xs)

-- a list in two parts
pub entries_split : (n k : ℕ) (xs : List Sample) → entries_from n xs ≡ entries_from n (take k xs) ++ entries_from (n + k) (drop k xs)
entries_split n zero xs = ap (λ (m : ℕ). entries_from m xs) (omega arith)
entries_split n (suc k) [] = refl
entries_split n (suc k) (x ∷ xs) =
    let head : Entry = record { position = n; sample = x } in
    let shift : (n + 1) + k ≡ n + suc k = omega arith in
    ap (λ (es : List Entry). head ∷ es) (entries_split (n + 1) k xs ∙ ap (λ (m : ℕ). entries_from (n + 1) (take k xs) ++ entries_from m (drop k xs)) shift)

-- none of these positions passes the test
none_pass : (f : ℕ → Bool) (n : ℕ) (xs : List Sample) → ((p : ℕ) → n ≤ p → p < n + length xs → f p ≡ false) → filter (λ (e : Entry). f e.position) (entries_from n xs) ≡ []
none_pass f n [] misses = refl
none_pass f n (x ∷ xs) misses =
    let here : f n ≡ false = misses n (omega arith) (omega arith) in
    rw here (none_pass f (n + 1) xs (λ p a b. misses p (omega arith) (omega arith)))

-- those from a position on pass it
all_pass : (f : ℕ → Bool) (n : ℕ) (xs : List Sample) → ((p : ℕ) → n ≤ p → p < n + length xs → f p ≡ true) → filter (λ (e : Entry). f e.position) (entries_from n xs) ≡ entries_from n xs
all_pass f n [] passes = refl
all_pass f n (x ∷ xs) passes =
    let here : f n ≡ true = passes n (omega arith) (omega arith) in
    let head : Entry = record { position = n; sample = x } in
    rw here (ap (λ (es : List Entry). head ∷ es) (all_pass f (n + 1) xs (λ p a b. passes p (omega arith) (omega arith))))

back_pass : (f : ℕ → Bool) (n c : ℕ) (xs : List Sample) → ((p : ℕ) → n ≤ p → p < n + length xs → p < n + c → f p ≡ false) → ((p : ℕ) → n + c ≤ p → p < n + length xs → f p ≡ true)
    → filter (λ (e : Entry). f e.position) (entries_from n xs) ≡ drop c (entries_from n xs)
back_pass f n zero xs misses passes = all_pass f n xs (λ p a b. passes p (omega arith) b)
back_pass f n (suc c) [] misses passes = refl
back_pass f n (suc c) (x ∷ xs) misses passes =
    let here : f n ≡ false = misses n (omega arith) (omega arith) (omega arith) in
    rw here (back_pass f (n + 1) c xs (λ p a b d. misses p (omega arith) (omega arith) (omega arith)) (λ p a b. passes p (omega arith) (omega arith)))

-- ---- which slab a position is in

in_slab : (batch t p : ℕ) → 1 ≤ batch → t * batch ≤ p → p < (t + 1) * batch → p / batch ≡ t
in_slab batch t p some low high = div-eq_of_lt-le batch low high

before_slab : (batch t p : ℕ) → 1 ≤ batch → p < t * batch → p / batch ≢ t
before_slab batch t p some high = λ (e : p / batch ≡ t). let k = (div-lt_iff_lt-mul some).1 high in omega (arith, k, e)

behind_slab : (batch t p : ℕ) → 1 ≤ batch → (t + 1) * batch ≤ p → p / batch ≢ t
behind_slab batch t p some low = λ (e : p / batch ≡ t). let k = (le-div_iff_mul-le some).1 low in omega (arith, k, e)

slab_ends : (batch t : ℕ) → (t + 1) * batch ≡ t * batch + batch
slab_ends batch t = grind arith

length-take-is : {A : Type 0} (n : ℕ) (xs : List A) → length (take n xs) ≡ min n (length xs)
length-take-is zero xs = omega arith
length-take-is (suc n) [] = omega arith
length-take-is (suc n) (x ∷ xs) = let k = length-take-is n xs in omega (arith, k)

length-take-le : {A : Type 0} (n : ℕ) (xs : List A) → length (take n xs) ≤ n
length-take-le n xs = let k = length-take-is n xs in omega (arith, k)

module _ (ring batch t : ℕ) (xs : List Sample) (some : 1 ≤ batch) where
  abbrev test : ℕ → Bool
  test p = eqb (slab_of batch p) t && is_kept ring batch (length xs) p

  outside : (p : ℕ) → p / batch ≢ t → test p ≡ false
  outside p e = let k : eqb (p / batch) t ≡ false = ne_eqb (p / batch) t e in rw k refl

  inside : (p : ℕ) → p / batch ≡ t → test p ≡ nat_lt (min (length xs) ((t + 1) * batch) - (p + 1)) ring
  inside p e =
      let k : eqb (p / batch) t ≡ true = eq-eqb (p / batch) t e in
      let after : is_kept ring batch (length xs) p ≡ nat_lt (min (length xs) ((t + 1) * batch) - (p + 1)) ring = ap (λ (s : ℕ). nat_lt (min (length xs) ((s + 1) * batch) - (p + 1)) ring) e in
      rw k after

  -- the positions before, in and behind the slab
  abbrev a : ℕ
  a = t * batch

  front_none : filter (λ (e : Entry). test e.position) (entries_from 0 (take a xs)) ≡ []
  front_none =
      let short = length-take-le a xs in
      none_pass test 0 (take a xs) (λ p low high. outside p (before_slab batch t p some (omega (arith, short, high))))

  behind_none : filter (λ (e : Entry). test e.position) (entries_from (a + batch) (drop batch (drop a xs))) ≡ []
  behind_none =
      let end : (t + 1) * batch ≡ a + batch = slab_ends batch t in
      none_pass test (a + batch) (drop batch (drop a xs)) (λ p low high. outside p (behind_slab batch t p some (subst (λ (n : ℕ). n ≤ p) (sym end) low)))

  slab_kept : filter (λ (e : Entry). test e.position) (entries_from a (take batch (drop a xs))) ≡ last_of ring (entries_from a (take batch (drop a xs)))
  slab_kept =
      let ys = take batch (drop a xs) in
      let m = length ys in
      let end : (t + 1) * batch ≡ a + batch = slab_ends batch t in
      let size : m ≡ min batch (length xs - a) = length-take-is batch (drop a xs) ∙ ap (λ (n : ℕ). min batch n) (length-drop a xs) in
      let at : (p : ℕ) → a ≤ p → p < a + m → test p ≡ nat_lt (a + m - (p + 1)) ring = λ p low high.
      let here = in_slab batch t p some low (omega (arith, high, size, end)) in
      let e : min (length xs) ((t + 1) * batch) ≡ a + m = omega (arith, high, low, size, end) in
      inside p here ∙ ap (λ (n : ℕ). nat_lt (n - (p + 1)) ring) e in
      let kept = back_pass test a (m - ring) ys
      (λ p low high early. at p low high ∙ le-ltb (a + m - (p + 1)) ring (omega (arith, early, high)))
      (λ p late high. at p (omega (arith, late)) high ∙ lt-ltb (a + m - (p + 1)) ring (omega (arith, late, high))) in
      kept ∙ ap (λ (n : ℕ). drop (n - ring) (entries_from a ys)) (sym (entries_length a ys))

  pub kept_is : kept_in ring batch t xs ≡ last_of ring (slab batch t xs)
  kept_is =
      let F : List Entry → List Entry = filter (λ (e : Entry). test e.position) in
      let A = entries_from 0 (take a xs) in
      let B = entries_from a (take batch (drop a xs)) in
      let C = entries_from (a + batch) (drop batch (drop a xs)) in
      let first : entries_from 0 xs ≡ A ++ entries_from a (drop a xs) = entries_split 0 a xs ∙ ap (λ (m : ℕ). A ++ entries_from m (drop a xs)) (omega arith) in
      let second : entries_from a (drop a xs) ≡ B ++ C = entries_split a batch (drop a xs) in
      ap F (first ∙ ap (λ (es : List Entry). A ++ es) second)
      ∙ filter-append (λ (e : Entry). test e.position) A (B ++ C)
      ∙ ap (λ (es : List Entry). es ++ F (B ++ C)) front_none
      ∙ filter-append (λ (e : Entry). test e.position) B C
      ∙ ap (λ (es : List Entry). F B ++ es) behind_none
      ∙ append-nil (F B)
      ∙ slab_kept
