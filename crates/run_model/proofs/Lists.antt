-- Places of lists.
use Rattle.std.proofs.Common.{◌≡◌, ◌≢◌, ◌⊎◌, inl, inr, ℕ, zero, suc, ◌+◌, ◌<◌, List, [], ◌∷◌, ◌++◌, length, map, drop, slice_get, slice_set, Some, None, refl, sym, ap, arith}
use Rattle.std.proofs.lemmas.List.{drop-drop}

pub item_at : {A : Type 0} (xs : List A) (p : ℕ) → p < length xs → (x : A) × (slice_get xs p ≡ Some x)
item_at [] p low = absurd (omega (arith, low))
item_at (x ∷ xs) zero low = (x, refl)
item_at (x ∷ xs) (suc p) low = item_at xs p (omega (arith, low))

pub map_at : {A B : Type 0} (f : A → B) (xs : List A) (p : ℕ) (x : A) → slice_get xs p ≡ Some x → slice_get (map f xs) p ≡ Some (f x)
map_at f [] p x e = absurd cc
map_at f (y ∷ xs) zero x e = ap Some (ap f (cc e))
map_at f (y ∷ xs) (suc p) x e = map_at f xs p x e

pub same_or : (m n : ℕ) → (m ≡ n) ⊎ (m ≢ n)
same_or zero zero = inl refl
same_or zero (suc n) = inr (λ h. omega (arith, h))
same_or (suc m) zero = inr (λ h. omega (arith, h))
same_or (suc m) (suc n) = elim (same_or m n) [ inl e ↦ inl (ap suc e) | inr e ↦ inr (λ h. e (omega (arith, h))) ]

-- ---- the front

pub cons_of : {A : Type 0} (q : List A) (x : A) → slice_get q 0 ≡ Some x → q ≡ x ∷ drop 1 q
cons_of [] x e = absurd cc
cons_of (y ∷ q) x e = let same : y ≡ x = cc in ap (λ (z : _). z ∷ q) same

pub nil_of : {A : Type 0} (q : List A) → slice_get q 0 ≡ None → q ≡ []
nil_of [] e = refl
nil_of (y ∷ q) e = absurd cc

-- one more was taken off the front of those that are left
pub drop_next : {A : Type 0} (n : ℕ) (xs : List A) → drop 1 (drop n xs) ≡ drop (n + 1) xs
drop_next n xs = drop-drop 1 n xs

pub front_at : {A : Type 0} (n : ℕ) (xs : List A) → slice_get (drop n xs) 0 ≡ slice_get xs n
front_at zero xs = refl
front_at (suc n) [] = refl
front_at (suc n) (x ∷ xs) = front_at n xs

-- ---- one more, or another

pub push_cases : {A : Type 0} (xs : List A) (y z : A) (p : ℕ) → slice_get (xs ++ y ∷ []) p ≡ Some z → ((p < length xs) × (slice_get xs p ≡ Some z)) ⊎ ((p ≡ length xs) × (y ≡ z))
push_cases [] y z zero e = inr (refl, cc e)
push_cases [] y z (suc p) e = absurd cc
push_cases (x ∷ xs) y z zero e = inl (omega arith, e)
push_cases (x ∷ xs) y z (suc p) e = elim (push_cases xs y z p e) [ inl k ↦ inl (omega (arith, k.0), k.1) | inr k ↦ inr (ap suc k.0, k.1) ]

-- an item of a list in which one was replaced
pub set_cases : {A : Type 0} (xs : List A) (i p : ℕ) (v x : A) → slice_get (slice_set xs i v) p ≡ Some x → ((p ≡ i) × (x ≡ v)) ⊎ ((p ≢ i) × (slice_get xs p ≡ Some x))
set_cases [] i p v x e = absurd cc
set_cases (y ∷ xs) zero zero v x e = inl (refl, sym (cc e))
set_cases (y ∷ xs) zero (suc p) v x e = inr ((λ h. omega (arith, h)), e)
set_cases (y ∷ xs) (suc i) zero v x e = inr ((λ h. omega (arith, h)), e)
set_cases (y ∷ xs) (suc i) (suc p) v x e =
    elim (set_cases xs i p v x e) [ inl k ↦ inl (ap suc k.0, k.1) | inr k ↦ inr ((λ h. k.0 (omega (arith, h))), k.1) ]

-- the others stay
pub set_else : {A : Type 0} (xs : List A) (i p : ℕ) (v : A) → p ≢ i → slice_get (slice_set xs i v) p ≡ slice_get xs p
set_else [] i p v apart = refl
set_else (y ∷ xs) zero zero v apart = absurd (apart refl)
set_else (y ∷ xs) zero (suc p) v apart = refl
set_else (y ∷ xs) (suc i) zero v apart = refl
set_else (y ∷ xs) (suc i) (suc p) v apart = set_else xs i p v (λ h. apart (ap suc h))
