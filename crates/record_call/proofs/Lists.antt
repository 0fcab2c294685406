-- Items of a list, one after the other.
use Rattle.std.proofs.Common.{◌≡◌, ◌≢◌, ℕ, zero, suc, ◌+◌, ◌<◌, ◌≤◌, ◌&&◌, Bool, true, false, get_or, List, [], ◌∷◌, ◌++◌, length, take, drop, map, Some, None, refl, sym, ap, ◌∙◌, arith}
use Rattle.std.specs.Prelude.{slice_get}
use Rattle.std.specs.List.{list_all}
use Rattle.std.proofs.lemmas.Option.{slice_get_within, get_or_from_slice_get}
use Rattle.std.proofs.lemmas.List.{take_more, take_all, map-append}
use Rattle.std.proofs.lemmas.List.Folds.{list_all_at, list_all_more}

-- one item that fails the test is enough
pub not_all : {X : Type 0} (p : X → Bool) (xs : List X) (i : ℕ) (x : X) → Some x ≡ slice_get xs i → p x ≡ false → list_all p xs ≡ false
not_all p xs i x e h = list_all_at p xs i x (slice_get_within xs i x (sym e)) (ap p (get_or_from_slice_get xs i x x (sym e)) ∙ h)

-- one item more
pub take_next : {X : Type 0} (xs : List X) (i : ℕ) (x : X) → slice_get xs i ≡ Some x → take (i + 1) xs ≡ take i xs ++ x ∷ []
take_next {X} xs i x e = take_more xs i x (slice_get_within xs i x e) ∙ ap (λ (y : X). take i xs ++ y ∷ []) (get_or_from_slice_get xs i x x e)

-- what stands before and behind an item
pub parts_at : {X : Type 0} (xs : List X) (i : ℕ) (x : X) → slice_get xs i ≡ Some x → xs ≡ take i xs ++ x ∷ drop (suc i) xs
parts_at [] zero x e = absurd cc
parts_at [] (suc i) x e = absurd cc
parts_at {X} (y ∷ xs) zero x e = let same : y ≡ x = cc in ap (λ (z : X). z ∷ xs) same
parts_at {X} (y ∷ xs) (suc i) x e = ap (λ (t : List X). y ∷ t) (parts_at xs i x e)

-- a place within has an item
pub is_there : {X : Type 0} (xs : List X) (i : ℕ) → i < length xs → None ≡ slice_get xs i → ⊥
is_there [] i lt e = absurd (omega arith)
is_there (x ∷ xs) zero lt e = absurd cc
is_there (x ∷ xs) (suc i) lt e = is_there xs i (omega arith) e

both_true : (a b : Bool) → a ≡ true → b ≡ true → (a && b) ≡ true
both_true a b e f = rw (e, f) refl

-- the items so far pass the test, and one more
pub all_so_far : {X : Type 0} (p : X → Bool) (xs : List X) (i : ℕ) (x : X) → Some x ≡ slice_get xs i → p x ≡ true → list_all p (take i xs) ≡ true → list_all p (take (i + 1) xs) ≡ true
all_so_far p xs i x e h so_far =
    list_all_more p xs i x (slice_get_within xs i x (sym e)) ∙ both_true (list_all p (take i xs)) (p (get_or xs i x)) so_far (ap p (get_or_from_slice_get xs i x x (sym e)) ∙ h)

-- the items so far are all
pub all_of : {X : Type 0} (p : X → Bool) (xs : List X) (i : ℕ) → length xs ≤ i → list_all p (take i xs) ≡ true → list_all p xs ≡ true
all_of {X} p xs i le so_far = ap (λ (t : List X). list_all p t) (sym (take_all i xs le)) ∙ so_far

-- the texts of lines are those of the items so far, and of one more
pub mapped_next : {L X : Type 0} (text : L → List ℕ) (f : X → List ℕ) (ls : List L) (xs : List X) (i : ℕ) (l : L) (x : X) → Some x ≡ slice_get xs i → map text ls ≡ map f (take i xs) → text l ≡ f x
    → map text (ls ++ l ∷ []) ≡ map f (take (i + 1) xs)
mapped_next {L} {X} text f ls xs i l x e so_far last =
    map-append text ls (l ∷ []) ∙ ap (λ (t : List (List ℕ)). t ++ text l ∷ []) so_far ∙ ap (λ (t : List ℕ). map f (take i xs) ++ t ∷ []) last
    ∙ sym (map-append f (take i xs) (x ∷ [])) ∙ ap (λ (t : List X). map f t) (sym (take_next xs i x (sym e)))

not_true : (b : Bool) → b ≢ true → b ≡ false
not_true true differs = absurd (differs refl)
not_true false differs = refl

true_or : (b : Bool) → b ≡ true → b ≡ false → ⊥
true_or b one other = absurd cc

pub not_all_true : {X : Type 0} (p : X → Bool) (xs : List X) (i : ℕ) (x : X) → Some x ≡ slice_get xs i → p x ≢ true → list_all p xs ≢ true
not_all_true p xs i x e h all = true_or (list_all p xs) all (not_all p xs i x e (not_true (p x) h))
