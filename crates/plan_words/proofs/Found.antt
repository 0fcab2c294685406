-- Items by place.
use Rattle.std.proofs.Common.{◌≡◌, ℕ, zero, suc, ◌+◌, ◌<◌, ◌||◌, Bool, true, false, List, [], ◌∷◌, length, take, Some, None, refl, sym, ap, ◌∙◌, arith, add-one}
use Rattle.std.specs.Prelude.{slice_get}
use Rattle.std.specs.List.{list_any}

or_true : (a b : Bool) → b ≡ true → (a || b) ≡ true
or_true true b e = refl
or_true false b e = e

left_false : (a b : Bool) → (a || b) ≡ false → a ≡ false
left_false true b e = absurd cc
left_false false b e = refl

right_false : (a b : Bool) → (a || b) ≡ false → b ≡ false
right_false true b e = absurd cc
right_false false b e = e

both_false : (a b : Bool) → a ≡ false → b ≡ false → (a || b) ≡ false
both_false a b e f = rw (e, f) refl

pub found : {X : Type 0} (p : X → Bool) (xs : List X) (i : ℕ) (x : X) → Some x ≡ slice_get xs i → p x ≡ true → list_any p xs ≡ true
found p [] i x e h = absurd cc
found p (y ∷ xs) zero x e h = let same : x ≡ y = cc in let t : p y ≡ true = sym (ap p same) ∙ h in rw t refl
found p (y ∷ xs) (suc i) x e h = or_true (p y) (list_any p xs) (found p xs i x e h)

not_yet : {X : Type 0} (p : X → Bool) (xs : List X) (i : ℕ) (x : X) → Some x ≡ slice_get xs i → p x ≡ false → list_any p (take i xs) ≡ false → list_any p (take (suc i) xs) ≡ false
not_yet p [] i x e h so_far = refl
not_yet p (y ∷ xs) zero x e h so_far = let same : x ≡ y = cc in both_false (p y) (list_any p (take zero xs)) (sym (ap p same) ∙ h) refl
not_yet p (y ∷ xs) (suc i) x e h so_far = both_false (p y) (list_any p (take (suc i) xs)) (left_false (p y) (list_any p (take i xs)) so_far) (not_yet p xs i x e h (right_false (p y) (list_any p (take i xs)) so_far))

pub not_so_far : {X : Type 0} (p : X → Bool) (xs : List X) (i : ℕ) (x : X) → Some x ≡ slice_get xs i → p x ≡ false → list_any p (take i xs) ≡ false → list_any p (take (i + 1) xs) ≡ false
not_so_far p xs i x e h so_far = rw (add-one i) (not_yet p xs i x e h so_far)

pub is_there : {X : Type 0} (xs : List X) (i : ℕ) → i < length xs → None ≡ slice_get xs i → ⊥
is_there [] i lt e = absurd (omega arith)
is_there (x ∷ xs) zero lt e = absurd cc
is_there (x ∷ xs) (suc i) lt e = is_there xs i (omega arith) e
