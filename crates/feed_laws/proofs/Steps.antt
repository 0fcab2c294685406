-- Steps of a reader: what was found, and what a test says that did not fail.
use Rattle.std.proofs.Common.{◌≡◌, ℕ, Bool, true, false, cond, List, Result, Ok, Err, refl, ap}
use Rattle.xdf_model_laws.proofs.Readers.{ok_is}
use Rattle.feed_model.specs.FeedReading.{FeedFault, Taken}

abbrev pub taken : {A : Type 0} → A → List ℕ → Taken A
taken a rest = Ok (a, rest)

abbrev pub failed : {A : Type 0} → FeedFault → Taken A
failed f = Err f

pub same_value : {A : Type 0} {x y : A} {s t : List ℕ} → taken x s ≡ taken y t → x ≡ y
same_value {A} {x} {y} {s} {t} e = ap (λ (p : A × List ℕ). p.0) (ok_is (x, s) (y, t) e)

pub same_rest : {A : Type 0} {x y : A} {s t : List ℕ} → taken x s ≡ taken y t → s ≡ t
same_rest {A} {x} {y} {s} {t} e = ap (λ (p : A × List ℕ). p.1) (ok_is (x, s) (y, t) e)

-- what follows a test that refuses where it is true
pub refused_not : {A E : Type 0} (b : Bool) (d : E) (r : Result A E) (y : A) → cond b (Err d) r ≡ Ok y → (b ≡ false) × (r ≡ Ok y)
refused_not true d r y e = absurd cc
refused_not false d r y e = (refl, e)

-- what follows a test that refuses where it is false
pub allowed : {A E : Type 0} (b : Bool) (d : E) (r : Result A E) (y : A) → cond b r (Err d) ≡ Ok y → (b ≡ true) × (r ≡ Ok y)
allowed true d r y e = (refl, e)
allowed false d r y e = absurd cc
