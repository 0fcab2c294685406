-- Answers that are yes or no.
use Rattle.std.proofs.Common.{◌≡◌, ◌↔◌, Bool, true, false, IsTrue, refl, sym}

-- two that hold of the same are one
pub same_by_iff : {P : Type 0} (a b : Bool) → (IsTrue a ↔ P) → (b ≡ true → P) → (P → b ≡ true) → a ≡ b
same_by_iff true b iff from to = sym (to (iff.0 refl))
same_by_iff false true iff from to = iff.1 (from refl)
same_by_iff false false iff from to = refl
