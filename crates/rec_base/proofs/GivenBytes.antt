-- What one read of a source of some bytes does to them.
use Rattle.std.proofs.Common.{◌≡◌, ℕ, ◌+◌, ◌<◌, min, List, [], ◌∷◌, ◌++◌, length, take, drop, refl, sym, ap, ◌∙◌, arith, length-drop}
use Rattle.std.proofs.lemmas.List.{take-append-drop, drop-drop}

none_left : (xs : List ℕ) → length xs ≡ 0 → xs ≡ []
none_left [] e = refl
none_left (x ∷ xs) e = absurd (omega (arith, e))

-- n bytes more were given
pub given_split : (bytes : List ℕ) (given n : ℕ) → drop given bytes ≡ take n (drop given bytes) ++ drop (given + n) bytes
given_split bytes given n = sym (take-append-drop n (drop given bytes)) ∙ ap (λ (rest : List ℕ). take n (drop given bytes) ++ rest) (drop-drop n given bytes)

-- none were, though there was room
pub none_given : (bytes : List ℕ) (given n room : ℕ) → n ≡ min (length (drop given bytes)) room → n ≡ 0 → 0 < room → drop (given + n) bytes ≡ []
none_given bytes given n room count none some =
    let all = length-drop given bytes in
    let rest = length-drop (given + n) bytes in
    none_left (drop (given + n) bytes) (omega (arith, all, rest, count, none, some))
