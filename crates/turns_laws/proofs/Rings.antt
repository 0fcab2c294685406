-- A ring that drops its oldest keeps the last entries.
use Rattle.std.proofs.Common.{◌≡◌, ℕ, zero, suc, ◌+◌, ◌-◌, ◌<◌, ◌≤◌, List, [], ◌∷◌, ◌++◌, length, drop, refl, sym, ap, ◌∙◌, arith, length-append, length-drop}
use Rattle.std.proofs.lemmas.List.{drop-drop}
use Rattle.turns_laws.specs.Slabs.{last_of}

drop_front : {A : Type 0} (n : ℕ) (xs ys : List A) → n ≤ length xs → drop n (xs ++ ys) ≡ drop n xs ++ ys
drop_front zero xs ys le = refl
drop_front (suc n) [] ys le = absurd (omega arith)
drop_front (suc n) (x ∷ xs) ys le = drop_front n xs ys (omega arith)

drop_more : {A : Type 0} (n : ℕ) (xs : List A) → drop 1 (drop n xs) ≡ drop (n + 1) xs
drop_more n xs = drop-drop 1 n xs

-- there is room: the entry joins the back
pub push_room : {A : Type 0} (ring : ℕ) (xs : List A) (v : A) → length xs < ring → last_of ring (xs ++ v ∷ []) ≡ last_of ring xs ++ v ∷ []
push_room ring xs v room =
    let long = length-append xs (v ∷ []) in
    let none : length (xs ++ v ∷ []) - ring ≡ 0 = omega (arith, long) in
    let same : length xs - ring ≡ 0 = omega arith in
    ap (λ (n : ℕ). drop n (xs ++ v ∷ [])) none ∙ sym (ap (λ (n : ℕ). drop n xs ++ v ∷ []) same)

-- the ring is full: the oldest goes, and the entry joins the back
pub push_full : {A : Type 0} (ring : ℕ) (xs : List A) (v : A) → 1 ≤ ring → ring ≤ length xs → last_of ring (xs ++ v ∷ []) ≡ drop 1 (last_of ring xs) ++ v ∷ []
push_full ring xs v some full =
    let long = length-append xs (v ∷ []) in
    let n = length xs - ring in
    let more : length (xs ++ v ∷ []) - ring ≡ n + 1 = omega (arith, long) in
    let within : n + 1 ≤ length xs = omega arith in
    ap (λ (k : ℕ). drop k (xs ++ v ∷ [])) more ∙ drop_front (n + 1) xs (v ∷ []) within ∙ sym (ap (λ (t : List _). t ++ v ∷ []) (drop_more n xs))

-- how many it holds
pub held_count : {A : Type 0} (ring : ℕ) (xs : List A) → ring ≤ length xs → length (last_of ring xs) ≡ ring
held_count ring xs full = let e = length-drop (length xs - ring) xs in omega (arith, e)
