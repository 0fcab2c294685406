-- What was said grows line by line.
use Rattle.std.proofs.Common.{◌≡◌, ℕ, zero, suc, ◌+◌, ◌≤◌, List, [], ◌∷◌, ◌++◌, length, take, Option, refl, sym, ap, subst, arith, Result, Ok, Err, OnOk}
use Rattle.std.proofs.Math.Seq.{take-append-add}
use Rattle.std.proofs.KnownBytes.{Appends-trans}
use Rattle.std.specs.Io.KnownBytes.{Appends}
use Rattle.rec_base.specs.Causes.{Rose}
use Rattle.rec_base.specs.Known.{AppendsFront}

-- all of one text, and a front of the next
pub front_behind : (a b c : Option (List ℕ)) (xs ys : List ℕ) → Appends a b xs → AppendsFront b c ys → AppendsFront a c (xs ++ ys)
front_behind a b c xs ys first second =
    let P : List ℕ → Type 0 = λ t. Appends a c t in
    (length xs + second.0, subst P (sym (take-append-add xs ys second.0)) (Appends-trans a b c _ _ first second.1))

front_of : (n : ℕ) (xs ys : List ℕ) → (m : ℕ) × (take m (xs ++ ys) ≡ take n xs)
front_of zero xs ys = (0, refl)
front_of (suc n) [] ys = (0, refl)
front_of (suc n) (x ∷ xs) ys = let r = front_of n xs ys in (suc r.0, ap (λ (t : List ℕ). x ∷ t) r.1)

-- a front of a text is one of a longer text
pub front_longer : (a b : Option (List ℕ)) (xs ys : List ℕ) → AppendsFront a b xs → AppendsFront a b (xs ++ ys)
front_longer a b xs ys front =
    let m = front_of front.0 xs ys in
    let P : List ℕ → Type 0 = λ t. Appends a b t in
    (m.0, subst P (sym m.1) front.1)

-- the count rose since an earlier moment too
pub rose_later : (a b n : ℕ) → a ≤ b → Rose b n → Rose a n
rose_later a b n le rose = omega (arith, le, rose)

-- what follows where all went well
pub on_ok : {T E : Type 0} (r : Result T E) (P Q : Type 0) → (P → Q) → OnOk r P → OnOk r Q
on_ok (Ok x) P Q f h = f h
on_ok (Err x) P Q f h = tt
