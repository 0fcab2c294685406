-- Reading values one after the other, as a loop does.
use Rattle.std.proofs.Common.{◌≡◌, ℕ, suc, ◌-◌, ◌+◌, ◌≤◌, ◌<◌, List, [], ◌∷◌, ◌++◌, Ok, Err, refl, sym, ap, ◌∙◌, append_assoc, arith}
use Rattle.std.proofs.lemmas.List.{append-nil}
use Rattle.xdf_model.specs.Reading.{Fault, Found, ◌>>=◌, many_at}
use Rattle.xdf_model_laws.proofs.Readers.{found}

-- what was read before, and what is still read
abbrev pub with_front : {A : Type 0} → List A → Found (List A) → Found (List A)
with_front front read = read >>= λ x. Ok (front ++ x.0, x.1)

regroup : {A : Type 0} (front : List A) (a : A) (read : Found (List A)) → with_front front (read >>= λ x. Ok (a ∷ x.0, x.1)) ≡ with_front (front ++ a ∷ []) read
regroup {A} front a (Ok x) = ap (λ (l : List A). found l x.1) (simp append_assoc)
regroup front a (Err f) = refl

pub goes_on : {A : Type 0} (read : List ℕ → Found A) (front : List A) (count i : ℕ) (b : List ℕ) (a : A) (rest : List ℕ) (total : Found (List A)) → i < count → read b ≡ found a rest
    → with_front front (many_at read (count - i) b) ≡ total → with_front (front ++ a ∷ []) (many_at read (count - (i + 1)) rest) ≡ total
unfolding many_at
goes_on read front count i b a rest total lt h so_far =
    let k : count - i ≡ suc (count - (i + 1)) = omega arith in
    let one : with_front front (many_at read (count - i) b) ≡ with_front (front ++ a ∷ []) (many_at read (count - (i + 1)) rest) = rw (k, h) (regroup front a (many_at read (count - (i + 1)) rest)) in
    sym one ∙ so_far

pub ends : {A : Type 0} (read : List ℕ → Found A) (front : List A) (count i : ℕ) (b : List ℕ) (f : Fault) (total : Found (List A)) → i < count → read b ≡ Err f
    → with_front front (many_at read (count - i) b) ≡ total → total ≡ Err f
unfolding many_at
ends read front count i b f total lt h so_far =
    let k : count - i ≡ suc (count - (i + 1)) = omega arith in
    sym so_far ∙ rw (k, h) refl

pub is_done : {A : Type 0} (read : List ℕ → Found A) (front : List A) (count i : ℕ) (b : List ℕ) (total : Found (List A)) → count ≤ i → with_front front (many_at read (count - i) b) ≡ total → total ≡ found front b
unfolding many_at
is_done {A} read front count i b total le so_far =
    let k : count - i ≡ 0 = omega arith in
    let one : with_front front (many_at read (count - i) b) ≡ found front b = rw k (ap (λ (l : List A). found l b) (append-nil front)) in
    sym so_far ∙ one

pub begins : {A : Type 0} (read : Found (List A)) → with_front [] read ≡ read
begins (Ok x) = refl
begins (Err f) = refl
