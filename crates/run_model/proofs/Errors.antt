-- Errors that `?` hands on.
use Rattle.std.proofs.Common.{◌≡◌, Result, Ok, Err, ap, ◌∙◌}
use Rattle.std.specs.Prelude.{IsErrOf, IsErrAnd, OnErr}
use Rattle.std.proofs.lemmas.Result.{err_from_is_err_and}

-- what `?` answers is the error that came
pub handed : {T U E : Type 0} (r : Result U E) (f o : E) → IsErrAnd r (λ x. x ≡ f) → IsErrOf {T = U} r o → IsErrOf {T = T} (Err f) o
handed {T} {U} {E} r f o was is =
    let p = err_from_is_err_and r was in
    let q : f ≡ o = cc (p.1, p.2, is) in
    ap (λ (x : E). Err x) q

-- the error that came is what `?` answers
pub handed_back : {T U E : Type 0} (r : Result U E) (f o : E) → IsErrAnd r (λ x. x ≡ f) → IsErrOf {T = T} (Err f) o → IsErrOf r o
handed_back {T} {U} {E} r f o was is =
    let p = err_from_is_err_and r was in
    let q : f ≡ o = cc is in
    p.1 ∙ ap (λ (x : E). Err x) (p.2 ∙ q)

-- an error, whatever it is, and a fact
pub on_err : {T E : Type 0} {P : Type 0} (r : Result T E) → P → OnErr r P
on_err (Ok x) h = tt
on_err (Err e) h = h
