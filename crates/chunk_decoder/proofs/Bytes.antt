-- The boundary bytes, one by one.
use Rattle.std.proofs.Common.{◌≡◌, ℕ, suc, ◌+◌, ◌-◌, ◌<◌, true, false, cond, eqb, List, ◌∷◌, length, drop, get_or, Err, refl, sym, ap, ◌∙◌, arith, drop-cons, add-one, eq-eqb, ne_eqb}
use Rattle.std.proofs.lemmas.List.{length-drop}
use Rattle.xdf_model.specs.declared.types.Why.TheVariants.{BadBoundary}
use Rattle.xdf_model.specs.Reading.{wrong}
use Rattle.chunk_grammar.specs.Standing.{Judged, same_bytes}

abbrev judged_wrong : ℕ → Judged
judged_wrong left = Err (wrong left BadBoundary)

pub same_at : (ws b : List ℕ) (i : ℕ) → i < length ws → i < length b
    → same_bytes (drop i ws) (drop i b) ≡ cond (eqb (get_or ws i 0) (get_or b i 0)) (same_bytes (drop (i + 1) ws) (drop (i + 1) b)) (Err (wrong (length b - i) BadBoundary))
same_at ws b i in_ws in_b =
    let left : length (drop (suc i) b) + 1 ≡ length b - i = omega (arith, length-drop (suc i) b) in
    rw add-one (ap (λ (t : List ℕ). same_bytes t (drop i b)) (drop-cons ws i 0 in_ws) ∙ ap (λ (t : List ℕ). same_bytes (get_or ws i 0 ∷ drop (suc i) ws) t) (drop-cons b i 0 in_b)
    ∙ ap (λ (n : ℕ). cond (eqb (get_or ws i 0) (get_or b i 0)) (same_bytes (drop (suc i) ws) (drop (suc i) b)) (judged_wrong n)) left)

pub same_stays : (ws b : List ℕ) (i : ℕ) (total : Judged) → i < length ws → i < length b → get_or b i 0 ≡ get_or ws i 0 → total ≡ same_bytes (drop i ws) (drop i b) → total ≡ same_bytes (drop (i + 1) ws) (drop (i + 1) b)
same_stays ws b i total in_ws in_b same so_far =
    let test : eqb (get_or ws i 0) (get_or b i 0) ≡ true = eq-eqb _ _ (sym same) in
    so_far ∙ same_at ws b i in_ws in_b ∙ rw test refl

pub same_ends : (ws b : List ℕ) (i : ℕ) (total : Judged) → i < length ws → i < length b → (get_or b i 0 ≡ get_or ws i 0 → ⊥) → total ≡ same_bytes (drop i ws) (drop i b) → total ≡ Err (wrong (length b - i) BadBoundary)
same_ends ws b i total in_ws in_b differ so_far =
    let test : eqb (get_or ws i 0) (get_or b i 0) ≡ false = ne_eqb _ _ (λ e. differ (sym e)) in
    so_far ∙ same_at ws b i in_ws in_b ∙ rw test refl
