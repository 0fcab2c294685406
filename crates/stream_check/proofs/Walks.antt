-- Lists that are gone over from their front.
use Rattle.std.proofs.Common.{◌≡◌, ℕ, zero, suc, ◌+◌, ◌<◌, ◌||◌, Bool, List, [], ◌∷◌, ◌++◌, length, take, drop, map, set, get_or, refl, sym, ap, ◌∙◌, arith, add-one}
use Rattle.std.specs.List.{list_any}
use Rattle.std.proofs.lemmas.List.{take_more}
use Rattle.std.proofs.lemmas.List.Recursion.{or_push}

walked : {X : Type 0} (f : X → X) (old : List X) (i : ℕ) (d : X) → i < length old
    → set (map f (take i old) ++ drop i old) i (f (get_or (map f (take i old) ++ drop i old) i d)) ≡ map f (take (suc i) old) ++ drop (suc i) old
walked f [] i d lt = absurd (omega arith)
walked f (x ∷ xs) zero d lt = refl
walked f (x ∷ xs) (suc k) d lt = ap (λ (l : List _). f x ∷ l) (walked f xs k d (omega arith))

-- one item more was changed in its place
pub mapped_next : {X : Type 0} (f : X → X) (old now : List X) (i : ℕ) (d y : X) → i < length old → now ≡ map f (take i old) ++ drop i old → y ≡ f (get_or now i d) → set now i y ≡ map f (take (i + 1) old) ++ drop (i + 1) old
mapped_next f old now i d y lt so_far is =
    rw add-one (ap (λ (z : _). set now i z) is ∙ ap (λ (l : List _). set l i (f (get_or l i d))) so_far ∙ walked f old i d lt)

there : {X : Type 0} (f : X → X) (old : List X) (i : ℕ) (d : X) → i < length old → get_or (map f (take i old) ++ drop i old) i d ≡ get_or old i d
there f [] i d lt = absurd (omega arith)
there f (x ∷ xs) zero d lt = refl
there f (x ∷ xs) (suc k) d lt = there f xs k d (omega arith)

-- whether one item more is taken, which was the old one before it was changed
pub any_next : {X : Type 0} (f : X → X) (p : X → Bool) (old now : List X) (i : ℕ) (d : X) (a r : Bool) → i < length old → now ≡ map f (take i old) ++ drop i old → a ≡ list_any p (take i old) → r ≡ p (get_or now i d) → (a || r) ≡ list_any p (take (i + 1) old)
any_next {X} f p old now i d a r lt same so_far is =
    let item : get_or now i d ≡ get_or old i d = ap (λ (l : List X). get_or l i d) same ∙ there f old i d lt in
    ap (λ (b : Bool). b || r) so_far
    ∙ ap (λ (b : Bool). list_any p (take i old) || b) (is ∙ ap p item)
    ∙ sym (or_push (list_any p) p refl (λ _ _. refl) (take i old) (get_or old i d))
    ∙ ap (list_any p) (sym (take_more old i d lt))
