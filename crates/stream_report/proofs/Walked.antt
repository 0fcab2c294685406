-- The lines of items that are walked over, said one by one.
use Rattle.std.proofs.Common.{◌≡◌, ℕ, List, [], ◌∷◌, ◌++◌, length, take, map, Option, refl, sym, ap, ◌∙◌, subst, append_assoc, append-nil}
use Rattle.std.proofs.KnownBytes.{Appends-nil, Appends-trans}
use Rattle.std.proofs.lemmas.List.{map-append, length-map, take_at}
use Rattle.std.proofs.lemmas.Grind.{flat_map-append}
use Rattle.std.specs.Io.KnownBytes.{Appends}
use Rattle.rec_base.specs.Known.{AppendsFront, printed_line}
use Rattle.report_model.specs.Shown.{printed_lines}
use Rattle.stream_report.proofs.Said.{front_behind, front_longer}

-- the lines of the items before these were said
pub record IsSaid {X : Type 0} (f : X → List ℕ) (a b : Option (List ℕ)) (left all : List X) : Type 0 where
  pub done : List X
  pub parts : all ≡ done ++ left
  pub said : Appends a b (printed_lines (map f done))

pub none_said : {X : Type 0} (f : X → List ℕ) (a : Option (List ℕ)) (all : List X) → IsSaid f a a all all
none_said f a all = record { done = []; parts = refl; said = Appends-nil a }

lines_more : {X : Type 0} (f : X → List ℕ) (xs : List X) (x : X) → printed_lines (map f xs) ++ printed_line (f x) ≡ printed_lines (map f (xs ++ x ∷ []))
lines_more {X} f xs x =
    ap (λ (t : List ℕ). printed_lines (map f xs) ++ t) (sym (append-nil (printed_line (f x)))) ∙ sym (flat_map-append printed_line (map f xs) (f x ∷ [])) ∙ ap printed_lines (sym (map-append f xs (x ∷ [])))

parts_more : {X : Type 0} (all done left after : List X) (x : X) → all ≡ done ++ left → left ≡ x ∷ after → all ≡ (done ++ x ∷ []) ++ after
parts_more {X} all done left after x parts next = parts ∙ ap (λ (l : List X). done ++ l) next ∙ sym (append_assoc done (x ∷ []) after)

-- the line of one item more
pub one_said : {X : Type 0} (f : X → List ℕ) (a b c : Option (List ℕ)) (all left after : List X) (x : X) → IsSaid f a b left all → left ≡ x ∷ after → Appends b c (printed_line (f x)) → IsSaid f a c after all
one_said {X} f a b c all left after x k next last =
    let P : List ℕ → Type 0 = λ t. Appends a c t in
    record {
      done = k.done ++ x ∷ [];
      parts = parts_more all k.done left after x k.parts next;
      said = subst P (lines_more f k.done x) (Appends-trans a b c _ _ k.said last);
    }

-- a front of the line of one item more
pub front_said_of : {X : Type 0} (f : X → List ℕ) (a b c : Option (List ℕ)) (all left after : List X) (x : X) → IsSaid f a b left all → left ≡ x ∷ after → AppendsFront b c (printed_line (f x))
    → AppendsFront a c (printed_lines (map f all))
front_said_of {X} f a b c all left after x k next last =
    let P : List ℕ → Type 0 = λ t. AppendsFront a c t in
    let so_far = subst P (lines_more f k.done x) (front_behind a b c _ _ k.said last) in
    let whole : printed_lines (map f (k.done ++ x ∷ [])) ++ printed_lines (map f after) ≡ printed_lines (map f all) =
    sym (flat_map-append printed_line (map f (k.done ++ x ∷ [])) (map f after)) ∙ ap printed_lines (sym (map-append f (k.done ++ x ∷ []) after)) ∙ ap (λ (l : List X). printed_lines (map f l)) (sym (parts_more all k.done left after x k.parts next)) in
    subst P whole (front_longer a c _ (printed_lines (map f after)) so_far)

-- some of the first lines
pub some_said : {X : Type 0} (f : X → List ℕ) (a b : Option (List ℕ)) (all left : List X) → IsSaid f a b left all → (n : ℕ) × Appends a b (printed_lines (take n (map f all)))
some_said {X} f a b all left k =
    let P : List (List ℕ) → Type 0 = λ t. Appends a b (printed_lines t) in
    let first : take (length k.done) (map f all) ≡ map f k.done = ap (λ (l : List X). take (length k.done) (map f l)) k.parts ∙ ap (take (length k.done)) (map-append f k.done left) ∙ take_at (map f k.done) (map f left) (length k.done) (length-map k.done f) in
    (length k.done, subst P (sym first) k.said)

-- all lines
pub all_said_of : {X : Type 0} (f : X → List ℕ) (a b : Option (List ℕ)) (all left : List X) → IsSaid f a b left all → left ≡ [] → Appends a b (printed_lines (map f all))
all_said_of {X} f a b all left k none =
    let P : List X → Type 0 = λ l. Appends a b (printed_lines (map f l)) in
    subst P (sym (k.parts ∙ ap (λ (l : List X). k.done ++ l) none ∙ append-nil k.done)) k.said
