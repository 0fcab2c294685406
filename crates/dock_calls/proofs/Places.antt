-- Openings, one after another.
use Rattle.std.proofs.Common.{◌≡◌, ◌≢◌, ℕ, zero, suc, ◌+◌, true, cond, List, [], ◌∷◌, ◌++◌, drop, slice_get, Option, None, Some, refl, sym, ap, ◌∙◌, subst, arith, inl, inr, add-zero, zero-add}
use Rattle.std.proofs.lemmas.Slice.Eq.{bytes_eq-Decides}
use Rattle.std.proofs.lemmas.Bool.Decides.{Decides-eqb}
use Rattle.std.proofs.lemmas.List.{drop-drop}
use Rattle.std.proofs.lemmas.List.Sums.{sum_by-append}
use Rattle.std.proofs.lemmas.Bool.{cases_Bool, false≢true}
use Rattle.rec_base.specs.declared.name.Name.{Name}
use Rattle.rec_base.specs.declared.name.Name.TheVariants.{File, Peer}
use Rattle.rec_base.specs.Contents.{Contents, Given, TakesFirst, Opens, OpensMarked, IsInput, IsMarked, IsOpened}
use Rattle.rec_base.specs.Files.{same_name}
use Rattle.rec_base.proofs.NameFiles.{same_name-equal}
use Rattle.dock_calls.specs.Places.{place_of, IsInputAt, IsOpenedAt, IsAfter}

pub same_name-refl : (a : Name) → same_name a a ≡ true
same_name-refl (File a) = (bytes_eq-Decides a a).1 refl
same_name-refl (Peer a m q) = grind (arith, (bytes_eq-Decides a a).1 refl, (Decides-eqb m m).1 refl, (bytes_eq-Decides q q).1 refl)

place_of-append : (names : List Name) (name n : Name) → place_of (names ++ name ∷ []) n ≡ place_of names n + cond (same_name name n) 1 0
place_of-append names name n = sum_by-append (λ other. cond (same_name other n) 1 0) names (name ∷ []) ∙ ap (λ k. place_of names n + k) (zero-add (cond (same_name name n) 1 0))

-- before any opening
pub IsAfter-none : {A : Type 0} (c : Option (Given A)) → IsAfter c c []
IsAfter-none None = record { rest = tt }
IsAfter-none (Some f) = record { rest = λ name. refl }

-- what is next at a name is the text at its place
slice_get-none : {A : Type 0} (m : ℕ) → slice_get {X = A} [] m ≡ None
slice_get-none zero = refl
slice_get-none (suc m) = refl

slice_get-drop : {A : Type 0} (xs : List A) (n m : ℕ) → slice_get (drop n xs) m ≡ slice_get xs (n + m)
slice_get-drop xs zero m = ap (λ (k : ℕ). slice_get xs k) (sym (zero-add m))
slice_get-drop [] (suc n) m = slice_get-none m ∙ sym (slice_get-none (suc n + m))
slice_get-drop (x ∷ xs) (suc n) m =
    let e : suc n + m ≡ suc (n + m) = omega arith in
    slice_get-drop xs n m ∙ ap (λ (k : ℕ). slice_get (x ∷ xs) k) (sym e)

next_is : {A : Type 0} (xs ys : List A) (n : ℕ) → ys ≡ drop n xs → slice_get ys 0 ≡ slice_get xs n
next_is {A} xs ys n is = ap (λ (t : List A). slice_get t 0) is ∙ slice_get-drop xs n 0 ∙ ap (λ (k : ℕ). slice_get xs k) (add-zero n)

pub IsInput-at : (c d : Option Contents) (names : List Name) (name : Name) (text : List ℕ) → IsAfter c d names → IsInput d name 0 text → IsInputAt c names name text
IsInput-at None d names name text after input = tt
IsInput-at (Some f) None names name text after input = absurd after.rest
IsInput-at (Some f) (Some g) names name text after input = sym (next_is (f name) (g name) (place_of names name) (after.rest name)) ∙ input

pub IsOpened-at : (c d : Option Contents) (names : List Name) (name : Name) (left : Option (List ℕ)) → IsAfter c d names → IsOpened d name 0 left → IsOpenedAt c names name left
IsOpened-at None d names name left after opened = tt
IsOpened-at (Some f) None names name left after opened = absurd after.rest
IsOpened-at (Some f) (Some g) names name left after opened =
    (opened.0, opened.1, sym (next_is (f name) (g name) (place_of names name) (after.rest name)) ∙ opened.2)

pub IsMarked-at : {I : Type 0} (c d : Option (Given I)) (names : List Name) (name : Name) (mark : I) → IsAfter c d names → IsMarked d name 0 mark → IsMarked c name (place_of names name) mark
IsMarked-at None d names name mark after marked = tt
IsMarked-at (Some f) None names name mark after marked = absurd after.rest
IsMarked-at (Some f) (Some g) names name mark after marked = sym (next_is (f name) (g name) (place_of names name) (after.rest name)) ∙ marked

-- the first item at a name was taken off what was left
left_of_taken : {A : Type 0} (f g h : Given A) (names : List Name) (name : Name) (item : A) → ((n : Name) → g n ≡ drop (place_of names n) (f n)) → TakesFirst g h name item
    → (n : Name) → h n ≡ drop (place_of (names ++ name ∷ []) n) (f n)
left_of_taken {A} f g h names name item after opened = at
  where
    count : (n : Name) → place_of (names ++ name ∷ []) n ≡ place_of names n + cond (same_name name n) 1 0
    count n = place_of-append names name n

    here : drop (place_of names name + 1) (f name) ≡ h name
    here = sym (drop-drop 1 (place_of names name) (f name)) ∙ ap (λ (l : List A). drop 1 l) (sym (after name) ∙ opened.first)

    at : (n : Name) → h n ≡ drop (place_of (names ++ name ∷ []) n) (f n)
    at n = elim (cases_Bool (same_name name n)) [
      | inl same ↦
          let is : name ≡ n = same_name-equal name n same in
          let P : Name → Type 0 = λ m. drop (place_of names m + 1) (f m) ≡ h m in
          let one : place_of (names ++ name ∷ []) n ≡ place_of names n + 1 = count n ∙ ap (λ b. place_of names n + cond b 1 0) same in
          sym (ap (λ k. drop k (f n)) one ∙ subst P is here)
      | inr other ↦
          let differs : n ≢ name = λ e. false≢true (sym other ∙ ap (λ m. same_name m n) (sym e) ∙ same_name-refl n) in
          let none : place_of (names ++ name ∷ []) n ≡ place_of names n = count n ∙ ap (λ b. place_of names n + cond b 1 0) other ∙ add-zero (place_of names n) in
          opened.others n differs ∙ after n ∙ sym (ap (λ k. drop k (f n)) none)
    ]

-- one more was opened
pub IsAfter-opened : (c d e : Option Contents) (names : List Name) (name : Name) (left : Option (List ℕ)) → IsAfter c d names → Opens d e name left
    → IsAfter c e (names ++ name ∷ [])
IsAfter-opened None d e names name left after opened = record { rest = tt }
IsAfter-opened (Some f) None e names name left after opened = absurd after.rest
IsAfter-opened (Some f) (Some g) None names name left after opened = absurd opened
IsAfter-opened (Some f) (Some g) (Some h) names name left after opened = record { rest = left_of_taken f g h names name opened.0 after.rest opened.2 }

pub IsAfter-marked : {I : Type 0} (c d e : Option (Given I)) (names : List Name) (name : Name) (mark : I) → IsAfter c d names → OpensMarked d e name mark
    → IsAfter c e (names ++ name ∷ [])
IsAfter-marked None d e names name mark after opened = record { rest = tt }
IsAfter-marked (Some f) None e names name mark after opened = absurd after.rest
IsAfter-marked (Some f) (Some g) None names name mark after opened = absurd opened
IsAfter-marked (Some f) (Some g) (Some h) names name mark after opened = record { rest = left_of_taken f g h names name mark after.rest opened }

-- a source that was opened has the first mark at its name
pub IsMarked-first : {I : Type 0} (before after : Option (Given I)) (name : Name) (mark : I) → OpensMarked before after name mark → IsMarked before name 0 mark
IsMarked-first None after name mark opened = tt
IsMarked-first (Some f) None name mark opened = absurd opened
IsMarked-first {I} (Some f) (Some g) name mark opened = ap (λ (ms : List I). slice_get ms 0) opened.first

-- a source that was opened has the first text at its name
pub IsOpened-first : (before after : Option Contents) (name : Name) (left : Option (List ℕ)) → Opens before after name left → IsOpened before name 0 left
IsOpened-first None after name left opened = tt
IsOpened-first (Some f) None name left opened = absurd opened
IsOpened-first (Some f) (Some g) name left opened = (opened.0, opened.1, ap (λ (ts : List (List ℕ)). slice_get ts 0) opened.2.first)
