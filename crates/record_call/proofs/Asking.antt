-- What is asked of a dock, feed by feed.
use Rattle.std.proofs.Common.{◌≡◌, ℕ, suc, ◌+◌, ◌≤◌, List, [], ◌∷◌, ◌++◌, length, take, drop, Option, Some, Result, Ok, Err, refl, sym, ap, ◌∙◌, subst, append-nil, append_assoc}
use Rattle.std.specs.Prelude.{slice_get, OnOk}
use Rattle.std.proofs.lemmas.List.{map-append, take-append-drop, take_all}
use Rattle.rec_base.specs.declared.asked.Asked.{Asked}
use Rattle.rec_base.specs.declared.asked.Asked.TheVariants.{Opening}
use Rattle.rec_base.specs.declared.name.Name.{Name}
use Rattle.rec_base.specs.Asked.{AsksAll, AsksFront}
use Rattle.rec_base.specs.Contents.{Given, OpensMarked}
use Rattle.dock_calls.specs.Asking.{FailsAt, openings}
use Rattle.dock_calls.specs.Places.{IsAfter}
use Rattle.dock_calls.proofs.Asking.{AsksAll-none, AsksAll-more, AsksFront-more, AsksFront-all, AsksFront-longer, FailsAt-behind, FailsAt-longer}
use Rattle.dock_calls.proofs.Places.{IsAfter-marked}
use Rattle.record_call.specs.Feeds.{names_of, AreMarksLeft}
use Rattle.record_call.proofs.Lists.{take_next, parts_at}

openings-append : (xs ys : List Name) → openings (xs ++ ys) ≡ openings xs ++ openings ys
openings-append xs ys = map-append (λ (name : Name). Opening name) xs ys

module _ {F : Type 0} (opens : F → List Name) where
  names-append : (xs ys : List F) → names_of opens (xs ++ ys) ≡ names_of opens xs ++ names_of opens ys
  names-append [] ys = refl
  names-append (x ∷ xs) ys = ap (λ (t : List Name). opens x ++ t) (names-append xs ys) ∙ sym (append_assoc (opens x) (names_of opens xs) (names_of opens ys))

  abbrev order : List F → List Asked
  order feeds = openings (names_of opens feeds)

  order-append : (xs ys : List F) → order (xs ++ ys) ≡ order xs ++ order ys
  order-append xs ys = ap openings (names-append xs ys) ∙ openings-append (names_of opens xs) (names_of opens ys)

  order-one : (feed : F) → order (feed ∷ []) ≡ openings (opens feed)
  order-one feed = ap openings (append-nil (opens feed))

  -- one feed more was asked for
  pub asks_next : (a b c : Option (List Asked)) (feeds : List F) (i : ℕ) (feed : F) → slice_get feeds i ≡ Some feed → AsksAll a b (openings (names_of opens (take i feeds))) → AsksAll b c (openings (opens feed))
      → AsksAll a c (openings (names_of opens (take (i + 1) feeds)))
  asks_next a b c feeds i feed at first second =
      let is : order (take (i + 1) feeds) ≡ order (take i feeds) ++ openings (opens feed) =
      ap order (take_next feeds i feed at) ∙ order-append (take i feeds) (feed ∷ []) ∙ ap (λ (t : List Asked). order (take i feeds) ++ t) (order-one feed) in
      subst (λ (t : List Asked). AsksAll a c t) (sym is) (AsksAll-more a b c (order (take i feeds)) (openings (opens feed)) first second)

  parts : (feeds : List F) (i : ℕ) (feed : F) → slice_get feeds i ≡ Some feed → order feeds ≡ order (take i feeds) ++ (openings (opens feed) ++ order (drop (suc i) feeds))
  parts feeds i feed at =
      ap order (parts_at feeds i feed at) ∙ order-append (take i feeds) (feed ∷ drop (suc i) feeds)
      ∙ ap (λ (t : List Asked). order (take i feeds) ++ t) (openings-append (opens feed) (names_of opens (drop (suc i) feeds)))

  -- a front of the next was asked for
  pub front_next : (a b c : Option (List Asked)) (feeds : List F) (i : ℕ) (feed : F) → slice_get feeds i ≡ Some feed → AsksAll a b (openings (names_of opens (take i feeds))) → AsksFront b c (openings (opens feed))
      → AsksFront a c (openings (names_of opens feeds))
  front_next a b c feeds i feed at first second =
      subst (λ (t : List Asked). AsksFront a c t) (sym (parts feeds i feed at))
      (AsksFront-more a b c (order (take i feeds)) (openings (opens feed) ++ order (drop (suc i) feeds)) first (AsksFront-longer b c (openings (opens feed)) (order (drop (suc i) feeds)) second))

  -- the next failed
  pub fails_next : (a b c : Option (List Asked)) (feeds : List F) (i : ℕ) (feed : F) (before now : ℕ) → slice_get feeds i ≡ Some feed → AsksAll a b (openings (names_of opens (take i feeds)))
      → FailsAt b c (openings (opens feed)) before now → FailsAt a c (openings (names_of opens feeds)) before now
  fails_next a b c feeds i feed before now at first failed =
      subst (λ (t : List Asked). FailsAt a c t before now) (sym (parts feeds i feed at))
      (FailsAt-behind a b c (order (take i feeds)) (openings (opens feed) ++ order (drop (suc i) feeds)) before now first (FailsAt-longer b c (openings (opens feed)) (order (drop (suc i) feeds)) before now failed))

  -- some were asked for
  pub front_some : (a b : Option (List Asked)) (feeds : List F) (i : ℕ) → AsksAll a b (openings (names_of opens (take i feeds))) → AsksFront a b (openings (names_of opens feeds))
  front_some a b feeds i first =
      let is : order feeds ≡ order (take i feeds) ++ order (drop i feeds) = ap order (sym (take-append-drop i feeds)) ∙ order-append (take i feeds) (drop i feeds) in
      subst (λ (t : List Asked). AsksFront a b t) (sym is) (AsksFront-all a b (order (take i feeds)) (order (drop i feeds)) first)

  -- all were asked for
  pub asks_all_of : (a b : Option (List Asked)) (feeds : List F) (i : ℕ) → length feeds ≤ i → AsksAll a b (openings (names_of opens (take i feeds))) → AsksAll a b (openings (names_of opens feeds))
  asks_all_of a b feeds i long all = subst (λ (fs : List F). AsksAll a b (openings (names_of opens fs))) (take_all i feeds long) all

  pub asks_none : (a : Option (List Asked)) (feeds : List F) → AsksAll a a (openings (names_of opens (take 0 feeds)))
  asks_none a feeds = AsksAll-none a

  -- what marks are left, one feed more
  pub marks_next : {I : Type 0} (a b c : Option (Given I)) (feeds : List F) (i : ℕ) (feed : F) → slice_get feeds i ≡ Some feed → AreMarksLeft a b (names_of opens (take i feeds)) → AreMarksLeft b c (opens feed)
      → AreMarksLeft a c (names_of opens (take (i + 1) feeds))
  marks_next a b c feeds i feed at first second =
      let is : names_of opens (take (i + 1) feeds) ≡ names_of opens (take i feeds) ++ opens feed =
      ap (names_of opens) (take_next feeds i feed at) ∙ names-append (take i feeds) (feed ∷ []) ∙ ap (λ (t : List Name). names_of opens (take i feeds) ++ t) (append-nil (opens feed)) in
      record {
        left = λ marks names after.
            let P : List Name → Type 0 = λ ns. IsAfter marks c (names ++ ns) in
            let Q : List Name → Type 0 = λ ns. IsAfter marks c ns in
            subst P (sym is) (subst Q (append_assoc names (names_of opens (take i feeds)) (opens feed)) (second.left marks (names ++ names_of opens (take i feeds)) (first.left marks names after)));
      }

  pub marks_all : {I : Type 0} (a b : Option (Given I)) (feeds : List F) (i : ℕ) → length feeds ≤ i → AreMarksLeft a b (names_of opens (take i feeds)) → AreMarksLeft a b (names_of opens feeds)
  marks_all a b feeds i long left = subst (λ (fs : List F). AreMarksLeft a b (names_of opens fs)) (take_all i feeds long) left

pub marks_none : {I : Type 0} (a : Option (Given I)) → AreMarksLeft a a []
marks_none a = record { left = λ marks names after. let P : List Name → Type 0 = λ ns. IsAfter marks a ns in subst P (sym (append-nil names)) after }

-- one name was opened
pub marks_opened : {I : Type 0} (a b : Option (Given I)) (name : Name) (mark : I) → OpensMarked a b name mark → AreMarksLeft a b (name ∷ [])
marks_opened a b name mark opened = record { left = λ marks names after. IsAfter-marked marks a b names name mark after opened }

-- the count before is as it was
pub fails_from : {a b : Option (List Asked)} {order : List Asked} {first before now : ℕ} → FailsAt a b order before now → before ≡ first → FailsAt a b order first now
fails_from {a} {b} {order} {now = now} failed same = subst (λ (n : ℕ). FailsAt a b order n now) same failed

pub on_ok : {T E : Type 0} {P : Type 0} (r : Result T E) → P → OnOk r P
on_ok (Ok x) h = h
on_ok (Err e) h = tt
