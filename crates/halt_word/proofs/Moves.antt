-- Each kind of step keeps the rule.
use Rattle.std.proofs.Common.{◌≡◌, ◌≢◌, ℕ, zero, suc, ◌+◌, Bool, true, false, true≢false, List, [], ◌∷◌, set, sym, refl, ap, ◌∙◌, subst, ⊎_elim}
use Rattle.std.specs.Prelude.{◌||◌, slice_index, slice_set}
use mathlib.Core.Option.{some, some-injective, some-ne-none}
use lib.ListN.{get_elem?}
use Rattle.atomic_table.specs.Table.{Me, keeps, Allows, Splits, Joins, opening}
use Rattle.atomic_table.proofs.Lists.{at_set, at_snoc}
use Rattle.halt_word.specs.declared.rule.Knows.{Knows}
use Rattle.halt_word.specs.Rule.{newborn, unknowing, joined, after_raising, word_for, HasLooked, Fits, IsKept}

abbrev Each : (ℕ → Knows → Type 0) → List Knows → Type 0
Each F views = (port : ℕ) (v : Knows) → get_elem? views port ≡ some v → F port v

all_set : (F : ℕ → Knows → Type 0) (views : List Knows) (port : ℕ) (w : Knows) → F port w → ((j : ℕ) (u : Knows) → j ≢ port → get_elem? views j ≡ some u → F j u) → Each F (set views port w)
all_set F views port w mine others j u e = ⊎_elim (λ (x : (j ≡ port) × (w ≡ u)). subst (λ (y : ℕ × Knows). F y.0 y.1) (λ i. (sym x.0 i, x.1 i)) mine)
    (λ (x : (j ≢ port) × (get_elem? views j ≡ some u)). others j u x.0 x.1) (at_set views port j w u e)

-- who knows nothing fits
nothing : (raiser : ℕ) (raised : Bool) (port : ℕ) → Fits raiser raised port unknowing
nothing raiser raised port = record { raises = λ h. absurd (true≢false (sym h)); saw = λ h. absurd (true≢false (sym h)) }

first : (port : ℕ) (v : Knows) → get_elem? (newborn ∷ []) port ≡ some v → Fits 0 false port v
first zero v e = subst (λ (k : Knows). Fits 0 false zero k) (some-injective newborn v e) (record { raises = λ _. (refl, refl); saw = λ h. absurd (true≢false (sym h)) })
first (suc port) v e = absurd (some-ne-none v (sym e))

pub begins : IsKept (opening (0 ∷ []) [] newborn)
begins = record { raiser = 0; raised = false; word = refl; each = first }

-- a look changes no word
same_word : (l : List ℕ) (up : Bool) → l ≡ word_for up ∷ [] → slice_set l 0 (slice_index l 0) ≡ word_for up ∷ []
same_word l up e = ap (λ k. slice_set k 0 (slice_index k 0)) e

module _ (slots id : ℕ) (me : Me (Unit {0}) Knows) where
  pub raises : me.0.raises ≡ true → Allows IsKept slots id me 0 (λ _. 1) (λ _ w. (w.1 ≡ me.1) × (w.0 ≡ after_raising me.0))
  raises may s kept homes at fits =
      let w = after_raising me.0 in
      let mine = (kept.each id me.0 at).raises may in (
        w,
        keeps,
        tt,
        record {
          raiser = kept.raiser;
          raised = true;
          word = ap (λ l. slice_set l 0 1) kept.word;
          each = all_set (Fits kept.raiser true) s.views id w (record { raises = λ _. (mine.0, refl); saw = λ _. refl })
              (λ j u other e. record { raises = λ h. absurd (other (((kept.each j u e).raises h).0 ∙ sym mine.0)); saw = λ _. refl });
        },
        (refl, refl),
      )

  pub looks : Allows IsKept slots id me 0 (λ n. n) (λ n w. (w.1 ≡ me.1) × HasLooked me.0 n w.0)
  looks s kept homes at fits =
      let up = kept.raised in
      let w : Knows = record { raises = me.0.raises; raised = me.0.raised; saw = up; looks = me.0.looks + 1 } in
      let mine = kept.each id me.0 at in (
        w,
        keeps,
        tt,
        record {
          raiser = kept.raiser;
          raised = up;
          word = same_word s.words up kept.word;
          each = all_set (Fits kept.raiser up) s.views id w (record { raises = mine.raises; saw = λ h. h }) (λ j u other e. kept.each j u e);
        },
        (
          refl,
          record { now = refl; found = ap (λ l. slice_index l 0) kept.word; stays = mine.saw; own = λ may. sym (mine.raises may).1 },
        ),
      )

pub splits : (id : ℕ) (v : Knows) → Splits IsKept id v v unknowing
splits id v s kept at =
    let F : ℕ → Knows → Type 0 = Fits kept.raiser kept.raised in
    record {
      raiser = kept.raiser;
      raised = kept.raised;
      word = kept.word;
      each = λ j u e. ⊎_elim (λ x. all_set F s.views id v (kept.each id v at) (λ k y other f. kept.each k y f) j u x)
          (λ (is : unknowing ≡ u). subst (λ (k : Knows). F j k) is (nothing kept.raiser kept.raised j)) (at_snoc (set s.views id v) unknowing u j e);
    }

either_saw : (a b up : Bool) → (a ≡ true → up ≡ true) → (b ≡ true → up ≡ true) → (a || b) ≡ true → up ≡ true
either_saw true b up p q e = p refl
either_saw false b up p q e = q e

pub joins : (id : ℕ) (v : Knows) (other : ℕ) (w : Knows) → Joins IsKept id v other w (joined v w) unknowing
joins id v other w s kept at apart at' =
    let both = joined v w in
    let mine = kept.each id v at in
    let was : get_elem? s.views other ≡ some w = ⊎_elim (λ x. absurd (apart x.0)) (λ x. x.1) (at_set s.views id other both w at') in
    let theirs = kept.each other w was in
    let F : ℕ → Knows → Type 0 = Fits kept.raiser kept.raised in
    let now : Each F (set s.views id both) = all_set F s.views id both (record { raises = mine.raises; saw = either_saw v.saw w.saw kept.raised mine.saw theirs.saw }) (λ j u here e. kept.each j u e) in
    record {
      raiser = kept.raiser;
      raised = kept.raised;
      word = kept.word;
      each = all_set F (set s.views id both) other unknowing (nothing kept.raiser kept.raised other) (λ j u here e. now j u e);
    }
