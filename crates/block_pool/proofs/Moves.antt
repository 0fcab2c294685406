-- Each kind of step keeps the rule.
use Rattle.std.proofs.Common.{◌≡◌, ◌≢◌, inl, inr, ℕ, zero, suc, ◌+◌, ◌≤◌, false, true≢false, List, [], ◌∷◌, ◌++◌, length, set, sym, refl, ap, ◌∙◌, subst, ⊎_elim, arith, length-append}
use Rattle.std.specs.Prelude.{Option, Some, None, MatchOption}
use Rattle.std.specs.List.{AllByRecursion}
use mathlib.Core.Option.{some, some-injective, some-ne-none}
use lib.ListN.{get_elem?}
use Rattle.crossbeam_queue.specs.Fifo.{Pushes, Pops, Forks, Merges, Learns, Held}
use Rattle.crossbeam_queue.proofs.Lists.{at_set}
use Rattle.sample_pool.specs.Block.{BlockValue}
use Rattle.block_pool.specs.declared.rule.Knows.{Knows}
use Rattle.block_pool.specs.Rule.{giver_knows, taker_knows, newborn, spent, joined, IsGiver, IsTaker, after_giving, after_taking, HasGiven, HasTaken, HasDrained, SeesHome, Fits, IsShared, IsKept}

module _ {A : Type 0} where
  only : (x a : A) (j : ℕ) → get_elem? (x ∷ []) j ≡ some a → (j ≡ 0) × (x ≡ a)
  only x a zero e = (refl, some-injective x a e)
  only x a (suc j) e = absurd (some-ne-none a (sym e))

  abbrev Each : (ℕ → A → Type 0) → List A → Type 0
  Each F views = (port : ℕ) (v : A) → get_elem? views port ≡ some v → F port v

  all_set : (F : ℕ → A → Type 0) (views : List A) (port : ℕ) (w : A) → F port w → ((j : ℕ) (u : A) → j ≢ port → get_elem? views j ≡ some u → F j u) → Each F (set views port w)
  all_set F views port w mine others j u e = ⊎_elim (λ (x : (j ≡ port) × (w ≡ u)). subst (λ (y : ℕ × A). F y.0 y.1) (λ i. (sym x.0 i, x.1 i)) mine)
      (λ (x : (j ≢ port) × (get_elem? views j ≡ some u)). others j u x.0 x.1) (at_set views port j w u e)

  all_more : (P : A → Type 0) (xs : List A) (x : A) → AllByRecursion P xs → P x → AllByRecursion P (xs ++ x ∷ [])
  all_more P [] x all one = (one, tt)
  all_more P (y ∷ xs) x all one = (all.0, all_more P xs x all.1 one)

  no_items : (l : List A) → length l ≡ 0 → l ≡ []
  no_items [] e = refl
  no_items (x ∷ xs) e = absurd (omega arith)

-- the blocks each have this size
abbrev Alike : ℕ → List BlockValue → Type 0
Alike size items = AllByRecursion (λ b. b.length ≡ size) items

-- once a view is no newborn's, the pool is shared
shared : (items : List BlockValue) (views : List Knows) (port : ℕ) (v : Knows) → v.is_new ≡ false → IsKept items views → get_elem? views port ≡ some v → IsShared items views
shared items views port v old kept at = ⊎_elim
    (λ (x : (items ≡ []) × (views ≡ newborn ∷ [])).
    let o = only newborn v port (ap (λ (l : List Knows). get_elem? l port) (sym x.1) ∙ at) in
    absurd (true≢false (ap (λ (k : Knows). k.is_new) o.1 ∙ old)))
    (λ (x : IsShared items views). x) kept

pub begins : IsKept [] (newborn ∷ [])
begins = inl (refl, refl)

pub gives : (n port : ℕ) (v : Knows) (b : BlockValue) → IsGiver v → n ≡ v.room → b.length ≡ v.size → Pushes IsKept n port v b (HasGiven v b)
gives n port v b is room size items views short kept at =
    let s = shared items views port v is.0 kept at in
    let mine = (s.each port v at).gives is.1 in
    let w = after_giving v 1 in
    let long = length-append items (b ∷ []) in (
      w,
      inr (record {
        room = v.room;
        size = v.size;
        giver = s.giver;
        taker = s.taker;
        given = v.given + 1;
        taken = s.taken;
        few = omega (arith, long, short, room);
        account = let a = s.account in let g = mine.3 in omega (arith, long, a, g);
        alike = all_more (λ y. y.length ≡ v.size) items b (subst (λ (k : ℕ). Alike k items) (sym mine.2) s.alike) size;
        each = all_set (Fits v.room v.size s.giver s.taker (v.given + 1) s.taken) views port w
            (record { old = refl; gives = λ _. (mine.0, refl, refl, refl); takes = λ h. let f = (s.each port v at).takes h in (f.0, refl, refl, f.3) })
            (λ j u other e. let f = s.each j u e in
            record { old = f.old; gives = λ h. absurd (other ((f.gives h).0 ∙ sym mine.0)); takes = λ h. let k = f.takes h in (k.0, k.1 ∙ sym mine.1, k.2 ∙ sym mine.2, k.3) });
      }),
      refl,
    )

-- the pool after a take
take_keeps : (port : ℕ) (v : Knows) (b : BlockValue) (items : List BlockValue) (views : List Knows) → IsTaker v → IsKept (b ∷ items) views → get_elem? views port ≡ some v → IsKept items (set views port (after_taking v 1))
take_keeps port v b items views is kept at =
    let s = shared (b ∷ items) views port v is.0 kept at in
    let mine = (s.each port v at).takes is.1 in
    inr (record {
      room = v.room;
      size = v.size;
      giver = s.giver;
      taker = s.taker;
      given = s.given;
      taken = v.taken + 1;
      few = let f = s.few in let r = mine.1 in omega (arith, f, r);
      account = let a = s.account in let t = mine.3 in omega (arith, a, t);
      alike = subst (λ (k : ℕ). Alike k items) (sym mine.2) s.alike.1;
      each = all_set (Fits v.room v.size s.giver s.taker s.given (v.taken + 1)) views port (after_taking v 1)
          (record { old = refl; gives = λ h. let f = (s.each port v at).gives h in (f.0, refl, refl, f.3); takes = λ _. (mine.0, refl, refl, refl) })
          (λ j u other e. let f = s.each j u e in
          record { old = f.old; gives = λ h. let k = f.gives h in (k.0, k.1 ∙ sym mine.1, k.2 ∙ sym mine.2, k.3); takes = λ h. absurd (other ((f.takes h).0 ∙ sym mine.0)) });
    })

pub takes : (port : ℕ) (v : Knows) → IsTaker v → Pops IsKept port v (HasTaken v)
takes port v is b items views kept at =
    let s = shared (b ∷ items) views port v is.0 kept at in
    let mine = (s.each port v at).takes is.1 in
    (after_taking v 1, take_keeps port v b items views is kept at, (s.alike.0 ∙ sym mine.2, refl))

pub drains : (port : ℕ) (v : Knows) → IsGiver v → IsTaker v → Pops IsKept port v (HasDrained v)
drains port v gives takes b items views kept at =
    let s = shared (b ∷ items) views port v takes.0 kept at in
    let a = s.account in
    let t = ((s.each port v at).takes takes.1).3 in
    let g = ((s.each port v at).gives gives.1).3 in
    (after_taking v 1, take_keeps port v b items views takes kept at, (omega (arith, a, t, g), refl))

pub sees_home : (port : ℕ) (v : Knows) → IsGiver v → IsTaker v → Learns IsKept port v (SeesHome v)
sees_home port v gives takes items views kept at =
    let s = shared items views port v takes.0 kept at in
    let a = s.account in
    let f = s.few in
    let t = (s.each port v at).takes takes.1 in
    let g = (s.each port v at).gives gives.1 in
    record { few = let r = t.1 in omega (arith, f, r); account = let k = t.3 in let m = g.3 in omega (arith, a, k, m) }

two : (room size port : ℕ) (v : Knows) → get_elem? (giver_knows room size ∷ taker_knows room size ∷ []) port ≡ some v → Fits room size 0 1 0 0 port v
two room size zero v e =
    subst (λ (k : Knows). Fits room size 0 1 0 0 zero k) (some-injective (giver_knows room size) v e)
    (record { old = refl; gives = λ _. (refl, refl, refl, refl); takes = λ h. absurd (true≢false (sym h)) })
two room size (suc zero) v e =
    subst (λ (k : Knows). Fits room size 0 1 0 0 (suc zero) k) (some-injective (taker_knows room size) v e)
    (record { old = refl; gives = λ h. absurd (true≢false (sym h)); takes = λ _. (refl, refl, refl, refl) })
two room size (suc (suc port)) v e = absurd (some-ne-none v (sym e))

pub forks : (port room size : ℕ) (v : Knows) → v ≡ newborn → Forks IsKept port v (giver_knows room size) (taker_knows room size)
forks port room size v new items views kept at = ⊎_elim
    (λ (x : (items ≡ []) × (views ≡ newborn ∷ [])).
    let o = only newborn v port (ap (λ (l : List Knows). get_elem? l port) (sym x.1) ∙ at) in
    let l : Knows = giver_knows room size in
    let r : Knows = taker_knows room size in
    let none : length items ≡ 0 = ap length x.0 in
    let is : set views port l ++ r ∷ [] ≡ l ∷ r ∷ [] = (λ i. set (x.1 i) (o.0 i) l ++ r ∷ []) in
    subst (λ (z : List Knows). IsKept items z) (sym is)
    (inr (record { room = room; size = size; giver = 0; taker = 1; given = 0; taken = 0; few = omega (arith, none); account = omega (arith, none); alike = subst (λ (q : List BlockValue). Alike size q) (sym x.0) tt; each = two room size })))
    (λ (x : IsShared items views). absurd (true≢false (ap (λ (k : Knows). k.is_new) (sym new) ∙ (x.each port v at).old))) kept

pub merges : (port : ℕ) (v : Knows) (other : ℕ) (u : Knows) → IsGiver v → IsTaker u → Merges IsKept port v other u (joined v u) spent
merges port v other u gives takes items views kept at two at' =
    let s = shared items views port v gives.0 kept at in
    let mine = (s.each port v at).gives gives.1 in
    let both : Knows = joined v u in
    let vs : List Knows = set views port both in
    let was : get_elem? views other ≡ some u = ⊎_elim (λ x. absurd (two x.0)) (λ x. x.1) (at_set views port other both u at') in
    let theirs = (s.each other u was).takes takes.1 in
    let F : ℕ → Knows → Type 0 = Fits v.room v.size s.giver port s.given s.taken in
    let Now : ℕ → Knows → Type 0 = λ j y. j ≢ other → F j y in
    let now : Each Now vs = all_set Now views port both
    (λ _. record { old = refl; gives = λ _. (mine.0, refl, refl, mine.3); takes = λ _. (refl, refl, refl, theirs.3) })
    (λ j y here e apart. let f = s.each j y e in
    record { old = f.old; gives = λ h. absurd (here ((f.gives h).0 ∙ sym mine.0)); takes = λ h. absurd (apart ((f.takes h).0 ∙ sym theirs.0)) }) in
    inr (record {
      room = v.room;
      size = v.size;
      giver = s.giver;
      taker = port;
      given = s.given;
      taken = s.taken;
      few = let f = s.few in let r = mine.1 in omega (arith, f, r);
      account = s.account;
      alike = subst (λ (k : ℕ). Alike k items) (sym mine.2) s.alike;
      each = all_set F vs other spent (record { old = refl; gives = λ h. absurd (true≢false (sym h)); takes = λ h. absurd (true≢false (sym h)) }) (λ j y apart e. now j y e apart);
    })

-- ---- what the calls of the queue answer

pub none_taken : (r : Option BlockValue) (v w : Knows) (F : List BlockValue → Type 0) (P : BlockValue → Type 0) → MatchOption r ((w ≡ v) × Held 0 F) P → MatchOption r (w ≡ v) P
none_taken None v w F P h = h.0
none_taken (Some b) v w F P h = h

pub none_left : (r : Option BlockValue) (v w : Knows) (P : BlockValue → Type 0) → MatchOption r ((w ≡ v) × Held 0 (SeesHome v)) P → MatchOption r ((w ≡ v) × (v.taken ≡ v.given)) P
none_left None v w P h = let held = h.1 in let none = held.1 in let a = held.2.account in (h.0, omega (arith, none, a))
none_left (Some b) v w P h = h

-- what both ends see bounds what is home
pub few_home : (v : Knows) (items : List BlockValue) → SeesHome v items → v.given ≤ v.taken + v.room
few_home v items sees = let f = sees.few in let a = sees.account in omega (arith, f, a)
