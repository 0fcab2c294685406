-- What the two ends of a pool know of it, and the rule that each of their steps keeps. This project's own.
use Rattle.std.specs.Prelude.{◌≡◌, ◌⊎◌, ℕ, ◌+◌, ◌<◌, ◌≤◌, true, false, List, [], ◌∷◌, length}
use Rattle.std.specs.List.{AllByRecursion}
use mathlib.Core.Option.{some}
use lib.ListN.{get_elem?}
use Rattle.sample_pool.specs.Block.{BlockValue}
use Rattle.block_pool.specs.declared.rule.Knows.{Knows}

-- what the giver knows of a pool with no block in it, what the taker knows, and what is known where no end was made yet, or none is left
abbrev pub giver_knows : ℕ → ℕ → Knows
giver_knows room size = record { is_new = false; gives = true; takes = false; room = room; size = size; given = 0; taken = 0 }

abbrev pub taker_knows : ℕ → ℕ → Knows
taker_knows room size = record { is_new = false; gives = false; takes = true; room = room; size = size; given = 0; taken = 0 }

abbrev pub newborn : Knows
newborn = record { is_new = true; gives = false; takes = false; room = 0; size = 0; given = 0; taken = 0 }

abbrev pub spent : Knows
spent = record { is_new = false; gives = false; takes = false; room = 0; size = 0; given = 0; taken = 0 }

-- what both ends know together
abbrev pub joined : Knows → Knows → Knows
joined v w = record { is_new = false; gives = true; takes = true; room = v.room; size = v.size; given = v.given; taken = w.taken }

-- an end is one that gives, or one that takes
abbrev pub IsGiver : Knows → Type 0
IsGiver v = (v.is_new ≡ false) × (v.gives ≡ true)

abbrev pub IsTaker : Knows → Type 0
IsTaker v = (v.is_new ≡ false) × (v.takes ≡ true)

-- so many blocks more were given, or taken
abbrev pub after_giving : Knows → ℕ → Knows
after_giving v n = record { is_new = false; gives = v.gives; takes = v.takes; room = v.room; size = v.size; given = v.given + n; taken = v.taken }

abbrev pub after_taking : Knows → ℕ → Knows
after_taking v n = record { is_new = false; gives = v.gives; takes = v.takes; room = v.room; size = v.size; given = v.given; taken = v.taken + n }

-- the giver brought a block home
abbrev pub HasGiven : Knows → BlockValue → Knows → Type 0
HasGiven v b w = w ≡ after_giving v 1

-- the taker took a block of the pool's size out
abbrev pub HasTaken : Knows → BlockValue → Knows → Type 0
HasTaken v b w = (b.length ≡ v.size) × (w ≡ after_taking v 1)

-- both ends together took out a block that was home
abbrev pub HasDrained : Knows → BlockValue → Knows → Type 0
HasDrained v b w = (v.taken < v.given) × (w ≡ after_taking v 1)

-- these are the blocks that are home, as both ends together see it
pub record SeesHome (v : Knows) (items : List BlockValue) : Type 0 where
  pub few : length items ≤ v.room
  pub account : v.taken + length items ≡ v.given

-- one pass at most gives, and one at most takes; each knows its own number
pub record Fits (room size giver taker given taken port : ℕ) (v : Knows) : Type 0 where
  pub old : v.is_new ≡ false
  pub gives : v.gives ≡ true → (port ≡ giver) × (v.room ≡ room) × (v.size ≡ size) × (v.given ≡ given)
  pub takes : v.takes ≡ true → (port ≡ taker) × (v.room ≡ room) × (v.size ≡ size) × (v.taken ≡ taken)

-- the blocks that are home are those that were given, less those that were taken; each has the pool's size
pub record IsShared (items : List BlockValue) (views : List Knows) : Type 0 where
  pub room : ℕ
  pub size : ℕ
  pub giver : ℕ
  pub taker : ℕ
  pub given : ℕ
  pub taken : ℕ
  pub few : length items ≤ room
  pub account : taken + length items ≡ given
  pub alike : AllByRecursion (λ b. b.length ≡ size) items
  pub each : (port : ℕ) (v : Knows) → get_elem? views port ≡ some v → Fits room size giver taker given taken port v

-- the rule: before the ends are made there are one pass and no block, and from then on the pool is shared
abbrev pub IsKept : List BlockValue → List Knows → Type 0
IsKept items views = ((items ≡ []) × (views ≡ newborn ∷ [])) ⊎ IsShared items views
