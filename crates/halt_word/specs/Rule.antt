-- What a raiser and a looker know of the word, and the rule that each of their steps keeps. This project's own.
use Rattle.std.specs.Prelude.{◌≡◌, ℕ, ◌+◌, ◌||◌, Bool, true, false, cond, [], ◌∷◌}
use mathlib.Core.Option.{some}
use lib.ListN.{get_elem?}
use Rattle.atomic_table.specs.Table.{State}
use Rattle.atomic_table.specs.Seated.{TableId}
use Rattle.atomic_table.specs.declared.shared.Seat.{Seat}
use Rattle.halt_word.specs.declared.rule.Knows.{Knows}

-- what the raiser knows of a new word; and what a looker that hasn't looked knows, or a seat that another took in: nothing
abbrev pub newborn : Knows
newborn = record { raises = true; raised = false; saw = false; looks = 0 }

abbrev pub unknowing : Knows
unknowing = record { raises = false; raised = false; saw = false; looks = 0 }

-- what a seat knows once it took another in
abbrev pub joined : Knows → Knows → Knows
joined v w = record { raises = v.raises; raised = v.raised; saw = v.saw || w.saw; looks = v.looks + w.looks }

-- the raiser's step
abbrev pub after_raising : Knows → Knows
after_raising v = record { raises = v.raises; raised = true; saw = v.saw; looks = v.looks }

-- what the word is
abbrev pub word_for : Bool → ℕ
word_for raised = cond raised 1 0

-- a step that looked found the word n: the seat has then seen it raised or not as n says; what it saw before it sees again, and the raiser sees what it did
pub record HasLooked (v : Knows) (n : ℕ) (w : Knows) : Type 0 where
  pub now : w ≡ record { raises = v.raises; raised = v.raised; saw = w.saw; looks = v.looks + 1 }
  pub found : n ≡ word_for w.saw
  pub stays : v.saw ≡ true → w.saw ≡ true
  pub own : v.raises ≡ true → w.saw ≡ v.raised

-- one seat at most is the raiser's, and it knows whether the word was raised; who has seen it raised is right
pub record Fits (raiser : ℕ) (raised : Bool) (port : ℕ) (v : Knows) : Type 0 where
  pub raises : v.raises ≡ true → (port ≡ raiser) × (v.raised ≡ raised)
  pub saw : v.saw ≡ true → raised ≡ true

-- the rule: the word says whether it was raised, and what each seat knows fits
pub record IsKept (s : State (Unit {0}) Knows) : Type 0 where
  pub raiser : ℕ
  pub raised : Bool
  pub word : s.words ≡ word_for raised ∷ []
  pub each : (port : ℕ) (v : Knows) → get_elem? s.views port ≡ some v → Fits raiser raised port v

-- it is a seat at this table, which has one word, and no slot is out with it
abbrev pub IsSeatAt : TableId → Seat (Unit {0}) Knows → Type 0
IsSeatAt table seat = (seat.table_id ≡ table) × (table.words ≡ 1) × (seat.me.1 ≡ [])
