-- What contracts see of a raiser, of a looker and of a list of lookers. This project's own.
use Rattle.std.specs.Prelude.{◌≡◌, ℕ, false, List, Bool}
use Rattle.std.specs.List.{AllByRecursion}
use Rattle.atomic_table.specs.Seated.{TableId}

-- which word it raises, and whether it has
pub record RaiserView : Type 0 where
  pub word : TableId
  pub raised : Bool

-- which word it looks at, whether it has seen it raised, and how many times it looked
pub record LookerView : Type 0 where
  pub word : TableId
  pub saw : Bool
  pub looks : ℕ

-- lookers of one word, the last to come out first, and how many of them there is room for
pub record LookerListView : Type 0 where
  pub word : TableId
  pub room : ℕ
  pub lookers : List LookerView

-- each is of the word
abbrev pub AreOf : TableId → List LookerView → Type 0
AreOf word lookers = AllByRecursion (λ l. l.word ≡ word) lookers

-- none has looked yet
abbrev pub AreNew : List LookerView → Type 0
AreNew lookers = AllByRecursion (λ l. (l.saw ≡ false) × (l.looks ≡ 0)) lookers

-- none has seen the word raised
abbrev pub NoneSaw : List LookerView → Type 0
NoneSaw lookers = AllByRecursion (λ l. l.saw ≡ false) lookers
