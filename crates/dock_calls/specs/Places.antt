-- The places of inputs among those that have one name. This project's own.
use Rattle.std.specs.Prelude.{◌≡◌, ℕ, List, drop, count_by, ⊤, Option, None, Some}
use Rattle.rec_base.specs.declared.name.Name.{Name}
use Rattle.rec_base.specs.Contents.{Contents, Given, IsInput, IsOpened}
use Rattle.rec_base.specs.Files.{same_name}

-- how many of the inputs that were opened before have this name
abbrev pub place_of : List Name → Name → ℕ
place_of names name = count_by (λ other. same_name other name) names

-- where contents are told, this is the text of the input that is opened under a name once these names were opened: the inputs of one name have
-- the texts of its list in order
abbrev pub IsInputAt : Option Contents → List Name → Name → List ℕ → Type 0
IsInputAt contents names name text = IsInput contents name (place_of names name) text

-- where contents are told, the source that was opened under the name once these names were opened has that text
abbrev pub IsOpenedAt : Option Contents → List Name → Name → Option (List ℕ) → Type 0
IsOpenedAt contents names name left = IsOpened contents name (place_of names name) left

-- what texts or marks are left once these names were opened
abbrev pub IsLeft : {A : Type 0} → Option (Given A) → Option (Given A) → List Name → Type 0
IsLeft None after names = ⊤
IsLeft (Some f) None names = ⊥
IsLeft (Some f) (Some g) names = (name : Name) → g name ≡ drop (place_of names name) (f name)

pub record IsAfter {A : Type 0} (given left : Option (Given A)) (names : List Name) : Type 0 where
  pub rest : IsLeft given left names
