-- What a command asks a dock for, and what of it failed. This project's own.
use Rattle.std.specs.Prelude.{◌≡◌, ℕ, ◌+◌, ◌<◌, Bool, IsTrue, List, length, map, take, Option}
use Rattle.rec_base.specs.declared.asked.Asked.{Asked}
use Rattle.rec_base.specs.declared.asked.Asked.TheVariants.{Opening}
use Rattle.rec_base.specs.declared.name.Name.{Name}
use Rattle.rec_base.specs.Asked.{AsksAll, AsksFront}
use Rattle.rec_base.specs.Causes.{Blames, Rose}
use Rattle.rec_base.specs.Contents.{Contents, Given, IsMarked, IsOpened}
use Rattle.rec_base.specs.Moved.{HasFailed}

-- to open these names, in order
abbrev pub openings : List Name → List Asked
openings names = map (λ name. Opening name) names

-- what was asked for is a front of these that isn't empty, and its last failed
pub record FailsAt (asked asked' : Option (List Asked)) (order : List Asked) (before now : ℕ) : Type 0 where
  pub count : ℕ
  pub some : count < length order
  pub asks : AsksAll asked asked' (take (count + 1) order)
  pub rose : Rose before now

-- a read failed of the source that was opened under this name, where so many were opened under it before
pub record HasReadFault {S M I : Type 0} (left_of : S → Option (List ℕ)) (faults_of : S → ℕ) (mark_of : S → M) (input_mark_of : S → I) (contents : Option Contents) (marks : Option (Given I)) (name : Name) (place : ℕ) : Type 0 where
  pub first : S
  pub last : S
  pub source : IsOpened contents name place (left_of first)
  pub marked : IsMarked marks name place (input_mark_of first)
  pub failed : HasFailed left_of faults_of mark_of first last

-- what a command asked a dock for, and which counts rose, by its status: of openings and creations with 4 alone, of writes with 5. Whether all
-- was asked for, and whether all that was said was said in full, comes first
pub record IsCaused (all said : Bool) (order : List Asked) (asked asked' : Option (List Asked)) (opens opens' writes writes' says says' status : ℕ) : Type 0 where
  pub asks : AsksFront asked asked' order
  pub asks_all : IsTrue all → AsksAll asked asked' order
  pub opening : (status ≡ 4 → ⊥) → opens' ≡ opens
  pub writing : Blames (status ≡ 5) writes writes'
  pub saying : IsTrue said → says' ≡ says
