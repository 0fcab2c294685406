-- What a dock shows. This project's own.
use Rattle.std.specs.Prelude.{ℕ, List, Option}
use Rattle.rec_base.specs.Contents.{Contents, Given}
use Rattle.rec_base.specs.declared.asked.Asked.{Asked}

-- what it tells, where it does, and how often it failed; its inputs have marks of type I
pub record Shown (I : Type 0) : Type 0 where
  pub contents : Option Contents
  pub marks : Option (Given I)
  pub asked : Option (List Asked)
  pub target : Option (List ℕ)
  pub held : Option (List ℕ)
  pub printed : Option (List ℕ)
  pub opens : ℕ
  pub writes : ℕ
  pub says : ℕ
