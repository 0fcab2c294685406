-- What a recording asks a dock for: the plan, the header documents of its feeds, the feeds, and the output, in this order. This project's own.
use Rattle.std.specs.Prelude.{◌≡◌, ◌⊎◌, ℕ, List, [], ◌∷◌, ◌++◌, Option, Ok, IsErr}
use Rattle.std.specs.List.{zip}
use Rattle.rec_base.specs.declared.asked.Asked.{Asked}
use Rattle.rec_base.specs.declared.asked.Asked.TheVariants.{Opening, Creation}
use Rattle.rec_base.specs.declared.name.Name.TheVariants as name
use Rattle.rec_base.specs.Contents.{Contents}
use Rattle.dock_calls.specs.Asking.{openings}
use Rattle.plan_model.specs.declared.top.Top.TheVariants.{Record}
use Rattle.plan_model.specs.declared.plan.Plan.{Plan}
use Rattle.plan_model.specs.Commands.{command_in, record_plan}
use Rattle.recording_model.specs.declared.stream.StreamDoc.{StreamDoc}
use Rattle.record_call.specs.Feeds.{document_name, feed_name, names_of}
use Rattle.record_call.specs.Plans.{IsPlanned}
use Rattle.record_call.specs.Recorded.{IsAsked}

-- the plan at this path
abbrev pub plan_order : List ℕ → List Asked
plan_order path = Opening (name.File path) ∷ []

-- and the header documents of its feeds
abbrev pub document_order : List ℕ → Plan → List Asked
document_order path plan = plan_order path ++ openings (names_of document_name plan.feeds)

-- and the feeds, as these streams
abbrev pub input_order : List ℕ → Plan → List StreamDoc → List Asked
input_order path plan streams = document_order path plan ++ openings (names_of feed_name (zip plan.feeds streams))

-- words that are no command ask for nothing
pub record IsNoOrder (words : List (List ℕ)) (order : List Asked) : Type 0 where
  pub none : IsErr (command_in Record words)
  pub is : order ≡ []

pub record IsPlanOrder (words : List (List ℕ)) (order : List Asked) : Type 0 where
  pub path : List ℕ
  pub out : List ℕ
  pub command : command_in Record words ≡ Ok (record_plan path out)
  pub is : order ≡ plan_order path

pub record IsDocumentOrder (contents : Option Contents) (words : List (List ℕ)) (order : List Asked) : Type 0 where
  pub path : List ℕ
  pub out : List ℕ
  pub plan : Plan
  pub planned : IsPlanned contents words path out plan
  pub is : order ≡ document_order path plan

pub record IsInputOrder (contents : Option Contents) (words : List (List ℕ)) (out : List ℕ) (order : List Asked) : Type 0 where
  pub plan : Plan
  pub streams : List StreamDoc
  pub asked : IsAsked contents words out plan streams
  pub is : order ≡ input_order asked.has.path plan streams

-- all inputs, and then the output
pub record IsWholeOrder (contents : Option Contents) (words : List (List ℕ)) (order : List Asked) : Type 0 where
  pub out : List ℕ
  pub inputs : List Asked
  pub input : IsInputOrder contents words out inputs
  pub is : order ≡ inputs ++ Creation out ∷ []

-- the order as far as what was read tells it
abbrev pub IsOrder : Option Contents → List (List ℕ) → List Asked → Type 0
IsOrder contents words order = IsNoOrder words order ⊎ IsPlanOrder words order ⊎ IsDocumentOrder contents words order ⊎ IsWholeOrder contents words order
