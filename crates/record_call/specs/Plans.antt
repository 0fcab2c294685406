-- The plan of a recording. This project's own.
use Rattle.std.specs.Prelude.{◌≡◌, ℕ, List, [], Option, Ok, Err}
use Rattle.rec_base.specs.declared.name.Name.TheVariants as name
use Rattle.rec_base.specs.Contents.{Contents, Given}
use Rattle.dock_calls.specs.Asking.{HasReadFault}
use Rattle.dock_calls.specs.Places.{IsInputAt}
use Rattle.plan_model.specs.declared.top.Top.TheVariants.{Record}
use Rattle.plan_model.specs.declared.plan.Plan.{Plan}
use Rattle.plan_model.specs.Plan.{plan_in}
use Rattle.plan_model.specs.Commands.{command_in, record_plan}

-- the words ask to record what the plan at this path says, and the text there is a plan
pub record IsPlanned (contents : Option Contents) (words : List (List ℕ)) (path out : List ℕ) (plan : Plan) : Type 0 where
  pub command : command_in Record words ≡ Ok (record_plan path out)
  pub text : List ℕ
  pub input : IsInputAt contents [] (name.File path) text
  pub read : plan_in text out ≡ Ok plan

-- the words ask to record what the plan at this path says, and the text there is refused
pub record IsRefused (contents : Option Contents) (words : List (List ℕ)) (line why : ℕ) : Type 0 where
  pub path : List ℕ
  pub out : List ℕ
  pub command : command_in Record words ≡ Ok (record_plan path out)
  pub text : List ℕ
  pub input : IsInputAt contents [] (name.File path) text
  pub refused : plan_in text out ≡ Err (line, why)

-- the words ask to record what the plan at this path says, and a read of it failed
pub record HasFailedPlan {S M I : Type 0} (left_of : S → Option (List ℕ)) (faults_of : S → ℕ) (mark_of : S → M) (input_mark_of : S → I) (contents : Option Contents) (marks : Option (Given I)) (words : List (List ℕ)) : Type 0 where
  pub path : List ℕ
  pub out : List ℕ
  pub command : command_in Record words ≡ Ok (record_plan path out)
  pub failed : HasReadFault left_of faults_of mark_of input_mark_of contents marks (name.File path) 0
