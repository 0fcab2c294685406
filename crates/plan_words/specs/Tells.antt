-- What is answered, unless memory ran out.
use Rattle.std.specs.Prelude.{◌≡◌, ℕ, Result, Ok, Err}
use Rattle.plan_model.specs.Plan.{Refusal}
use Rattle.plan_words.specs.declared.plan.PlanError.{PlanError}
use Rattle.plan_words.specs.declared.plan.PlanError.TheVariants.{Fault, Memory}
use Rattle.plan_words.specs.declared.draft.Draft.{Draft}

-- an error is what was read, unless memory ran out
abbrev pub IsFault : {A : Type 0} → PlanError → Result A Refusal → Type 0
IsFault (Fault line why) read = read ≡ Err (line, why)
IsFault Memory read = Unit {0}

abbrev pub Steps : Result (Unit {0}) PlanError → Draft → Result Draft Refusal → Type 0
Steps (Ok done) new read = read ≡ Ok new
Steps (Err e) new read = IsFault e read

abbrev pub TellsDraft : Result Draft PlanError → Result Draft Refusal → Type 0
TellsDraft (Ok draft) read = read ≡ Ok draft
TellsDraft (Err e) read = IsFault e read

-- of a fault's line and its reason
abbrev pub IfFault : {A : Type 0} → Result A PlanError → (ℕ → ℕ → Type 0) → Type 0
IfFault (Ok x) P = Unit {0}
IfFault (Err (Fault line why)) P = P line why
IfFault (Err Memory) P = Unit {0}
