-- Faults that are handed on.
use Rattle.std.proofs.Common.{◌≡◌, Result, Ok, Err, subst, sym}
use Rattle.std.specs.Result.{IsErrAnd}
use Rattle.plan_model.specs.Plan.{Refusal}
use Rattle.plan_words.specs.declared.draft.Draft.{Draft}
use Rattle.plan_words.specs.declared.plan.PlanError.{PlanError}
use Rattle.plan_words.specs.declared.plan.PlanError.TheVariants.{Fault, Memory}
use Rattle.plan_words.specs.Tells.{IsFault, TellsDraft, IfFault}

is_fault : {A B : Type 0} (e : PlanError) (r : Result A Refusal) (s : Result B Refusal) → ((f : Refusal) → r ≡ Err f → s ≡ Err f) → IsFault e r → IsFault e s
is_fault (Fault line why) r s same h = same (line, why) h
is_fault Memory r s same h = tt

pub draft_handed_on : {A : Type 0} (result : Result Draft PlanError) (e : PlanError) (r : Result A Refusal) (s : Result Draft Refusal) → IsErrAnd result (λ x. x ≡ e) → ((f : Refusal) → r ≡ Err f → s ≡ Err f) → IsFault e r → TellsDraft result s
draft_handed_on (Ok x) e r s it same h = absurd it
draft_handed_on (Err f) e r s it same h = let P : PlanError → Type 0 = λ x. IsFault x s in subst P (sym it) (is_fault e r s same h)

told : {A B : Type 0} (e : PlanError) (r : Result A Refusal) (s : Result B Refusal) → ((f : Refusal) → r ≡ Err f → s ≡ Err f) → IsFault e r → IfFault {A = B} (Err e) (λ line why. s ≡ Err (line, why))
told (Fault line why) r s same h = same (line, why) h
told Memory r s same h = tt

pub fault_handed_on : {A B : Type 0} (result : Result B PlanError) (e : PlanError) (r : Result A Refusal) (s : Result B Refusal) → IsErrAnd result (λ x. x ≡ e) → ((f : Refusal) → r ≡ Err f → s ≡ Err f) → IsFault e r → IfFault result (λ line why. s ≡ Err (line, why))
fault_handed_on (Ok x) e r s it same h = absurd it
fault_handed_on {B = B} (Err f) e r s it same h = let P : PlanError → Type 0 = λ x. IfFault {A = B} (Err x) (λ line why. s ≡ Err (line, why)) in subst P (sym it) (told e r s same h)
