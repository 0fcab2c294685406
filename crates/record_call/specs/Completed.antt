-- A recording that nothing hinders. This project's own.
use Rattle.std.specs.Prelude.{◌≡◌, ℕ, ◌==◌, ◌||◌, List, Option, Some, IsTrue}
use Rattle.rec_base.specs.Causes.{Rose}
use Rattle.rec_base.specs.Contents.{Contents, Given}
use Rattle.plan_model.specs.declared.plan.Plan.{Plan}
use Rattle.recording_model.specs.declared.stream.StreamDoc.{StreamDoc}
use Rattle.record_call.specs.Plans.{HasFailedPlan}
use Rattle.record_call.specs.Recorded.{IsAsked, HasUnreadDocument}
use Rattle.record_call.specs.Statuses.{is_recorded}

-- nothing of the outside failed: no call of the dock, and no read of the plan or of a header document
pub record NoneFailed {S M I : Type 0} (left_of : S → Option (List ℕ)) (faults_of : S → ℕ) (mark_of : S → M) (input_mark_of : S → I) (contents : Option Contents) (marks : Option (Given I)) (words : List (List ℕ)) (opens opens' writes writes' says says' : ℕ) : Type 0 where
  pub opening : Rose opens opens' → ⊥
  pub writing : Rose writes writes' → ⊥
  pub saying : Rose says says' → ⊥
  pub plan : HasFailedPlan left_of faults_of mark_of input_mark_of contents marks words → ⊥
  pub documents : HasUnreadDocument left_of faults_of mark_of input_mark_of contents marks words → ⊥

-- where the words ask for a recording, the plan can be read, each feed has a header document with a shape, and the rings don't cost too much, and
-- nothing of the outside failed, the status is 0 or 1, or there was no memory
abbrev pub CompletesRecord : {S M I : Type 0} → (S → Option (List ℕ)) → (S → ℕ) → (S → M) → (S → I) → Option Contents → Option (Given I) → List (List ℕ) → ℕ → ℕ → ℕ → ℕ → ℕ → ℕ → ℕ → Type 0
CompletesRecord left_of faults_of mark_of input_mark_of contents marks words opens opens' writes writes' says says' status =
    (texts : Contents) (out : List ℕ) (plan : Plan) (streams : List StreamDoc) → contents ≡ Some texts → IsAsked contents words out plan streams
    → NoneFailed left_of faults_of mark_of input_mark_of contents marks words opens opens' writes writes' says says' → IsTrue (is_recorded status || status == 9)
