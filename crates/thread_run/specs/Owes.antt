-- What an inlet that was started owes.
use Rattle.std.specs.Prelude.{◌≡◌, ℕ, List, Option}
use Rattle.thread_run.specs.declared.work.Work.{Work}
use Rattle.thread_run.specs.declared.started.Started.{Started}
use Rattle.thread_run.specs.declared.started.Started.TheVariants.{Running, Done}
use Rattle.thread_run.specs.Work.{HasWorked}

module _ {S M : Type 0} (left_of : S → Option (List ℕ)) (faults_of : S → ℕ) (mark_of : S → M) where
  abbrev pub Owes : Work S → Started S → Type 0
  Owes w (Running child) = child.promise.work.value ≡ w
  Owes w (Done worked) = HasWorked left_of faults_of mark_of w worked
