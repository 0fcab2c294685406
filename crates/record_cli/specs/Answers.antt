-- What the program answers. This project's own.
use Rattle.std.specs.Prelude.{◌≡◌, ℕ, Bool, true, false, IsTrue, List, Option, not, ◌||◌, codes}
use Rattle.std.specs.Io.KnownBytes.{Keeps}
use Rattle.rec_base.specs.Causes.{Rose}
use Rattle.dock_calls.specs.Said.{SaysFault}
use Rattle.record_cli.specs.Shown.{Shown}
use Rattle.record_cli.specs.RecordAnswer.{IsRecordAnswer}
use Rattle.record_cli.specs.FileAnswer.{IsFileAnswer}
use Rattle.record_cli.specs.Statuses.{is_written, last_status}

-- by whether the first word is `record`
abbrev pub IsAnswer : {S M I : Type 0} → (S → Option (List ℕ)) → (S → ℕ) → (S → M) → (S → I) → Bool → List (List ℕ) → Shown I → Shown I → ℕ → Type 0
IsAnswer left_of faults_of mark_of input_mark_of true words before after status = IsRecordAnswer left_of faults_of mark_of input_mark_of words before after status
IsAnswer left_of faults_of mark_of input_mark_of false words before after status = IsFileAnswer left_of faults_of mark_of input_mark_of words before after status

-- the output was forced to the disk, or couldn't be, and the lines are out, or not all were taken: which status becomes which, what is said of it,
-- and which counts rose. All else stays
pub record IsSettled {I : Type 0} (before after : Shown I) (on_disk : Bool) (out : Option (List ℕ)) (status result : ℕ) : Type 0 where
  pub forced : Bool
  pub told : Bool
  pub is : result ≡ last_status forced told status
  pub disk : IsTrue forced → on_disk ≡ true
  pub all_out : IsTrue told → out ≡ after.printed
  pub contents : after.contents ≡ before.contents
  pub marks : after.marks ≡ before.marks
  pub asked : after.asked ≡ before.asked
  pub held : after.held ≡ before.held
  pub target : after.target ≡ before.target
  pub unspoken : IsTrue (forced || not (is_written status)) → Keeps before.printed after.printed
  pub spoken : forced ≡ false → IsTrue (is_written status) → SaysFault before.printed after.printed before.says after.says (codes "fault 5")
  pub opens : after.opens ≡ before.opens
  pub write_rose : forced ≡ false → Rose before.writes after.writes
  pub write_quiet : IsTrue forced → after.writes ≡ before.writes
  pub say_rose : told ≡ false → Rose before.says after.says
