-- What the work of an inlet comes to. This project's own.
use Rattle.std.specs.Prelude.{◌≡◌, ◌≢◌, ℕ, ◌+◌, ◌≤◌, ◌^◌, List, [], true, false, length, Option}
use Rattle.reading_model.specs.Outlook.{Outlook}
use Rattle.reading_model.specs.Read.{Reader, IsRead}
use Rattle.piece_reader.specs.Steps.{Begun}
use Rattle.piece_reader.proofs.Ending.{fresh}
use Rattle.xdf_model.specs.Sample.{Sample, size_of}
use Rattle.inlet_model.specs.declared.end.FeedEnd.{FeedEnd}
use Rattle.inlet_model.specs.Inlet.{feed_kind}
use Rattle.feed_samples.specs.Inlet.{outlook}
use Rattle.thread_run.specs.declared.work.InletDone.{InletDone}
use Rattle.thread_run.specs.declared.work.InletDone.TheVariants.{Ended, Memory, Halted}
use Rattle.thread_run.specs.declared.work.Work.{Work}
use Rattle.thread_run.specs.declared.work.Worked.{Worked}

-- what was put are just the samples of the feed up to its end, or those that were given before there was no memory, or before the run was stopped, and no read failed till then
abbrev pub HasEnded : {S M : Type 0} → (S → Option (List ℕ)) → (S → ℕ) → (S → M) → Reader Sample FeedEnd → S → S → Outlook Sample FeedEnd → List Sample → InletDone → Type 0
HasEnded left_of faults_of mark_of reader first last now puts (Ended e) = IsRead left_of faults_of mark_of feed_kind reader first last puts e
HasEnded left_of faults_of mark_of reader first last now puts Memory = Begun (fresh reader) now (left_of first) (left_of last) puts × (faults_of last ≡ faults_of first)
HasEnded left_of faults_of mark_of reader first last now puts Halted = Begun (fresh reader) now (left_of first) (left_of last) puts × (faults_of last ≡ faults_of first)

-- nothing was read and nothing was put, and the halt word wasn't seen raised
pub record IsFresh {S : Type 0} (w : Work S) : Type 0 where
  pub goes : (outlook w.reader.inlet).is_over ≡ false
  pub received : w.reader.inlet.received ≡ 0
  pub counted : w.reader.inlet.byte_limit ≤ 2 ^ 40
  pub none : w.tail.puts ≡ []
  pub shape : w.tail.lane.shape ≡ w.reader.inlet.shape
  pub unseen : w.looker.saw ≡ false

-- the same end of the lane came back, and it put just what the reader gave; the inlet looked at the halt word before each sample, and once more
pub record HasWorked {S M : Type 0} (left_of : S → Option (List ℕ)) (faults_of : S → ℕ) (mark_of : S → M) (before : Work S) (after : Worked S) : Type 0 where
  pub id : after.id ≡ before.id
  pub lane : after.tail.lane ≡ before.tail.lane
  pub received : after.reader.inlet.received ≡ length after.tail.puts
  pub few : after.reader.inlet.received ≤ 2 ^ 40
  pub put : HasEnded left_of faults_of mark_of (outlook before.reader.inlet).coming before.reader.source after.reader.source (outlook after.reader.inlet) after.tail.puts after.done
  pub memory : 1 ≤ size_of before.tail.lane.shape.format → after.done ≢ Memory
  pub word : after.looker.word ≡ before.looker.word
  pub looks : after.looker.looks ≡ (before.looker.looks + length after.tail.puts) + 1
  pub halted : after.done ≡ Halted → after.looker.saw ≡ true
