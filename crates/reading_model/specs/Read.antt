-- What was read of a source, up to the end of the reading. This project's own.
use Rattle.std.specs.Prelude.{◌≡◌, ℕ, ◌≤◌, List, ◌++◌, Option}
use Rattle.std.specs.Io.KnownBytes.{Consumes, IsAtEnd}
use Rattle.rec_base.specs.Causes.{Rose}
use Rattle.reading_model.specs.Outlook.{How, ended, failed, All, Kind, final, at_end, at_fault, at_limit}

-- all that is given of some bytes, and the end, by how the input goes on behind them
abbrev pub Reader : Type 0 → Type 0 → Type 0
Reader I E = List ℕ → How → All I E

-- the items and the end are those of the bytes that were taken, by the kind of the end: whatever follows, where the input has ended, or
-- where a read failed
abbrev pub EndsSo : {I E : Type 0} → Kind → Reader I E → List ℕ → Option (List ℕ) → List I → E → Type 0
EndsSo final reader taken left items end = (more : List ℕ) (how : How) → reader (taken ++ more) how ≡ (items, end)
EndsSo at_limit reader taken left items end = (more : List ℕ) (how : How) → reader (taken ++ more) how ≡ (items, end)
EndsSo at_end reader taken left items end = IsAtEnd left × (reader taken ended ≡ (items, end))
EndsSo at_fault reader taken left items end = reader taken failed ≡ (items, end)

-- some bytes were taken of a source, by its value before and its last value, and gave these items and this end
pub record IsRead {S M I E : Type 0} (left_of : S → Option (List ℕ)) (faults_of : S → ℕ) (mark_of : S → M) (kind : E → Kind) (reader : Reader I E) (first last : S) (items : List I) (end : E) : Type 0 where
  pub marked : mark_of last ≡ mark_of first
  pub later : faults_of first ≤ faults_of last
  pub taken : List ℕ
  pub lost : Consumes (left_of first) (left_of last) taken
  pub ends : EndsSo (kind end) reader taken (left_of last) items end
  pub cause : kind end ≡ at_fault → Rose (faults_of first) (faults_of last)
  pub quiet : (kind end ≡ at_fault → ⊥) → faults_of last ≡ faults_of first

-- the items and the end are those of the whole text; where a read failed, those of the bytes before it
pub record IsReadingOf {I E : Type 0} (kind : E → Kind) (reader : Reader I E) (text : List ℕ) (items : List I) (end : E) : Type 0 where
  pub whole : (kind end ≡ at_fault → ⊥) → reader text ended ≡ (items, end)
  pub cut : kind end ≡ at_fault → (taken : List ℕ) × (rest : List ℕ) × (text ≡ taken ++ rest) × (reader taken failed ≡ (items, end))
