-- What a search for a boundary begins with, and what it goes past. This project's own.
use Rattle.std.specs.Prelude.{◌≡◌, ℕ, ◌+◌, ◌<◌, ◌≤◌, Bool, true, false, List, [], length, Option, Result, Ok, Err, IsTrue}
use Rattle.chunk_grammar.specs.Standing.{IsWhole, standing_at}
use Rattle.reading_model.specs.Reading.{is_done}
use Rattle.file_reader.specs.FileInlet.{FileInlet}
use Rattle.boundary_search.specs.declared.step.SalvageEnd.{SalvageEnd}
use Rattle.boundary_search.specs.declared.step.SalvageEnd.TheVariants.{End, ReadFault, SizeLimit}
use Rattle.boundary_search.specs.Parts.{IsBad}
use Rattle.boundary_search.specs.Salvage.{IsBroken, IsGonePast, IsPastLimit, counted}

-- what stands at the place is bad, whatever follows; or, where the source has ended, no whole chunk stands there, and all bytes count
pub record NoneStands (ended : Bool) (x : FileInlet) : Type 0 where
  pub over : is_done x.reading ≡ true
  pub fresh : x.last ≡ []
  pub bad : ended ≡ false → IsBad (standing_at x.context (counted x))
  pub none : IsTrue ended → (0 < length x.ahead) × (IsWhole (standing_at x.context x.ahead) → ⊥) × (x.place + length x.ahead ≤ x.byte_limit)
  pub low : x.place ≤ x.byte_limit

abbrev pub IsSearched : Option (List ℕ) → Option (List ℕ) → Bool → Bool → FileInlet → FileInlet → Result (Unit {0}) SalvageEnd → Type 0
IsSearched before left ended ended' old new (Ok u) = IsGonePast before left ended ended' old new
IsSearched before left ended ended' old new (Err ReadFault) = IsBroken before left ended old new
IsSearched before left ended ended' old new (Err SizeLimit) = IsPastLimit before left ended old new
IsSearched before left ended ended' old new (Err End) = ⊥
