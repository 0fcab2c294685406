-- A reader by rules, as it stands between two calls, and what its steps do. This project's own.
use Rattle.std.specs.Prelude.{ℕ, Bool, true, false, nat_lt, if◌then◌else◌, List, [], ◌++◌, length, take}
use Rattle.reading_model.specs.Outlook.{How, over, All, Outlook}
use Rattle.reading_model.specs.Rules.{Rules, all_of}

-- it goes on in a state, with bytes that it took and has not gone past, where so many bytes from there on count; or it is over
pub data Reading (S E : Type 0) : Type 0 where
  going : S → List ℕ → ℕ → Reading S E
  done : E → Reading S E

-- where there are more bytes than count, that is how the input goes on
abbrev pub how_of : ℕ → List ℕ → How → How
how_of room b how = if nat_lt room (length b) then over else how

-- the items of the bytes that count, and the end
abbrev pub all_within : {S I E : Type 0} → Rules S I E → S → ℕ → List ℕ → How → All I E
all_within r s room b how = all_of r (how_of room b how) s (take room b)

-- what is still to come
abbrev pub coming_of : {S I E : Type 0} → Rules S I E → Reading S E → List ℕ → How → All I E
coming_of r (done e) more how = ([], e)
coming_of r (going s rest room) more how = all_within r s room (rest ++ more) how

abbrev pub is_done : {S E : Type 0} → Reading S E → Bool
is_done (done e) = true
is_done (going s rest room) = false

abbrev pub outlook_of : {S I E : Type 0} → Rules S I E → Reading S E → Outlook I E
outlook_of r reading = record { is_over = is_done reading; coming = coming_of r reading }
