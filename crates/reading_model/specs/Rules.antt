-- What one who reads from left to right gives of some bytes, by rules that tell what stands at the front. This project's own.
use Rattle.std.specs.Prelude.{◌≡◌, ℕ, zero, suc, ◌<◌, ◌≤◌, List, [], ◌++◌, length, drop, Option, Some, None}
use Rattle.reading_model.specs.Outlook.{How, ended, failed, over, All, first, Kind, final, at_end, at_fault, at_limit}

-- what stands at the front of some bytes: something of so many bytes, with the item that it gives, if any, and the state behind it; too
-- few bytes to tell; or the end of the reading
pub data Front (S I E : Type 0) : Type 0 where
  whole : Option I → ℕ → S → Front S I E
  short : Front S I E
  last : E → Front S I E

-- what stands at the front in a state, the end where it is short and the input goes on so, and the kind of each end
pub record Rules (S I E : Type 0) : Type 0 where
  pub at : S → List ℕ → Front S I E
  pub end : S → List ℕ → How → E
  pub kind : E → Kind

abbrev pub given : {I E : Type 0} → Option I → All I E → All I E
given None all = all
given (Some i) all = first i all

abbrev pub by_front : {S I E : Type 0} → Rules S I E → (S → List ℕ → All I E) → How → S → List ℕ → Front S I E → All I E
by_front r go how s b (whole i used t) = given i (go t (drop used b))
by_front r go how s b short = ([], r.end s b how)
by_front r go how s b (last e) = ([], e)

-- the items of at most k things at the front, and the end
unfoldable pub all_by : {S I E : Type 0} → ℕ → Rules S I E → How → S → List ℕ → All I E
all_by zero r how s b = ([], r.end s b how)
all_by (suc k) r how s b = by_front r (λ t rest. all_by k r how t rest) how s b (r.at s b)

-- the items of some bytes and the end, where the input goes on so behind them; each thing takes a byte, so there are no more than bytes
abbrev pub all_of : {S I E : Type 0} → Rules S I E → How → S → List ℕ → All I E
all_of r how s b = all_by (suc (length b)) r how s b

-- what rules promise: a thing takes at least one byte, and bytes that are there; what isn't short stays for every longer input; and
-- ends have their kinds
pub record AreSteady {S I E : Type 0} (r : Rules S I E) : Type 0 where
  pub within : (s : S) (b : List ℕ) (i : Option I) (used : ℕ) (t : S) → r.at s b ≡ whole i used t → (0 < used) × (used ≤ length b)
  pub stays : (s : S) (b more : List ℕ) → (r.at s b ≡ short → ⊥) → r.at s (b ++ more) ≡ r.at s b
  pub last_is_final : (s : S) (b : List ℕ) (e : E) → r.at s b ≡ last e → r.kind e ≡ final
  pub ended_is_at_end : (s : S) (b : List ℕ) → r.kind (r.end s b ended) ≡ at_end
  pub failed_is_at_fault : (s : S) (b : List ℕ) → r.kind (r.end s b failed) ≡ at_fault
  pub over_is_at_limit : (s : S) (b : List ℕ) → r.kind (r.end s b over) ≡ at_limit
