-- What a dock was asked for.
use Rattle.std.specs.Prelude.{◌≡◌, ℕ, List, [], ◌∷◌, ◌++◌, take, ⊤, Option, None, Some}
use Rattle.rec_base.specs.declared.asked.Asked.{Asked}

-- where it is still told what the dock was asked for, these were asked behind what was asked before
abbrev pub AsksAll : Option (List Asked) → Option (List Asked) → List Asked → Type 0
AsksAll before None asks = ⊤
AsksAll None (Some after) asks = ⊥
AsksAll (Some before) (Some after) asks = after ≡ before ++ asks

-- this was asked behind them
abbrev pub Asks : Option (List Asked) → Option (List Asked) → Asked → Type 0
Asks before after asked = AsksAll before after (asked ∷ [])

-- some front of these was asked behind them
abbrev pub AsksFront : Option (List Asked) → Option (List Asked) → List Asked → Type 0
AsksFront before after asks = (n : ℕ) × AsksAll before after (take n asks)
