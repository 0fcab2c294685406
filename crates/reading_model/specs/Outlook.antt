-- What a reader of a source will still answer, for whatever bytes follow those that it took. This project's own.
use Rattle.std.specs.Prelude.{◌≡◌, ℕ, Bool, false, List, [], ◌∷◌, ◌++◌, ◌⊎◌, Option, IsTrue}
use Rattle.std.specs.Io.KnownBytes.{Consumes, IsAtEnd}

-- how the input goes on behind some bytes: it ends, a read fails, or there are more bytes than count
pub data How : Type 0 where
  ended : How
  failed : How
  over : How

-- all that is given, in order, and the end of it
abbrev pub All : Type 0 → Type 0 → Type 0
All I E = List I × E

-- whether the end was answered, and what is still to come where these bytes follow and the input goes on so behind them
pub record Outlook (I E : Type 0) : Type 0 where
  pub is_over : Bool
  pub coming : List ℕ → How → All I E

-- one answer: an item, the end, or nothing for want of memory
pub data Got (I E : Type 0) : Type 0 where
  item : I → Got I E
  end : E → Got I E
  nothing : Got I E

-- what an end is an end by: by bytes that no further byte changes, by the end of input, by a failed read, or by too many bytes
pub data Kind : Type 0 where
  final : Kind
  at_end : Kind
  at_fault : Kind
  at_limit : Kind

-- the item comes before all others
abbrev pub first : {I E : Type 0} → I → All I E → All I E
first i all = (i ∷ all.0, all.1)

-- one who took these bytes and has so much left comes to an end of a kind
abbrev pub EndsBy : {I E : Type 0} → Kind → Outlook I E → List ℕ → Option (List ℕ) → E → Type 0
EndsBy final old taken left e = (more : List ℕ) (how : How) → old.coming (taken ++ more) how ≡ ([], e)
EndsBy at_limit old taken left e = (more : List ℕ) (how : How) → old.coming (taken ++ more) how ≡ ([], e)
EndsBy at_end old taken left e = (old.coming taken ended ≡ ([], e)) × (IsTrue old.is_over ⊎ IsAtEnd left)
EndsBy at_fault old taken left e = old.coming taken failed ≡ ([], e)

-- the end is answered, and stays
pub record IsOverAs {I E : Type 0} (new : Outlook I E) (e : E) : Type 0 where
  pub over : IsTrue new.is_over
  pub stays : (more : List ℕ) (how : How) → new.coming more how ≡ ([], e)

-- one who took these bytes and has so much left, and answered, has this outlook. The first of the answers to come was given and taken
-- away; the end stays; want of memory takes nothing away.
abbrev pub Gives : {I E : Type 0} → (E → Kind) → Outlook I E → List ℕ → Outlook I E → Option (List ℕ) → Got I E → Type 0
Gives kind old taken new left (item i) = (new.is_over ≡ false) × ((more : List ℕ) (how : How) → old.coming (taken ++ more) how ≡ first i (new.coming more how))
Gives kind old taken new left nothing = (new.is_over ≡ false) × ((more : List ℕ) (how : How) → old.coming (taken ++ more) how ≡ new.coming more how)
Gives kind old taken new left (end e) = EndsBy (kind e) old taken left e × IsOverAs new e

-- the call took some bytes of what was left, and answered
pub record Answered {I E : Type 0} (kind : E → Kind) (old new : Outlook I E) (before left : Option (List ℕ)) (got : Got I E) : Type 0 where
  pub taken : List ℕ
  pub lost : Consumes before left taken
  pub gives : Gives kind old taken new left got
