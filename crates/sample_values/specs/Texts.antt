-- Texts that are kept one behind the other.
use Rattle.std.specs.Prelude.{◌≡◌, ℕ, List, length}
use Rattle.std.specs.List.{flat_map}
use Rattle.xdf_model.specs.Reading.{many_at}
use Rattle.xdf_model.specs.Sample.{Value, Joined, IsValueText, value_at, least_value_text}
use Rattle.sample_values.specs.Raw.{listed}

-- so many texts in these bytes
abbrev pub texts_in : ℕ → List ℕ → List Value
texts_in n b = listed (many_at (value_at 0) n b)

-- the bytes are so many texts, each with the least width of its length
pub record AreTexts (n : ℕ) (b : List ℕ) : Type 0 where
  pub count : length (texts_in n b) ≡ n
  pub each : Joined (IsValueText 0) (texts_in n b) b
  pub least : b ≡ flat_map (least_value_text 0) (texts_in n b)
