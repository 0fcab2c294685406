-- What a fault says of the bytes: a sample is right up to there, and there it is wrong.
use Rattle.std.specs.Prelude.{◌≡◌, ◌≢◌, ℕ, ◌-◌, ◌<◌, ◌≤◌, IsTrue, List, ◌∷◌, ◌++◌, length, sum_by}
use Rattle.xdf_model.specs.declared.types.Shape.{Shape}
use Rattle.xdf_model.specs.declared.types.Stamp.{Stamp}
use Rattle.xdf_model.specs.Sample.{Value, size_of, Joined}
use Rattle.feed_model.specs.declared.Order.{Order}
use Rattle.feed_model.specs.Feed.{tag_text, is_text_width, IsFeedValue, text_size, text_limit}
use Rattle.feed_model.specs.FeedReading.{FeedFault, short, bad_tag, bad_width, too_long, ordered_number}

-- b begins with a value that is wrong where texts have so much room; the fault is at its first byte
abbrev pub IsWrongValue : Order → ℕ → ℕ → List ℕ → FeedFault → Type 0
IsWrongValue order size room b short = ⊥
IsWrongValue order size room b (bad_tag left byte) = ⊥
IsWrongValue order size room b (bad_width left byte) =
    (size ≡ 0) × (left ≡ length b) × (rest : List ℕ) × (b ≡ byte ∷ rest) × (IsTrue (is_text_width byte) → ⊥)
IsWrongValue order size room b (too_long left) =
    (size ≡ 0) × (left ≡ length b) × (w : ℕ) × (rest : List ℕ) × (b ≡ w ∷ rest) × IsTrue (is_text_width w) × (w ≤ length rest) × (room < ordered_number order w rest)

-- b begins with fewer than n values that are right, and the next is wrong
pub record GoesWrong (order : Order) (size n room : ℕ) (b : List ℕ) (f : FeedFault) : Type 0 where
  pub before : List Value
  pub front : List ℕ
  pub tail : List ℕ
  pub fewer : length before < n
  pub texts : sum_by text_size before ≤ room
  pub each : Joined (IsFeedValue order size) before front
  pub whole : b ≡ front ++ tail
  pub wrong : IsWrongValue order size (room - sum_by text_size before) tail f

-- b begins with a tag that is right, and behind it a value is wrong
abbrev pub IsWrongBehindTag : Shape → Order → List ℕ → FeedFault → Type 0
IsWrongBehindTag shape order b f = (stamp : Stamp) × (rest : List ℕ) × (b ≡ tag_text order stamp ++ rest) × GoesWrong order (size_of shape.format) shape.count text_limit rest f

-- b begins with no tag, or a value behind its tag is wrong
abbrev pub IsFaulty : Shape → Order → List ℕ → FeedFault → Type 0
IsFaulty shape order b short = ⊥
IsFaulty shape order b (bad_tag left byte) = (left ≡ length b) × (rest : List ℕ) × (b ≡ byte ∷ rest) × (byte ≢ 1) × (byte ≢ 2)
IsFaulty shape order b (bad_width left byte) = IsWrongBehindTag shape order b (bad_width left byte)
IsFaulty shape order b (too_long left) = IsWrongBehindTag shape order b (too_long left)
