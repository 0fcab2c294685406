-- The samples of a feed (LSL data protocol 1.10): a tag, a time stamp where the tag says so, and a value for each channel.
use Rattle.std.specs.Prelude.{◌≡◌, ℕ, ◌<◌, ◌≤◌, ◌^◌, ◌==◌, ◌||◌, Bool, IsTrue, List, [], ◌∷◌, ◌++◌, length, sum_by}
use Rattle.byteorder.specs.Endian.{little_bytes, big_bytes}
use Rattle.xdf_model.specs.declared.types.Shape.{Shape}
use Rattle.xdf_model.specs.declared.types.Stamp.{Stamp}
use Rattle.xdf_model.specs.declared.types.Stamp.TheVariants.{None, Bits}
use Rattle.xdf_model.specs.Sample.{Value, number, text, Sample, size_of, FitsShape, Joined}
use Rattle.feed_model.specs.declared.Order.{Order}
use Rattle.feed_model.specs.declared.Order.TheVariants.{Little, Big}

-- a number in so many bytes, in the feed's order
abbrev pub ordered_bytes : Order → ℕ → ℕ → List ℕ
ordered_bytes Little size n = little_bytes size n
ordered_bytes Big size n = big_bytes size n

-- tag 1: the stamp is to be deduced; tag 2: the stamp follows, a double's pattern
abbrev pub tag_text : Order → Stamp → List ℕ
tag_text order None = 1 ∷ []
tag_text order (Bits n) = 2 ∷ ordered_bytes order 8 n

-- the widths that the length of a text may have
abbrev pub is_text_width : ℕ → Bool
is_text_width w = w == 1 || w == 2 || w == 4 || w == 8

-- b is a value as the feed sends it: a number in its size, or a text behind its length; size 0 stands for texts
abbrev pub IsFeedValue : Order → ℕ → Value → List ℕ → Type 0
IsFeedValue order size (number n) b = (0 < size) × (n < 256 ^ size) × (b ≡ ordered_bytes order size n)
IsFeedValue order size (text t) b =
    (size ≡ 0) × (w : ℕ) × IsTrue (is_text_width w) × (length t < 256 ^ w) × (b ≡ w ∷ ordered_bytes order w (length t) ++ t)

abbrev pub text_size : Value → ℕ
text_size (number n) = 0
text_size (text t) = length t

-- the most bytes that all texts of one sample have together (this project's own)
abbrev pub text_limit : ℕ
text_limit = 16_777_216

-- b is the sample s of a shape, as the feed sends it
pub record IsFeedSample (shape : Shape) (order : Order) (s : Sample) (b : List ℕ) : Type 0 where
  pub fits : FitsShape shape s
  pub texts : sum_by text_size s.values ≤ text_limit
  pub values : List ℕ
  pub each : Joined (IsFeedValue order (size_of shape.format)) s.values values
  pub whole : b ≡ tag_text order s.stamp ++ values
