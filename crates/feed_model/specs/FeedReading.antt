-- Reading a feed from left to right (LSL data protocol 1.10): a value and the bytes after it, or the first fault.
use Rattle.std.specs.Prelude.{ℕ, zero, suc, ◌+◌, ◌-◌, ◌==◌, List, [], ◌∷◌, length, take, drop, Result, Ok, Err, nat_lt, if◌then◌else◌}
use Rattle.byteorder.specs.Endian.{little_number, big_number}
use Rattle.xdf_model.specs.declared.types.Shape.{Shape}
use Rattle.xdf_model.specs.declared.types.Stamp.{Stamp}
use Rattle.xdf_model.specs.declared.types.Stamp.TheVariants.{None, Bits}
use Rattle.xdf_model.specs.Reading.{◌>>=◌}
use Rattle.xdf_model.specs.Sample.{Value, number, text, Sample, size_of}
use Rattle.feed_model.specs.declared.Order.{Order}
use Rattle.feed_model.specs.declared.Order.TheVariants.{Little, Big}
use Rattle.feed_model.specs.Feed.{is_text_width, text_size, text_limit}

-- Why no sample could be read (this project's own). The bytes run out; or, with the number of bytes left from the
-- fault to the end, a byte is no tag, a byte is no width, or the text whose width stands there is too long.
pub data FeedFault : Type 0 where
  short : FeedFault
  bad_tag : (left byte : ℕ) → FeedFault
  bad_width : (left byte : ℕ) → FeedFault
  too_long : (left : ℕ) → FeedFault

-- a value and the bytes after it, or the first fault
abbrev pub Taken : Type 0 → Type 0
Taken A = Result (A × List ℕ) FeedFault

-- the number in the first bytes, in the feed's order (LSL data protocol 1.10, "Byte-Order")
abbrev pub ordered_number : Order → ℕ → List ℕ → ℕ
ordered_number Little size b = little_number size b
ordered_number Big size b = big_number size b

-- so many bytes as a number, in the feed's order (LSL data protocol 1.10)
unfoldable pub ordered_at : Order → ℕ → List ℕ → Taken ℕ
ordered_at order size b = if nat_lt (length b) size then Err short else Ok (ordered_number order size b, drop size b)

-- the first n bytes
unfoldable pub bytes_at : ℕ → List ℕ → Taken (List ℕ)
bytes_at n b = if nat_lt (length b) n then Err short else Ok (take n b, drop n b)

-- a tag, and the time stamp where the tag is 2 (LSL data protocol 1.10)
unfoldable pub tag_at : Order → List ℕ → Taken Stamp
tag_at order [] = Err short
tag_at order (tag ∷ b) =
    if tag == 1 then Ok (None, b)
    else if tag == 2 then (ordered_at order 8 b >>= λ n. Ok (Bits n.0, n.1))
    else Err (bad_tag (length b + 1) tag)

-- a length that the room allows, and so many bytes; left counts from the width byte (this project's own)
unfoldable pub sized_text_at : ℕ → ℕ → ℕ → List ℕ → Taken Value
sized_text_at room left n b = if nat_lt room n then Err (too_long left) else (bytes_at n b >>= λ t. Ok (text t.0, t.1))

-- a text behind the width of its length and its length (LSL data protocol 1.10), where texts have so much room
unfoldable pub text_at : Order → ℕ → List ℕ → Taken Value
text_at order room [] = Err short
text_at order room (w ∷ b) =
    if is_text_width w then (ordered_at order w b >>= λ n. sized_text_at room (length b + 1) n.0 n.1)
    else Err (bad_width (length b + 1) w)

-- a number of a size (LSL data protocol 1.10)
unfoldable pub bits_at : Order → ℕ → List ℕ → Taken Value
bits_at order size b = do
  n ← ordered_at order size b
  Ok (number n.0, n.1)

-- the value of a channel; size 0 stands for texts
abbrev pub value_at : Order → ℕ → ℕ → List ℕ → Taken Value
value_at order zero room b = text_at order room b
value_at order (suc k) room b = bits_at order (suc k) b

-- n values, one after the other; each text takes its bytes from the room of the next (this project's own)
unfoldable pub values_at : Order → ℕ → ℕ → ℕ → List ℕ → Taken (List Value)
values_at order size zero room b = Ok ([], b)
values_at order size (suc n) room b = do
  x ← value_at order size room b
  xs ← values_at order size n (room - text_size x.0) x.1
  Ok (x.0 ∷ xs.0, xs.1)

-- what stands at the front of some bytes of a feed (LSL data protocol 1.10)
unfoldable pub feed_sample_at : Shape → Order → List ℕ → Taken Sample
feed_sample_at shape order b = do
  stamp ← tag_at order b
  values ← values_at order (size_of shape.format) shape.count text_limit stamp.1
  Ok (record { stamp = stamp.0; values = values.0 }, values.1)
