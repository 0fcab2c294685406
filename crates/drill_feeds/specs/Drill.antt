-- The three feeds of the drill: samples that a fixed rule makes, behind a reply and two test samples (the rule is this project's own; how a
-- sample stands in a feed is of the LSL data protocol 1.10).
use Rattle.std.specs.Prelude.{ℕ, zero, suc, ◌+◌, ◌*◌, ◌/◌, ◌%◌, ◌^◌, ◌==◌, List, [], ◌∷◌, ◌++◌, length, map, if◌then◌else◌, codes}
use Rattle.std.specs.List.{flat_map}
use Rattle.xdf_model.specs.declared.types.Format.TheVariants.{Double64, Text, Int16}
use Rattle.xdf_model.specs.declared.types.Format.{Format}
use Rattle.xdf_model.specs.declared.types.Shape.{Shape}
use Rattle.xdf_model.specs.declared.types.Stamp.{Stamp}
use Rattle.xdf_model.specs.declared.types.Stamp.TheVariants.{None, Bits}
use Rattle.xdf_model.specs.Sample.{Value, number, text, Sample, size_of}
use Rattle.feed_model.specs.declared.Order.{Order}
use Rattle.feed_model.specs.declared.Order.TheVariants.{Little, Big}
use Rattle.feed_model.specs.Feed.{ordered_bytes, tag_text}

-- ---- what each feed is, by its id

-- its channels, counted from 0
abbrev pub drill_channels : ℕ → List ℕ
drill_channels id = if id == 1 then 0 ∷ 1 ∷ [] else 0 ∷ []

abbrev pub drill_format : ℕ → Format
drill_format id = if id == 1 then Int16 else if id == 2 then Double64 else Text

abbrev pub drill_shape : ℕ → Shape
drill_shape id = record { count = length (drill_channels id); format = drill_format id }

abbrev pub drill_order : ℕ → Order
drill_order id = if id == 2 then Big else Little

-- how many samples it has, where the drill has so many
abbrev pub drill_count : ℕ → ℕ → ℕ
drill_count samples id = if id == 1 then samples else if id == 2 then samples / 2 else samples / 10

abbrev pub drill_document : ℕ → List ℕ
drill_document id =
    if id == 1 then codes "<info><channel_count>2</channel_count><channel_format>int16</channel_format></info>"
    else if id == 2 then codes "<info><channel_count>1</channel_count><channel_format>double64</channel_format></info>"
    else codes "<info><channel_count>1</channel_count><channel_format>string</channel_format></info>"

-- ---- its samples

-- the number that a value is made of, by the feed, the position and the channel
abbrev pub drill_number : ℕ → ℕ → ℕ → ℕ → ℕ
drill_number samples id position channel = ((samples + 65_536 * id + 4096 * channel + position) * 6_364_136_223_846_793_005) % 2 ^ 64

-- so many small letters, one after the other in the alphabet, which begins anew behind its end
abbrev pub letters : ℕ → ℕ → List ℕ
letters first zero = []
letters first (suc n) = letters first n ++ (97 + (first + n) % 26) ∷ []

abbrev pub drill_value : ℕ → ℕ → ℕ → ℕ → Value
drill_value samples id position channel =
    if id == 1 then number (drill_number samples id position channel / 2 ^ 48)
    else if id == 2 then number (drill_number samples id position channel)
    else text (letters (drill_number samples id position channel / 2 ^ 40) (position % 20))

-- each fourth sample has a stamp, from the first one on: a double's pattern of one second and a little more
abbrev pub drill_stamp : ℕ → Stamp
drill_stamp position = if position % 4 == 0 then Bits (4_607_182_418_800_017_408 + position) else None

abbrev pub drill_sample : ℕ → ℕ → ℕ → Sample
drill_sample samples id position = record { stamp = drill_stamp position; values = map (λ channel. drill_value samples id position channel) (drill_channels id) }

-- the first n samples of a feed
abbrev pub first_samples : ℕ → ℕ → ℕ → List Sample
first_samples samples id zero = []
first_samples samples id (suc n) = first_samples samples id n ++ drill_sample samples id n ∷ []

abbrev pub drill_samples : ℕ → ℕ → List Sample
drill_samples samples id = first_samples samples id (drill_count samples id)

-- a test sample: it has no stamp, and its values are 0 or empty
abbrev pub test_sample : ℕ → Sample
test_sample id = record { stamp = None; values = map (λ channel. if id == 3 then text [] else number 0) (drill_channels id) }

-- ---- its bytes

-- a number in its size, or a text behind its length in one byte
abbrev pub feed_value_text : Order → ℕ → Value → List ℕ
feed_value_text order size (number n) = ordered_bytes order size n
feed_value_text order size (text t) = 1 ∷ length t ∷ t

abbrev pub feed_sample_text : Order → ℕ → Sample → List ℕ
feed_sample_text order size s = tag_text order s.stamp ++ flat_map (feed_value_text order size) s.values

-- the outlet's reply: the status, the stream's uid, the order, no suppressed subnormals, and the data protocol
abbrev pub drill_reply : Order → List ℕ
drill_reply Little = codes "LSL/110 200 OK\r\nUID: u1\r\nByte-Order: 1234\r\nSuppress-Subnormals: 0\r\nData-Protocol-Version: 110\r\n\r\n"
drill_reply Big = codes "LSL/110 200 OK\r\nUID: u1\r\nByte-Order: 4321\r\nSuppress-Subnormals: 0\r\nData-Protocol-Version: 110\r\n\r\n"

-- the reply, two test samples, and the samples
abbrev pub drill_bytes : ℕ → ℕ → List ℕ
drill_bytes samples id =
    drill_reply (drill_order id)
    ++ flat_map (feed_sample_text (drill_order id) (size_of (drill_format id))) (test_sample id ∷ test_sample id ∷ drill_samples samples id)
