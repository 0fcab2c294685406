-- What stays of an answer where more bytes follow, and where a fault stands.
use Rattle.std.specs.Prelude.{ℕ, ◌+◌, ◌<◌, ◌≤◌, List, ◌++◌, length, Ok, Err}
use Rattle.feed_model.specs.FeedReading.{FeedFault, short, bad_tag, bad_width, too_long, Taken}

-- the same fault where so many more bytes follow: as far from the front, and so much farther from the end
abbrev pub farther : ℕ → FeedFault → FeedFault
farther more short = short
farther more (bad_tag left byte) = bad_tag (left + more) byte
farther more (bad_width left byte) = bad_width (left + more) byte
farther more (too_long left) = too_long (left + more)

-- the same answer where more bytes follow
abbrev pub followed : {A : Type 0} → List ℕ → Taken A → Taken A
followed more (Ok x) = Ok (x.0, x.1 ++ more)
followed more (Err f) = Err (farther (length more) f)

-- the fault is at one of so many bytes
abbrev pub StandsWithin : ℕ → FeedFault → Type 0
StandsWithin n short = Unit {0}
StandsWithin n (bad_tag left byte) = (0 < left) × (left ≤ n)
StandsWithin n (bad_width left byte) = (0 < left) × (left ≤ n)
StandsWithin n (too_long left) = (0 < left) × (left ≤ n)
