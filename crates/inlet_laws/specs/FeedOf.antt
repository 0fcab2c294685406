-- What an inlet gets of a feed's bytes, as a reader of the format would say it (LSL `streamfeed`, data protocol 1.10; the ends are this
-- project's own).
use Rattle.std.specs.Prelude.{◌≡◌, ℕ, zero, suc, ◌+◌, ◌-◌, ◌<◌, ◌⊎◌, List, [], ◌∷◌, ◌++◌, length, drop, Option, Some, None, Err}
use Rattle.reading_model.specs.Outlook.{How, ended, failed, over}
use Rattle.xdf_model.specs.declared.types.Shape.{Shape}
use Rattle.xdf_model.specs.Sample.{Sample, Joined}
use Rattle.feed_model.specs.declared.Order.{Order}
use Rattle.feed_model.specs.Feed.{IsFeedSample}
use Rattle.feed_model.specs.FeedReading.{FeedFault, short, bad_tag, bad_width, too_long, feed_sample_at}
use Rattle.reply_model.specs.declared.Reply.{Reply}
use Rattle.reply_model.specs.declared.ReplyWhy.{ReplyWhy}
use Rattle.reply_model.specs.declared.ReplyStep.TheVariants.{Done, More, Refused}
use Rattle.reply_model.specs.Reply.{reply_in}
use Rattle.inlet_model.specs.declared.end.FeedEnd.{FeedEnd}
use Rattle.inlet_model.specs.declared.end.FeedEnd.TheVariants.{Whole, Limit, TornReply, ReplyRefused, TornSample, BadTag, BadWidth, SampleTooLong, ReadFault, ByteLimit}

-- the end where the reply isn't complete, by how the input goes on (this project's own)
abbrev pub cut_reply : How → FeedEnd
cut_reply ended = TornReply
cut_reply failed = ReadFault
cut_reply over = ByteLimit

-- the end where the input goes on so behind a rest at a place, at which too few bytes stand for a sample; so many test samples are
-- missing before it (this project's own)
abbrev pub cut_sample : ℕ → ℕ → List ℕ → How → FeedEnd
cut_sample missing place rest failed = ReadFault
cut_sample missing place rest over = ByteLimit
cut_sample zero place [] ended = Whole
cut_sample zero place (x ∷ rest) ended = TornSample place
cut_sample (suc missing) place rest ended = TornSample place

-- the end where no sample stands at a rest, for this reason (this project's own)
abbrev pub no_sample : ℕ → ℕ → List ℕ → How → FeedFault → FeedEnd
no_sample missing place rest how short = cut_sample missing place rest how
no_sample missing place rest how (bad_tag left byte) = BadTag (place + (length rest - left)) byte
no_sample missing place rest how (bad_width left byte) = BadWidth (place + (length rest - left)) byte
no_sample missing place rest how (too_long left) = SampleTooLong (place + (length rest - left))

-- as many samples as asked for (this project's own)
abbrev pub IsEnough : Option ℕ → List Sample → Type 0
IsEnough None samples = ⊥
IsEnough (Some n) samples = length samples ≡ n

-- fewer samples than asked for (this project's own)
abbrev pub IsBelow : Option ℕ → List Sample → Type 0
IsBelow None samples = Unit {0}
IsBelow (Some n) samples = length samples < n

-- fewer samples than asked for are given, and no sample stands at the rest
pub record IsStopped (shape : Shape) (order : Order) (limit : Option ℕ) (samples : List Sample) (missing place : ℕ) (rest : List ℕ) (how : How) (e : FeedEnd) : Type 0 where
  pub below : IsBelow limit samples
  pub why : FeedFault
  pub stands : feed_sample_at shape order rest ≡ Err why
  pub end : e ≡ no_sample missing place rest how why

-- The bytes, which begin at a place of the feed, are texts of some samples and a rest (LSL data protocol 1.10). The first so many are
-- test samples, and those behind them are given: as many as asked for; or all, for no further sample stands at the rest.
pub record AreSamplesOf (shape : Shape) (order : Order) (tests : ℕ) (limit : Option ℕ) (place : ℕ) (b : List ℕ) (how : How) (samples : List Sample) (e : FeedEnd) : Type 0 where
  pub all : List Sample
  pub texts : List ℕ
  pub rest : List ℕ
  pub each : Joined (IsFeedSample shape order) all texts
  pub whole : b ≡ texts ++ rest
  pub given : samples ≡ drop tests all
  pub end : (IsEnough limit samples × (e ≡ Limit)) ⊎ IsStopped shape order limit samples (tests - length all) (place + length texts) rest how e

-- the reply is refused
pub record IsRefused (uid : Option (List ℕ)) (b : List ℕ) (samples : List Sample) (e : FeedEnd) : Type 0 where
  pub at : ℕ
  pub why : ReplyWhy
  pub refused : reply_in uid b ≡ Refused at why
  pub none : samples ≡ []
  pub end : e ≡ ReplyRefused at why

-- the reply isn't complete
pub record IsCutReply (uid : Option (List ℕ)) (b : List ℕ) (how : How) (samples : List Sample) (e : FeedEnd) : Type 0 where
  pub more : reply_in uid b ≡ More
  pub none : samples ≡ []
  pub end : e ≡ cut_reply how

-- a whole reply, and two test samples and others behind it
pub record IsAnswered (uid : Option (List ℕ)) (shape : Shape) (limit : Option ℕ) (b : List ℕ) (how : How) (samples : List Sample) (e : FeedEnd) : Type 0 where
  pub reply : Reply
  pub used : ℕ
  pub done : reply_in uid b ≡ Done reply used
  pub behind : AreSamplesOf shape reply.order 2 limit used (drop used b) how samples e

-- the samples in some bytes of a feed and its end, where the input goes on so behind them
abbrev pub IsFeedOf : Option (List ℕ) → Shape → Option ℕ → List ℕ → How → List Sample → FeedEnd → Type 0
IsFeedOf uid shape limit b how samples e = IsRefused uid b samples e ⊎ IsCutReply uid b how samples e ⊎ IsAnswered uid shape limit b how samples e
