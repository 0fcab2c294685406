-- What an inlet gets of a feed's bytes: the samples behind the reply and two test samples, and how the feed ended (LSL `streamfeed`, data
-- protocol 1.10; the ends and their order are this project's own).
use Rattle.std.specs.Prelude.{ℕ, zero, suc, ◌+◌, ◌-◌, List, [], ◌∷◌, length, Option, Some, None, Ok, Err}
use Rattle.reading_model.specs.Outlook.{How, ended, failed, over, All, Kind, final, at_end, at_fault, at_limit}
use Rattle.reading_model.specs.Rules.{Front, whole, short, last, Rules, all_of}
use Rattle.reading_model.specs.Reading.{all_within}
use Rattle.xdf_model.specs.declared.types.Shape.{Shape}
use Rattle.xdf_model.specs.Sample.{Sample}
use Rattle.feed_model.specs.declared.Order.{Order}
use Rattle.feed_model.specs.FeedReading.{FeedFault, bad_tag, bad_width, too_long, Taken, feed_sample_at}
use Rattle.feed_model.specs.FeedReading as fault
use Rattle.reply_model.specs.declared.ReplyStep.{ReplyStep}
use Rattle.reply_model.specs.declared.ReplyStep.TheVariants.{Done, More, Refused}
use Rattle.reply_model.specs.Reply.{reply_in}
use Rattle.inlet_model.specs.declared.end.FeedEnd.{FeedEnd}
use Rattle.inlet_model.specs.declared.end.FeedEnd.TheVariants.{Whole, Limit, TornReply, ReplyRefused, TornSample, BadTag, BadWidth, SampleTooLong, ReadFault, ByteLimit}

-- Where an inlet stands in a feed: before the reply; or behind it, with the order of numbers, how many test samples are still to come,
-- and the place. Both have how many samples may still be given, where that is limited.
pub data FeedState : Type 0 where
  before_reply : Option ℕ → FeedState
  behind_reply : Order → ℕ → Option ℕ → ℕ → FeedState

-- the reply, or why it is refused (LSL, reply to `streamfeed`)
abbrev pub by_reply : Option ℕ → ReplyStep → Front FeedState Sample FeedEnd
by_reply quota (Done reply used) = whole None used (behind_reply reply.order 2 quota used)
by_reply quota More = short
by_reply quota (Refused at why) = last (ReplyRefused at why)

abbrev pub one_less : Option ℕ → Option ℕ
one_less None = None
one_less (Some n) = Some (n - 1)

-- a test sample is passed over; any other is given (LSL data protocol 1.10)
abbrev pub by_sample : Order → ℕ → Option ℕ → ℕ → ℕ → Sample → Front FeedState Sample FeedEnd
by_sample order zero quota place used s = whole (Some s) used (behind_reply order zero (one_less quota) (place + used))
by_sample order (suc tests) quota place used s = whole None used (behind_reply order tests quota (place + used))

-- a fault, with so many bytes left from it to the end of so many (this project's own)
abbrev pub by_fault : ℕ → ℕ → FeedFault → Front FeedState Sample FeedEnd
by_fault place size fault.short = short
by_fault place size (bad_tag left byte) = last (BadTag (place + (size - left)) byte)
by_fault place size (bad_width left byte) = last (BadWidth (place + (size - left)) byte)
by_fault place size (too_long left) = last (SampleTooLong (place + (size - left)))

abbrev pub by_read : Order → ℕ → Option ℕ → ℕ → ℕ → Taken Sample → Front FeedState Sample FeedEnd
by_read order tests quota place size (Ok read) = by_sample order tests quota place (size - length read.1) read.0
by_read order tests quota place size (Err f) = by_fault place size f

-- once as many samples as asked for were given, nothing else counts (this project's own)
abbrev pub by_quota : Shape → Order → ℕ → Option ℕ → ℕ → List ℕ → Front FeedState Sample FeedEnd
by_quota shape order tests (Some zero) place b = last Limit
by_quota shape order tests (Some (suc n)) place b = by_read order tests (Some (suc n)) place (length b) (feed_sample_at shape order b)
by_quota shape order tests None place b = by_read order tests None place (length b) (feed_sample_at shape order b)

-- what stands at the front of a feed's bytes (LSL `streamfeed`, data protocol 1.10)
abbrev pub feed_front : Option (List ℕ) → Shape → FeedState → List ℕ → Front FeedState Sample FeedEnd
feed_front uid shape (before_reply quota) b = by_reply quota (reply_in uid b)
feed_front uid shape (behind_reply order tests quota place) b = by_quota shape order tests quota place b

-- the end behind the test samples: whole where no byte is left (this project's own)
abbrev pub end_of_input : ℕ → ℕ → List ℕ → FeedEnd
end_of_input zero place [] = Whole
end_of_input zero place (x ∷ b) = TornSample place
end_of_input (suc tests) place b = TornSample place

-- the end where too few bytes are left for what comes next (this project's own)
abbrev pub feed_end : FeedState → List ℕ → How → FeedEnd
feed_end state b failed = ReadFault
feed_end state b over = ByteLimit
feed_end (before_reply quota) b ended = TornReply
feed_end (behind_reply order tests quota place) b ended = end_of_input tests place b

abbrev pub feed_kind : FeedEnd → Kind
feed_kind Whole = at_end
feed_kind TornReply = at_end
feed_kind (TornSample place) = at_end
feed_kind ReadFault = at_fault
feed_kind ByteLimit = at_limit
feed_kind Limit = final
feed_kind (ReplyRefused at why) = final
feed_kind (BadTag at byte) = final
feed_kind (BadWidth at byte) = final
feed_kind (SampleTooLong at) = final

abbrev pub feed_rules : Option (List ℕ) → Shape → Rules FeedState Sample FeedEnd
feed_rules uid shape = record { at = feed_front uid shape; end = feed_end; kind = feed_kind }

-- the samples in some bytes of a feed and its end, where the input goes on so behind them. A uid that is asked for must be the reply's;
-- so many samples may be given, where that is limited.
abbrev pub feed_in : Option (List ℕ) → Shape → Option ℕ → List ℕ → How → All Sample FeedEnd
feed_in uid shape limit b how = all_of (feed_rules uid shape) how (before_reply limit) b

-- the same where only so many bytes count
abbrev pub feed_counted : Option (List ℕ) → Shape → Option ℕ → ℕ → List ℕ → How → All Sample FeedEnd
feed_counted uid shape limit most b how = all_within (feed_rules uid shape) (before_reply limit) most b how

-- the samples in all bytes of a feed and its end, where only so many bytes count
abbrev pub feed_within : Option (List ℕ) → Shape → Option ℕ → ℕ → List ℕ → All Sample FeedEnd
feed_within uid shape limit most b = feed_counted uid shape limit most b ended
