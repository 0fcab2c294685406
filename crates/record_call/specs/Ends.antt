-- How the end of a feed is printed. This project's own.
use Rattle.std.specs.Prelude.{ℕ, Bool, true, false, List, ◌++◌, codes, if◌then◌else◌}
use Rattle.std.specs.List.{list_all}
use Rattle.std.specs.Fmt.{decimal}
use Rattle.feed_reply.specs.Reasons.{reason_number}
use Rattle.inlet_model.specs.declared.end.FeedEnd.{FeedEnd}
use Rattle.inlet_model.specs.declared.end.FeedEnd.TheVariants.{Whole, Limit, TornReply, ReplyRefused, TornSample, BadTag, BadWidth, SampleTooLong, ReadFault, ByteLimit}

abbrev pub end_text : FeedEnd → List ℕ
end_text Whole = codes "whole"
end_text Limit = codes "limit"
end_text TornReply = codes "torn-reply"
end_text (ReplyRefused at why) = codes "reply-refused " ++ (decimal at ++ (codes " " ++ decimal (reason_number why)))
end_text (TornSample at) = codes "torn-sample " ++ decimal at
end_text (BadTag at byte) = codes "bad-tag " ++ (decimal at ++ (codes " " ++ decimal byte))
end_text (BadWidth at byte) = codes "bad-width " ++ (decimal at ++ (codes " " ++ decimal byte))
end_text (SampleTooLong at) = codes "sample-too-long " ++ decimal at
end_text ReadFault = codes "read-fault"
end_text ByteLimit = codes "byte-limit"

-- the feed came to its end, or to the number of samples that was asked for
abbrev pub is_complete : FeedEnd → Bool
is_complete Whole = true
is_complete Limit = true
is_complete TornReply = false
is_complete (ReplyRefused at why) = false
is_complete (TornSample at) = false
is_complete (BadTag at byte) = false
is_complete (BadWidth at byte) = false
is_complete (SampleTooLong at) = false
is_complete ReadFault = false
is_complete ByteLimit = false

-- the status where the file was written and all lines were said
abbrev pub record_status : List FeedEnd → ℕ
record_status ends = if list_all is_complete ends then 0 else 1
