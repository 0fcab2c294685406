-- Ends of a feed.
use Rattle.std.proofs.Common.{◌≡◌, refl}
use Rattle.std.specs.Prelude.{Option, None, Some, true, false}
use Rattle.std.specs.Option.{is_some}
use Rattle.reading_model.specs.Outlook.{at_fault}
use Rattle.inlet_model.specs.declared.end.FeedEnd.{FeedEnd}
use Rattle.inlet_model.specs.declared.end.FeedEnd.TheVariants as ends
use Rattle.inlet_model.specs.Inlet.{feed_kind}

-- a failed read alone is a fault of the source
pub fault_alone : (e : FeedEnd) → feed_kind e ≡ at_fault → e ≡ ends.ReadFault
fault_alone ends.Whole k = absurd cc
fault_alone ends.Limit k = absurd cc
fault_alone ends.TornReply k = absurd cc
fault_alone (ends.ReplyRefused at why) k = absurd cc
fault_alone (ends.TornSample at) k = absurd cc
fault_alone (ends.BadTag at byte) k = absurd cc
fault_alone (ends.BadWidth at byte) k = absurd cc
fault_alone (ends.SampleTooLong at) k = absurd cc
fault_alone ends.ReadFault k = refl
fault_alone ends.ByteLimit k = absurd cc

pub none_is : (e : Option FeedEnd) → is_some e ≡ false → e ≡ None
none_is None h = refl
none_is (Some e) h = absurd cc

pub some_is : (e : Option FeedEnd) → is_some e ≡ true → (x : FeedEnd) × (e ≡ Some x)
some_is None h = absurd cc
some_is (Some e) h = (e, refl)
