-- What a reader of a feed keeps, and what a step does to it.
use Rattle.std.specs.Prelude.{◌≡◌, ℕ, zero, suc, List, take, Option, Some, None, ⊤}
use Rattle.reading_model.specs.Reading.{Reading, going, done}
use Rattle.reading_model.specs.Rules.{Rules, short}
use Rattle.piece_reader.specs.Steps.{Passes, EndsAs, Wants}
use Rattle.feed_model.specs.declared.Order.{Order}
use Rattle.xdf_model.specs.Sample.{Sample as SampleValue}
use Rattle.inlet_model.specs.declared.end.FeedEnd.{FeedEnd}
use Rattle.inlet_model.specs.Inlet.{FeedState, before_reply, behind_reply}
use Rattle.feed_samples.specs.declared.step.FeedStep.TheVariants.{Sample, End, Memory}
use Rattle.feed_reply.specs.declared.scan.ReplyScan.{ReplyScan}
use Rattle.feed_reply.specs.Scan.{IsScanOf}
use Rattle.feed_samples.specs.declared.scan.SampleScan.{SampleScan}
use Rattle.feed_samples.specs.Scan.{Knows}
use Rattle.feed_samples.specs.declared.stage.Stage.{Stage}
use Rattle.feed_samples.specs.declared.stage.Stage.TheVariants.{Reply, Samples}
use Rattle.feed_samples.specs.declared.step.FeedStep.{FeedStep}
use Rattle.feed_samples.specs.declared.stage.Quiet.{Quiet}
use Rattle.feed_samples.specs.declared.stage.Quiet.TheVariants as quiet
use Rattle.feed_samples.specs.declared.stage.Inner.{Inner}
use Rattle.feed_samples.specs.declared.stage.Inner.TheVariants as inner
use Rattle.feed_samples.specs.Inlet.{InletState, rules_of, with_reading, with_given, FitsGiven}
use Rattle.xdf_model.specs.declared.types.Shape.{Shape}

abbrev pub state_of : Stage → Option ℕ → ℕ → FeedState
state_of Reply quota place = before_reply quota
state_of (Samples order tests) quota place = behind_reply order tests quota place

-- where it stands, once the end was answered or not
abbrev pub reading_of : Option FeedEnd → FeedState → List ℕ → ℕ → Reading FeedState FeedEnd
reading_of (Some e) state bytes room = done e
reading_of None state bytes room = going state bytes room

-- the reply stands at the front of the feed
abbrev pub StandsAt : Stage → ℕ → Type 0
StandsAt Reply place = place ≡ 0
StandsAt (Samples order tests) place = ⊤

-- a sample may be given
abbrev pub IsOpen : Option ℕ → Type 0
IsOpen None = ⊤
IsOpen (Some zero) = ⊥
IsOpen (Some (suc n)) = ⊤

abbrev pub IsGoing : Reading FeedState FeedEnd → Type 0
IsGoing (done e) = ⊥
IsGoing (going s rest room) = ⊤

abbrev pub IsBeforeReply : Reading FeedState FeedEnd → Type 0
IsBeforeReply (done e) = ⊥
IsBeforeReply (going (before_reply quota) rest room) = ⊤
IsBeforeReply (going (behind_reply order tests quota place) rest room) = ⊥

abbrev pub IsBehindReply : Order → ℕ → Reading FeedState FeedEnd → Type 0
IsBehindReply o n (done e) = ⊥
IsBehindReply o n (going (before_reply quota) rest room) = ⊥
IsBehindReply o n (going (behind_reply order tests quota place) rest room) = (order ≡ o) × (tests ≡ n)

-- what stands in the bytes that count is short
abbrev pub IsShort : Rules FeedState SampleValue FeedEnd → Reading FeedState FeedEnd → Type 0
IsShort r (done e) = ⊥
IsShort r (going s rest room) = r.at s (take room rest) ≡ short

-- what is known of the bytes that count, for what comes next
abbrev pub IsKnown : Stage → Shape → List ℕ → ReplyScan → SampleScan → Type 0
IsKnown Reply shape counted reply sample = IsScanOf counted reply
IsKnown (Samples order tests) shape counted reply sample = Knows shape order counted sample

-- what is done where this is answered
abbrev pub DoesAnswer : InletState → InletState → FeedStep → Type 0
DoesAnswer old new (Sample s) = (next : Reading FeedState FeedEnd) × Passes (rules_of old) old.reading (Some s) next × (new ≡ with_given old next)
DoesAnswer old new (End e) = EndsAs (rules_of old) old.reading e × (new ≡ with_reading old (done e))
DoesAnswer old new Memory = new ≡ old

-- what is done where the bytes that were taken give no sample
abbrev pub Does : InletState → InletState → Quiet → Type 0
Does old new (quiet.End e) = DoesAnswer old new (End e)
Does old new quiet.Again = (next : Reading FeedState FeedEnd) × Passes (rules_of old) old.reading None next × (new ≡ with_reading old next)
Does old new quiet.Want = Wants (rules_of old) old.reading × (new ≡ old)

-- the same where they may give the sample s
abbrev pub DoesInto : InletState → InletState → SampleValue → Inner → Type 0
DoesInto old new s inner.Filled = DoesAnswer old new (Sample s) × FitsGiven old.shape (Sample s)
DoesInto old new s inner.Memory = DoesAnswer old new Memory
DoesInto old new s (inner.Quiet q) = Does old new q

-- nothing was gone past before the reply
abbrev pub IsFreeAt : Stage → ℕ → Type 0
IsFreeAt Reply free = free ≡ 0
IsFreeAt (Samples order tests) free = ⊤
