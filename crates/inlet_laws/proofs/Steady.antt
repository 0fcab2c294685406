-- The rules of a feed are steady.
use Rattle.std.proofs.Common.{◌≡◌, ℕ, zero, suc, ◌+◌, ◌-◌, ◌<◌, ◌≤◌, List, [], ◌∷◌, ◌++◌, length, Option, Some, None, Ok, Err, refl, sym, ap, ◌∙◌, arith}
use Rattle.std.proofs.lemmas.List.{length-append}
use Rattle.reading_model.specs.Outlook.{ended, failed, over, final, at_end, at_fault, at_limit}
use Rattle.reading_model.specs.Rules.{Front, whole, short, last, AreSteady}
use Rattle.xdf_model.specs.declared.types.Shape.{Shape}
use Rattle.xdf_model.specs.Sample.{Sample}
use Rattle.feed_model.specs.declared.Order.{Order}
use Rattle.feed_model.specs.FeedReading.{FeedFault, bad_tag, bad_width, too_long, Taken, feed_sample_at}
use Rattle.feed_model.specs.FeedReading as fault
use Rattle.feed_laws.specs.Followed.{followed, farther}
use Rattle.feed_laws.proofs.Cut.{rest_shorter}
use Rattle.feed_laws.proofs.Steady.{steady_sample}
use Rattle.feed_reply.proofs.Longer.{more_bytes}
use Rattle.reply_model.specs.declared.ReplyStep.{ReplyStep}
use Rattle.reply_model.specs.declared.ReplyStep.TheVariants.{Done, More, Refused}
use Rattle.reply_model.specs.Reply.{reply_in}
use Rattle.inlet_model.specs.declared.end.FeedEnd.{FeedEnd}
use Rattle.inlet_model.specs.declared.end.FeedEnd.TheVariants.{Limit, ReplyRefused, BadTag, BadWidth, SampleTooLong}
use Rattle.inlet_model.specs.Inlet.{FeedState, before_reply, behind_reply, by_reply, by_sample, by_fault, by_read, by_quota, feed_front, feed_end, feed_kind, feed_rules}
use Rattle.inlet_laws.proofs.Replies.{reply_size}

abbrev FeedFront : Type 0
FeedFront = Front FeedState Sample FeedEnd

sample_size : (order : Order) (tests : ℕ) (quota : Option ℕ) (place used : ℕ) (s : Sample) (i : Option Sample) (u : ℕ) (t : FeedState) → by_sample order tests quota place used s ≡ whole i u t → used ≡ u
sample_size order zero quota place used s i u t e = cc
sample_size order (suc k) quota place used s i u t e = cc

fault_is_none : (place size : ℕ) (f : FeedFault) (i : Option Sample) (u : ℕ) (t : FeedState) → by_fault place size f ≡ whole i u t → ⊥
fault_is_none place size fault.short i u t e = cc
fault_is_none place size (bad_tag left byte) i u t e = cc
fault_is_none place size (bad_width left byte) i u t e = cc
fault_is_none place size (too_long left) i u t e = cc

read_size : (shape : Shape) (order : Order) (tests : ℕ) (quota : Option ℕ) (place : ℕ) (b : List ℕ) (r : Taken Sample) (i : Option Sample) (u : ℕ) (t : FeedState) → feed_sample_at shape order b ≡ r
    → by_read order tests quota place (length b) r ≡ whole i u t → (0 < u) × (u ≤ length b)
read_size shape order tests quota place b (Ok x) i u t is e =
    let shorter : length x.1 < length b = rest_shorter shape order b x.0 x.1 is in
    let size : length b - length x.1 ≡ u = sample_size order tests quota place (length b - length x.1) x.0 i u t e in
    (omega (arith, shorter, size), omega (arith, shorter, size))
read_size shape order tests quota place b (Err f) i u t is e = absurd (fault_is_none place (length b) f i u t e)

quota_size : (shape : Shape) (order : Order) (tests : ℕ) (quota : Option ℕ) (place : ℕ) (b : List ℕ) (i : Option Sample) (u : ℕ) (t : FeedState) → by_quota shape order tests quota place b ≡ whole i u t → (0 < u) × (u ≤ length b)
quota_size shape order tests None place b i u t e = read_size shape order tests None place b (feed_sample_at shape order b) i u t refl e
quota_size shape order tests (Some zero) place b i u t e = absurd cc
quota_size shape order tests (Some (suc n)) place b i u t e = read_size shape order tests (Some (suc n)) place b (feed_sample_at shape order b) i u t refl e

reply_front_size : (uid : Option (List ℕ)) (quota : Option ℕ) (b : List ℕ) (r : ReplyStep) (i : Option Sample) (u : ℕ) (t : FeedState) → reply_in uid b ≡ r → by_reply quota r ≡ whole i u t → (0 < u) × (u ≤ length b)
reply_front_size uid quota b (Done reply used) i u t is e =
    let same : used ≡ u = cc in
    let size = reply_size uid b reply used is in
    (omega (arith, size.0, same), omega (arith, size.1, same))
reply_front_size uid quota b More i u t is e = absurd cc
reply_front_size uid quota b (Refused at why) i u t is e = absurd cc

front_size : (uid : Option (List ℕ)) (shape : Shape) (state : FeedState) (b : List ℕ) (i : Option Sample) (u : ℕ) (t : FeedState) → feed_front uid shape state b ≡ whole i u t → (0 < u) × (u ≤ length b)
front_size uid shape (before_reply quota) b i u t e = reply_front_size uid quota b (reply_in uid b) i u t refl e
front_size uid shape (behind_reply order tests quota place) b i u t e = quota_size shape order tests quota place b i u t e

fault_followed : (place size more : ℕ) (f : FeedFault) → by_fault place (size + more) (farther more f) ≡ by_fault place size f
fault_followed place size more fault.short = refl
fault_followed place size more (bad_tag left byte) = ap (λ (k : ℕ). last (BadTag (place + k) byte)) (omega arith)
fault_followed place size more (bad_width left byte) = ap (λ (k : ℕ). last (BadWidth (place + k) byte)) (omega arith)
fault_followed place size more (too_long left) = ap (λ (k : ℕ). last (SampleTooLong (place + k))) (omega arith)

read_followed : (order : Order) (tests : ℕ) (quota : Option ℕ) (place : ℕ) (b more : List ℕ) (r : Taken Sample) → by_read order tests quota place (length (b ++ more)) (followed more r) ≡ by_read order tests quota place (length b) r
read_followed order tests quota place b more (Ok x) =
    let size : length (b ++ more) - length (x.1 ++ more) ≡ length b - length x.1 = omega (arith, length-append b more, length-append x.1 more) in
    ap (λ (u : ℕ). by_sample order tests quota place u x.0) size
read_followed order tests quota place b more (Err f) = ap (λ (n : ℕ). by_fault place n (farther (length more) f)) (length-append b more) ∙ fault_followed place (length b) (length more) f

read_stays : (shape : Shape) (order : Order) (tests : ℕ) (quota : Option ℕ) (place : ℕ) (b more : List ℕ) → (by_read order tests quota place (length b) (feed_sample_at shape order b) ≡ short → ⊥)
    → by_read order tests quota place (length (b ++ more)) (feed_sample_at shape order (b ++ more)) ≡ by_read order tests quota place (length b) (feed_sample_at shape order b)
read_stays shape order tests quota place b more h =
    let long : feed_sample_at shape order b ≡ Err fault.short → ⊥ = λ e. h (ap (by_read order tests quota place (length b)) e) in
    ap (by_read order tests quota place (length (b ++ more))) ((steady_sample shape order).more b more long) ∙ read_followed order tests quota place b more (feed_sample_at shape order b)

front_stays : (uid : Option (List ℕ)) (shape : Shape) (state : FeedState) (b more : List ℕ) → (feed_front uid shape state b ≡ short → ⊥) → feed_front uid shape state (b ++ more) ≡ feed_front uid shape state b
front_stays uid shape (before_reply quota) b more h = ap (by_reply quota) (more_bytes uid b more (λ e. h (ap (by_reply quota) e)))
front_stays uid shape (behind_reply order tests None place) b more h = read_stays shape order tests None place b more h
front_stays uid shape (behind_reply order tests (Some zero) place) b more h = refl
front_stays uid shape (behind_reply order tests (Some (suc n)) place) b more h = read_stays shape order tests (Some (suc n)) place b more h

sample_is_no_end : (order : Order) (tests : ℕ) (quota : Option ℕ) (place used : ℕ) (s : Sample) (e : FeedEnd) → by_sample order tests quota place used s ≡ last e → ⊥
sample_is_no_end order zero quota place used s e h = cc
sample_is_no_end order (suc k) quota place used s e h = cc

fault_final : (place size : ℕ) (f : FeedFault) (e : FeedEnd) → by_fault place size f ≡ last e → feed_kind e ≡ final
fault_final place size fault.short e h = absurd cc
fault_final place size (bad_tag left byte) e h = let is : BadTag (place + (size - left)) byte ≡ e = cc in ap feed_kind (sym is)
fault_final place size (bad_width left byte) e h = let is : BadWidth (place + (size - left)) byte ≡ e = cc in ap feed_kind (sym is)
fault_final place size (too_long left) e h = let is : SampleTooLong (place + (size - left)) ≡ e = cc in ap feed_kind (sym is)

read_final : (order : Order) (tests : ℕ) (quota : Option ℕ) (place size : ℕ) (r : Taken Sample) (e : FeedEnd) → by_read order tests quota place size r ≡ last e → feed_kind e ≡ final
read_final order tests quota place size (Ok x) e h = absurd (sample_is_no_end order tests quota place (size - length x.1) x.0 e h)
read_final order tests quota place size (Err f) e h = fault_final place size f e h

reply_final : (quota : Option ℕ) (r : ReplyStep) (e : FeedEnd) → by_reply quota r ≡ last e → feed_kind e ≡ final
reply_final quota (Done reply used) e h = absurd cc
reply_final quota More e h = absurd cc
reply_final quota (Refused at why) e h = let is : ReplyRefused at why ≡ e = cc in ap feed_kind (sym is)

front_final : (uid : Option (List ℕ)) (shape : Shape) (state : FeedState) (b : List ℕ) (e : FeedEnd) → feed_front uid shape state b ≡ last e → feed_kind e ≡ final
front_final uid shape (before_reply quota) b e h = reply_final quota (reply_in uid b) e h
front_final uid shape (behind_reply order tests None place) b e h = read_final order tests None place (length b) (feed_sample_at shape order b) e h
front_final uid shape (behind_reply order tests (Some zero) place) b e h = let is : Limit ≡ e = cc in ap feed_kind (sym is)
front_final uid shape (behind_reply order tests (Some (suc n)) place) b e h = read_final order tests (Some (suc n)) place (length b) (feed_sample_at shape order b) e h

end_is_at_end : (state : FeedState) (b : List ℕ) → feed_kind (feed_end state b ended) ≡ at_end
end_is_at_end (before_reply quota) b = refl
end_is_at_end (behind_reply order zero quota place) [] = refl
end_is_at_end (behind_reply order zero quota place) (x ∷ b) = refl
end_is_at_end (behind_reply order (suc k) quota place) b = refl

fail_is_at_fault : (state : FeedState) (b : List ℕ) → feed_kind (feed_end state b failed) ≡ at_fault
fail_is_at_fault (before_reply quota) b = refl
fail_is_at_fault (behind_reply order tests quota place) b = refl

over_is_at_limit : (state : FeedState) (b : List ℕ) → feed_kind (feed_end state b over) ≡ at_limit
over_is_at_limit (before_reply quota) b = refl
over_is_at_limit (behind_reply order tests quota place) b = refl

pub steady_feed : (uid : Option (List ℕ)) (shape : Shape) → AreSteady (feed_rules uid shape)
steady_feed uid shape = record {
  within = λ s b i u t e. front_size uid shape s b i u t e;
  stays = λ s b more h. front_stays uid shape s b more h;
  last_is_final = λ s b e h. front_final uid shape s b e h;
  ended_is_at_end = end_is_at_end;
  failed_is_at_fault = fail_is_at_fault;
  over_is_at_limit = over_is_at_limit;
}
