-- What the rules of a feed give behind the reply, by the sample at the front.
use Rattle.std.proofs.Common.{◌≡◌, ℕ, zero, suc, ◌+◌, ◌-◌, List, [], ◌∷◌, length, Option, Some, None, Err, refl, ap, ◌∙◌, arith}
use Rattle.reading_model.specs.Outlook.{How, ended, failed, over, All, first}
use Rattle.reading_model.specs.Rules.{by_front, all_by}
use Rattle.xdf_model.specs.declared.types.Shape.{Shape}
use Rattle.xdf_model.specs.Sample.{Sample}
use Rattle.feed_model.specs.declared.Order.{Order}
use Rattle.feed_model.specs.FeedReading.{FeedFault, short, bad_tag, bad_width, too_long, Taken, feed_sample_at}
use Rattle.feed_laws.proofs.Steps.{taken, failed as faulty}
use Rattle.feed_laws.proofs.Cut.{rest_within}
use Rattle.inlet_model.specs.declared.end.FeedEnd.{FeedEnd}
use Rattle.inlet_model.specs.declared.end.FeedEnd.TheVariants.{Limit}
use Rattle.inlet_model.specs.Inlet.{behind_reply, one_less, by_read, feed_end, feed_rules}
use Rattle.inlet_laws.specs.FeedOf.{cut_sample, no_sample, IsBelow}

-- what is given of so many things behind the reply
abbrev pub given_by : ℕ → Option (List ℕ) → Shape → Order → ℕ → Option ℕ → ℕ → How → List ℕ → All Sample FeedEnd
given_by k uid shape order tests quota place how b = all_by k (feed_rules uid shape) how (behind_reply order tests quota place) b

pub step_limit : (k : ℕ) (uid : Option (List ℕ)) (shape : Shape) (order : Order) (tests place : ℕ) (how : How) (b : List ℕ) → given_by (suc k) uid shape order tests (Some 0) place how b ≡ ([], Limit)
unfolding all_by
step_limit k uid shape order tests place how b = refl

-- while samples may be given, the sample at the front decides
step : (k : ℕ) (uid : Option (List ℕ)) (shape : Shape) (order : Order) (tests : ℕ) (quota : Option ℕ) (place : ℕ) (how : How) (b : List ℕ) (r : Taken Sample) → IsBelow quota [] → feed_sample_at shape order b ≡ r
    → given_by (suc k) uid shape order tests quota place how b ≡ by_front (feed_rules uid shape) (λ t rest. all_by k (feed_rules uid shape) how t rest) how (behind_reply order tests quota place) b (by_read order tests quota place (length b) r)
unfolding all_by
step k uid shape order tests None place how b r wants e = ap (λ (x : Taken Sample). by_front (feed_rules uid shape) (λ t rest. all_by k (feed_rules uid shape) how t rest) how (behind_reply order tests None place) b (by_read order tests None place (length b) x)) e
step k uid shape order tests (Some zero) place how b r wants e = absurd (omega (arith, wants))
step k uid shape order tests (Some (suc n)) place how b r wants e = ap (λ (x : Taken Sample). by_front (feed_rules uid shape) (λ t rest. all_by k (feed_rules uid shape) how t rest) how (behind_reply order tests (Some (suc n)) place) b (by_read order tests (Some (suc n)) place (length b) x)) e

end_same : (order : Order) (tests : ℕ) (quota : Option ℕ) (place : ℕ) (b : List ℕ) (how : How) → feed_end (behind_reply order tests quota place) b how ≡ cut_sample tests place b how
end_same order tests quota place b failed = refl
end_same order tests quota place b over = refl
end_same order zero quota place [] ended = refl
end_same order zero quota place (x ∷ b) ended = refl
end_same order (suc tests) quota place b ended = refl

fault_front : (k : ℕ) (uid : Option (List ℕ)) (shape : Shape) (order : Order) (tests : ℕ) (quota : Option ℕ) (place : ℕ) (how : How) (b : List ℕ) (f : FeedFault)
    → by_front (feed_rules uid shape) (λ t rest. all_by k (feed_rules uid shape) how t rest) how (behind_reply order tests quota place) b (by_read order tests quota place (length b) (Err f)) ≡ ([], no_sample tests place b how f)
fault_front k uid shape order tests quota place how b short = ap (λ (e : FeedEnd). ([], e)) (end_same order tests quota place b how)
fault_front k uid shape order tests quota place how b (bad_tag left byte) = refl
fault_front k uid shape order tests quota place how b (bad_width left byte) = refl
fault_front k uid shape order tests quota place how b (too_long left) = refl

pub step_fault : (k : ℕ) (uid : Option (List ℕ)) (shape : Shape) (order : Order) (tests : ℕ) (quota : Option ℕ) (place : ℕ) (how : How) (b : List ℕ) (f : FeedFault) → IsBelow quota [] → feed_sample_at shape order b ≡ faulty f
    → given_by (suc k) uid shape order tests quota place how b ≡ ([], no_sample tests place b how f)
step_fault k uid shape order tests quota place how b f wants e = step k uid shape order tests quota place how b (faulty f) wants e ∙ fault_front k uid shape order tests quota place how b f

pub step_test : (k : ℕ) (uid : Option (List ℕ)) (shape : Shape) (order : Order) (tests : ℕ) (quota : Option ℕ) (place : ℕ) (how : How) (b : List ℕ) (s : Sample) (rest : List ℕ) → IsBelow quota [] → feed_sample_at shape order b ≡ taken s rest
    → given_by (suc k) uid shape order (suc tests) quota place how b ≡ given_by k uid shape order tests quota (place + (length b - length rest)) how rest
step_test k uid shape order tests quota place how b s rest wants e =
    step k uid shape order (suc tests) quota place how b (taken s rest) wants e ∙ ap (given_by k uid shape order tests quota (place + (length b - length rest)) how) (rest_within shape order b s rest e).1

pub step_given : (k : ℕ) (uid : Option (List ℕ)) (shape : Shape) (order : Order) (quota : Option ℕ) (place : ℕ) (how : How) (b : List ℕ) (s : Sample) (rest : List ℕ) → IsBelow quota [] → feed_sample_at shape order b ≡ taken s rest
    → given_by (suc k) uid shape order 0 quota place how b ≡ first s (given_by k uid shape order 0 (one_less quota) (place + (length b - length rest)) how rest)
step_given k uid shape order quota place how b s rest wants e =
    step k uid shape order 0 quota place how b (taken s rest) wants e ∙ ap (λ (l : List ℕ). first s (given_by k uid shape order 0 (one_less quota) (place + (length b - length rest)) how l)) (rest_within shape order b s rest e).1
