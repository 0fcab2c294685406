-- What the rules give is what the relation says.
use Rattle.std.proofs.Common.{◌≡◌, ℕ, zero, suc, ◌+◌, ◌-◌, ◌<◌, ◌≤◌, ◌⊎◌, inl, inr, List, [], ◌∷◌, ◌++◌, length, drop, Option, Some, None, Ok, Err, refl, sym, ap, ◌∙◌, subst, append_assoc, arith}
use Rattle.std.specs.Prelude.{◌↔◌}
use Rattle.std.proofs.lemmas.List.{length-append, length-drop, drop_all}
use Rattle.reading_model.specs.Outlook.{How, ended, failed, over, All, first}
use Rattle.reading_model.specs.Rules.{given, by_front, all_by}
use Rattle.xdf_model.specs.declared.types.Shape.{Shape}
use Rattle.xdf_model.specs.Sample.{Sample, Joined}
use Rattle.xdf_model_laws.proofs.Bytes.{IsBytes, IsBytes-rest, IsBytes-drop}
use Rattle.feed_model.specs.declared.Order.{Order}
use Rattle.feed_model.specs.Feed.{IsFeedSample}
use Rattle.feed_model.specs.FeedReading.{Taken, feed_sample_at}
use Rattle.feed_laws.proofs.Steps.{taken}
use Rattle.feed_laws.proofs.Samples.{reads_sample}
use Rattle.feed_laws.proofs.Cut.{rest_shorter}
use Rattle.reply_model.specs.declared.ReplyStep.{ReplyStep}
use Rattle.reply_model.specs.declared.ReplyStep.TheVariants.{Done, More, Refused}
use Rattle.reply_model.specs.Reply.{reply_in}
use Rattle.inlet_model.specs.declared.end.FeedEnd.{FeedEnd}
use Rattle.inlet_model.specs.declared.end.FeedEnd.TheVariants.{Limit}
use Rattle.inlet_model.specs.Inlet.{before_reply, by_reply, one_less, feed_end, feed_rules, feed_in}
use Rattle.inlet_laws.specs.FeedOf.{cut_reply, no_sample, IsEnough, IsBelow, IsStopped, AreSamplesOf, IsFeedOf}
use Rattle.inlet_laws.proofs.Replies.{reply_size}
use Rattle.inlet_laws.proofs.Stepped.{given_by, step_limit, step_fault, step_test, step_given}

-- why no further sample is given
abbrev Ends : Shape → Order → Option ℕ → List Sample → ℕ → ℕ → List ℕ → How → FeedEnd → Type 0
Ends shape order quota samples missing place rest how e = (IsEnough quota samples × (e ≡ Limit)) ⊎ IsStopped shape order quota samples missing place rest how e

-- the same, where the counts are
ends_same : (shape : Shape) (order : Order) (quota : Option ℕ) (samples : List Sample) (m n p q : ℕ) (rest : List ℕ) (how : How) (e : FeedEnd) → m ≡ n → p ≡ q → Ends shape order quota samples m p rest how e → Ends shape order quota samples n q rest how e
ends_same shape order quota samples m n p q rest how e a b k = subst (λ (x : ℕ). Ends shape order quota samples x q rest how e) a (subst (λ (x : ℕ). Ends shape order quota samples m x rest how e) b k)

-- one sample more, where one more may be given
enough_more : (quota : Option ℕ) (s : Sample) (samples : List Sample) → IsBelow quota [] → IsEnough (one_less quota) samples → IsEnough quota (s ∷ samples)
enough_more None s samples wants k = k
enough_more (Some n) s samples wants k = omega (arith, wants, k)

enough_less : (quota : Option ℕ) (s : Sample) (samples : List Sample) → IsEnough quota (s ∷ samples) → IsEnough (one_less quota) samples
enough_less None s samples k = k
enough_less (Some n) s samples k = omega (arith, k)

below_more : (quota : Option ℕ) (s : Sample) (samples : List Sample) → IsBelow (one_less quota) samples → IsBelow quota (s ∷ samples)
below_more None s samples k = tt
below_more (Some n) s samples k = omega (arith, k)

below_less : (quota : Option ℕ) (s : Sample) (samples : List Sample) → IsBelow quota (s ∷ samples) → IsBelow (one_less quota) samples
below_less None s samples k = tt
below_less (Some n) s samples k = omega (arith, k)

ends_more : (shape : Shape) (order : Order) (quota : Option ℕ) (s : Sample) (samples : List Sample) (m p : ℕ) (rest : List ℕ) (how : How) (e : FeedEnd) → IsBelow quota [] → Ends shape order (one_less quota) samples m p rest how e → Ends shape order quota (s ∷ samples) m p rest how e
ends_more shape order quota s samples m p rest how e wants (inl k) = inl (enough_more quota s samples wants k.0, k.1)
ends_more shape order quota s samples m p rest how e wants (inr k) = inr (record { below = below_more quota s samples k.below; why = k.why; stands = k.stands; end = k.end })

ends_less : (shape : Shape) (order : Order) (quota : Option ℕ) (s : Sample) (samples : List Sample) (m p : ℕ) (rest : List ℕ) (how : How) (e : FeedEnd) → Ends shape order quota (s ∷ samples) m p rest how e → Ends shape order (one_less quota) samples m p rest how e
ends_less shape order quota s samples m p rest how e (inl k) = inl (enough_less quota s samples k.0, k.1)
ends_less shape order quota s samples m p rest how e (inr k) = inr (record { below = below_less quota s samples k.below; why = k.why; stands = k.stands; end = k.end })

-- ---- from the rules to the relation

-- a sample at the front
more_given : (shape : Shape) (order : Order) (quota : Option ℕ) (place : ℕ) (b : List ℕ) (how : How) (samples : List Sample) (e : FeedEnd) (s : Sample) (x rest : List ℕ) → IsBelow quota [] → IsFeedSample shape order s x → b ≡ x ++ rest
    → AreSamplesOf shape order 0 (one_less quota) (place + (length b - length rest)) rest how samples e → AreSamplesOf shape order 0 quota place b how (s ∷ samples) e
more_given shape order quota place b how samples e s x rest wants is parts k = record {
  all = s ∷ k.all;
  texts = x ++ k.texts;
  rest = k.rest;
  each = (x, k.texts, is, k.each, refl);
  whole = parts ∙ ap (λ (t : List ℕ). x ++ t) k.whole ∙ sym (append_assoc x k.texts k.rest);
  given = ap (λ (l : List Sample). s ∷ l) k.given;
  end =
      let size = ap length parts in
      ends_same shape order quota (s ∷ samples) (0 - length k.all) (0 - length (s ∷ k.all)) (place + (length b - length rest) + length k.texts) (place + length (x ++ k.texts)) k.rest how e (omega arith) (omega (arith, size, length-append x rest, length-append x k.texts))
      (ends_more shape order quota s samples (0 - length k.all) (place + (length b - length rest) + length k.texts) k.rest how e wants k.end);
}

more_test : (shape : Shape) (order : Order) (tests : ℕ) (quota : Option ℕ) (place : ℕ) (b : List ℕ) (how : How) (samples : List Sample) (e : FeedEnd) (s : Sample) (x rest : List ℕ) → IsFeedSample shape order s x → b ≡ x ++ rest
    → AreSamplesOf shape order tests quota (place + (length b - length rest)) rest how samples e → AreSamplesOf shape order (suc tests) quota place b how samples e
more_test shape order tests quota place b how samples e s x rest is parts k = record {
  all = s ∷ k.all;
  texts = x ++ k.texts;
  rest = k.rest;
  each = (x, k.texts, is, k.each, refl);
  whole = parts ∙ ap (λ (t : List ℕ). x ++ t) k.whole ∙ sym (append_assoc x k.texts k.rest);
  given = k.given;
  end =
      let size = ap length parts in
      ends_same shape order quota samples (tests - length k.all) (suc tests - length (s ∷ k.all)) (place + (length b - length rest) + length k.texts) (place + length (x ++ k.texts)) k.rest how e (omega arith) (omega (arith, size, length-append x rest, length-append x k.texts)) k.end;
}

nothing_given : (tests : ℕ) → ◌≡◌ {A = List Sample} [] (drop tests [])
nothing_given tests = sym (drop_all {X = Sample} tests [] (omega arith))

-- no sample is at the front
none_now : (shape : Shape) (order : Order) (tests : ℕ) (quota : Option ℕ) (place : ℕ) (b : List ℕ) (how : How) (e : FeedEnd) → Ends shape order quota [] tests place b how e → AreSamplesOf shape order tests quota place b how [] e
none_now shape order tests quota place b how e k = record {
  all = [];
  texts = [];
  rest = b;
  each = refl;
  whole = refl;
  given = nothing_given tests;
  end = ends_same shape order quota [] tests (tests - 0) place (place + 0) b how e (omega arith) (omega arith) k;
}

abbrev Found : ℕ → Option (List ℕ) → Shape → Order → ℕ → Option ℕ → ℕ → List ℕ → How → Type 0
Found k uid shape order tests quota place b how = AreSamplesOf shape order tests quota place b how (given_by k uid shape order tests quota place how b).0 (given_by k uid shape order tests quota place how b).1

abbrev Holds : Shape → Order → ℕ → Option ℕ → ℕ → List ℕ → How → All Sample FeedEnd → Type 0
Holds shape order tests quota place b how all = AreSamplesOf shape order tests quota place b how all.0 all.1

found_sample : (k : ℕ) (uid : Option (List ℕ)) (shape : Shape) (order : Order) (tests : ℕ) (quota : Option ℕ) (place : ℕ) (b : List ℕ) (how : How) (s : Sample) (rest : List ℕ) → IsBelow quota [] → IsBytes b → feed_sample_at shape order b ≡ taken s rest
    → ((tests place : ℕ) (quota : Option ℕ) → Found k uid shape order tests quota place rest how) → Found (suc k) uid shape order tests quota place b how
found_sample k uid shape order zero quota place b how s rest wants h e next =
    let x = (reads_sample shape order).sound b s rest h e in
    let at = place + (length b - length rest) in
    let all = given_by k uid shape order 0 (one_less quota) (place + (length b - length rest)) how rest in
    subst (Holds shape order 0 quota place b how) (sym (step_given k uid shape order quota place how b s rest wants e)) (more_given shape order quota place b how all.0 all.1 s x.0 rest wants x.1 x.2 (next 0 at (one_less quota)))
found_sample k uid shape order (suc tests) quota place b how s rest wants h e next =
    let x = (reads_sample shape order).sound b s rest h e in
    let at = place + (length b - length rest) in
    let all = given_by k uid shape order tests quota (place + (length b - length rest)) how rest in
    subst (Holds shape order (suc tests) quota place b how) (sym (step_test k uid shape order tests quota place how b s rest wants e)) (more_test shape order tests quota place b how all.0 all.1 s x.0 rest x.1 x.2 (next tests at quota))

found_read : (k : ℕ) (uid : Option (List ℕ)) (shape : Shape) (order : Order) (tests : ℕ) (quota : Option ℕ) (place : ℕ) (b : List ℕ) (how : How) (r : Taken Sample) → IsBelow quota [] → IsBytes b → feed_sample_at shape order b ≡ r
    → ((s : Sample) (rest : List ℕ) → feed_sample_at shape order b ≡ taken s rest → (tests place : ℕ) (quota : Option ℕ) → Found k uid shape order tests quota place rest how) → Found (suc k) uid shape order tests quota place b how
found_read k uid shape order tests quota place b how (Ok x) wants h e next = found_sample k uid shape order tests quota place b how x.0 x.1 wants h e (next x.0 x.1 e)
found_read k uid shape order tests quota place b how (Err f) wants h e next =
    subst (Holds shape order tests quota place b how) (sym (step_fault k uid shape order tests quota place how b f wants e))
    (none_now shape order tests quota place b how (no_sample tests place b how f) (inr (record { below = wants; why = f; stands = e; end = refl })))

found : (k : ℕ) (uid : Option (List ℕ)) (shape : Shape) (order : Order) (tests : ℕ) (quota : Option ℕ) (place : ℕ) (b : List ℕ) (how : How) → IsBytes b → length b < k → Found k uid shape order tests quota place b how
found zero uid shape order tests quota place b how h lt = absurd (omega (arith, lt))
found (suc k) uid shape order tests (Some zero) place b how h lt =
    subst (Holds shape order tests (Some 0) place b how) (sym (step_limit k uid shape order tests place how b)) (none_now shape order tests (Some 0) place b how Limit (inl (refl, refl)))
found (suc k) uid shape order tests None place b how h lt =
    found_read k uid shape order tests None place b how (feed_sample_at shape order b) tt h refl
    (λ s rest e tests place quota. let x = (reads_sample shape order).sound b s rest h e in found k uid shape order tests quota place rest how (IsBytes-rest x.0 rest b h x.2) (omega (arith, lt, rest_shorter shape order b s rest e)))
found (suc k) uid shape order tests (Some (suc n)) place b how h lt =
    found_read k uid shape order tests (Some (suc n)) place b how (feed_sample_at shape order b) (omega arith) h refl
    (λ s rest e tests place quota. let x = (reads_sample shape order).sound b s rest h e in found k uid shape order tests quota place rest how (IsBytes-rest x.0 rest b h x.2) (omega (arith, lt, rest_shorter shape order b s rest e)))

-- ---- from the relation to the rules

-- nothing may be given
told_limit : (k : ℕ) (uid : Option (List ℕ)) (shape : Shape) (order : Order) (tests place : ℕ) (b : List ℕ) (how : How) (samples : List Sample) (e : FeedEnd) (m p : ℕ) (rest : List ℕ) → Ends shape order (Some 0) samples m p rest how e
    → given_by (suc k) uid shape order tests (Some 0) place how b ≡ (samples, e)
told_limit k uid shape order tests place b how [] e m p rest (inl h) = step_limit k uid shape order tests place how b ∙ ap (λ (x : FeedEnd). ([], x)) (sym h.1)
told_limit k uid shape order tests place b how (s ∷ samples) e m p rest (inl h) = absurd (omega (arith, h.0))
told_limit k uid shape order tests place b how samples e m p rest (inr h) = let below = h.below in absurd (omega (arith, below))

told_zero : (k : ℕ) (uid : Option (List ℕ)) (shape : Shape) (order : Order) (tests : ℕ) (quota : Option ℕ) (place : ℕ) (b : List ℕ) (how : How) (samples : List Sample) (e : FeedEnd) (m p : ℕ) (rest : List ℕ) → quota ≡ Some 0 → Ends shape order quota samples m p rest how e
    → given_by (suc k) uid shape order tests quota place how b ≡ (samples, e)
told_zero k uid shape order tests quota place b how samples e m p rest none ends =
    ap (λ (q : Option ℕ). given_by (suc k) uid shape order tests q place how b) none ∙ told_limit k uid shape order tests place b how samples e m p rest (subst (λ (q : Option ℕ). Ends shape order q samples m p rest how e) none ends)

-- the sample that the bytes begin with is read there
sample_first : (shape : Shape) (order : Order) (s : Sample) (x y texts b rest : List ℕ) → IsFeedSample shape order s x → texts ≡ x ++ y → b ≡ texts ++ rest → feed_sample_at shape order b ≡ taken s (y ++ rest)
sample_first shape order s x y texts b rest is joined parts =
    ap (feed_sample_at shape order) (parts ∙ ap (λ (t : List ℕ). t ++ rest) joined ∙ append_assoc x y rest) ∙ (reads_sample shape order).complete s x (y ++ rest) is

-- no sample is at the front
told_none : (k : ℕ) (uid : Option (List ℕ)) (shape : Shape) (order : Order) (tests : ℕ) (quota : Option ℕ) (place : ℕ) (b : List ℕ) (how : How) (e : FeedEnd) → IsBelow quota [] → Ends shape order quota [] tests place b how e
    → given_by (suc k) uid shape order tests quota place how b ≡ ([], e)
told_none k uid shape order tests None place b how e wants (inl h) = absurd h.0
told_none k uid shape order tests (Some n) place b how e wants (inl h) = absurd (omega (arith, wants, h.0))
told_none k uid shape order tests quota place b how e wants (inr h) = step_fault k uid shape order tests quota place how b h.why wants h.stands ∙ ap (λ (x : FeedEnd). ([], x)) (sym h.end)

-- a sample is at the front
told_sample : (k : ℕ) (uid : Option (List ℕ)) (shape : Shape) (order : Order) (tests : ℕ) (quota : Option ℕ) (place : ℕ) (b : List ℕ) (how : How) (s : Sample) (all : List Sample) (samples : List Sample) (e : FeedEnd) (m n : ℕ) (p : ℕ) (back rest : List ℕ)
    → IsBelow quota [] → feed_sample_at shape order b ≡ taken s back → samples ≡ drop tests (s ∷ all) → m ≡ tests - (n + 1) → Ends shape order quota samples m p rest how e
    → ((tests m : ℕ) (quota : Option ℕ) (samples : List Sample) → samples ≡ drop tests all → m ≡ tests - n → Ends shape order quota samples m p rest how e → given_by k uid shape order tests quota (place + (length b - length back)) how back ≡ (samples, e))
    → given_by (suc k) uid shape order tests quota place how b ≡ (samples, e)
told_sample k uid shape order zero quota place b how s all samples e m n p back rest wants stands given count ends next =
    let one = subst (λ (l : List Sample). Ends shape order quota l m p rest how e) given ends in
    step_given k uid shape order quota place how b s back wants stands ∙ ap (first s) (next 0 m (one_less quota) all refl (omega (arith, count)) (ends_less shape order quota s all m p rest how e one)) ∙ ap (λ (l : List Sample). (l, e)) (sym given)
told_sample k uid shape order (suc tests) quota place b how s all samples e m n p back rest wants stands given count ends next =
    step_test k uid shape order tests quota place how b s back wants stands ∙ next tests m quota samples given (omega (arith, count)) ends

-- whether a sample may be given
may_more : (quota : Option ℕ) → (quota ≡ Some 0) ⊎ IsBelow quota []
may_more None = inr tt
may_more (Some zero) = inl refl
may_more (Some (suc n)) = inr (omega arith)

told : (all : List Sample) (k : ℕ) (uid : Option (List ℕ)) (shape : Shape) (order : Order) (tests : ℕ) (quota : Option ℕ) (place : ℕ) (b texts rest : List ℕ) (how : How) (samples : List Sample) (e : FeedEnd) (m p : ℕ)
    → Joined (IsFeedSample shape order) all texts → b ≡ texts ++ rest → samples ≡ drop tests all → m ≡ tests - length all → p ≡ place + length texts → Ends shape order quota samples m p rest how e → length b < suc k
    → given_by (suc k) uid shape order tests quota place how b ≡ (samples, e)
told [] k uid shape order tests quota place b texts rest how samples e m p each parts same count at ends lt =
    elim (may_more quota) [
      | inl none ↦ told_zero k uid shape order tests quota place b how samples e m p rest none ends
      | inr wants ↦
          let no_texts : texts ≡ [] = each in
          let all_rest : rest ≡ b = sym (parts ∙ ap (λ (t : List ℕ). t ++ rest) no_texts) in
          let no_samples : samples ≡ [] = same ∙ sym (nothing_given tests) in
          let first_of = subst (λ (l : List Sample). Ends shape order quota l m p rest how e) no_samples ends in
          let here = subst (λ (t : List ℕ). Ends shape order quota [] m p t how e) all_rest first_of in
          let now = ends_same shape order quota [] m tests p place b how e (count ∙ omega arith) (omega (arith, at, ap length no_texts)) here in
          told_none k uid shape order tests quota place b how e wants now ∙ ap (λ (l : List Sample). (l, e)) (sym no_samples)
    ]
told (s ∷ all) zero uid shape order tests quota place b texts rest how samples e m p each parts same count at ends lt =
    elim (may_more quota) [
      | inl none ↦ told_zero 0 uid shape order tests quota place b how samples e m p rest none ends
      | inr wants ↦
          let back = each.1 ++ rest in
          let stands = sample_first shape order s each.0 each.1 texts b rest each.2 each.4 parts in
          absurd (omega (arith, lt, rest_shorter shape order b s back stands))
    ]
told (s ∷ all) (suc k) uid shape order tests quota place b texts rest how samples e m p each parts same count at ends lt =
    elim (may_more quota) [
      | inl none ↦ told_zero (suc k) uid shape order tests quota place b how samples e m p rest none ends
      | inr wants ↦
          let x = each.0 in
          let y = each.1 in
          let back = each.1 ++ rest in
          let stands = sample_first shape order s x y texts b rest each.2 each.4 parts in
          let shorter = rest_shorter shape order b s back stands in
          let size : length b ≡ length x + (length y + length rest) = omega (arith, ap length parts, length-append texts rest, ap length each.4, length-append x y) in
          told_sample (suc k) uid shape order tests quota place b how s all samples e m (length all) p back rest wants stands same (count ∙ omega arith) ends
          (λ tests' m' quota' samples' same' count' ends'.
          told all k uid shape order tests' quota' (place + (length b - length back)) back y rest how samples' e m' p each.3 refl same' count'
          (omega (arith, at, ap length each.4, length-append x y, size, length-append y rest)) ends' (omega (arith, shorter, lt)))
    ]

-- ---- the reply

reply_front : (uid : Option (List ℕ)) (shape : Shape) (limit : Option ℕ) (b : List ℕ) (how : How) (r : ReplyStep) → reply_in uid b ≡ r
    → feed_in uid shape limit b how ≡ by_front (feed_rules uid shape) (λ t rest. all_by (length b) (feed_rules uid shape) how t rest) how (before_reply limit) b (by_reply limit r)
unfolding all_by
reply_front uid shape limit b how r e = ap (λ (x : ReplyStep). by_front (feed_rules uid shape) (λ t rest. all_by (length b) (feed_rules uid shape) how t rest) how (before_reply limit) b (by_reply limit x)) e

cut_same : (limit : Option ℕ) (b : List ℕ) (how : How) → feed_end (before_reply limit) b how ≡ cut_reply how
cut_same limit b ended = refl
cut_same limit b failed = refl
cut_same limit b over = refl

abbrev IsOf : Option (List ℕ) → Shape → Option ℕ → List ℕ → How → All Sample FeedEnd → Type 0
IsOf uid shape limit b how all = IsFeedOf uid shape limit b how all.0 all.1

feed_found : (uid : Option (List ℕ)) (shape : Shape) (limit : Option ℕ) (b : List ℕ) (how : How) (r : ReplyStep) → IsBytes b → reply_in uid b ≡ r → IsOf uid shape limit b how (feed_in uid shape limit b how)
feed_found uid shape limit b how (Done reply used) h e =
    let size = reply_size uid b reply used e in
    let there = found (length b) uid shape reply.order 2 limit used (drop used b) how (IsBytes-drop used b h) (omega (arith, size.0, size.1, length-drop used b)) in
    subst (IsOf uid shape limit b how) (sym (reply_front uid shape limit b how (Done reply used) e)) (inr (inr (record { reply = reply; used = used; done = e; behind = there })))
feed_found uid shape limit b how More h e =
    subst (IsOf uid shape limit b how) (sym (reply_front uid shape limit b how More e)) (inr (inl (record { more = e; none = refl; end = cut_same limit b how })))
feed_found uid shape limit b how (Refused at why) h e =
    subst (IsOf uid shape limit b how) (sym (reply_front uid shape limit b how (Refused at why) e)) (inl (record { at = at; why = why; refused = e; none = refl; end = refl }))

behind_told : (k : ℕ) (uid : Option (List ℕ)) (shape : Shape) (order : Order) (limit : Option ℕ) (used : ℕ) (b : List ℕ) (how : How) (samples : List Sample) (e : FeedEnd) → (0 < used) × (used ≤ length b) → k ≡ length b → AreSamplesOf shape order 2 limit used (drop used b) how samples e
    → given_by k uid shape order 2 limit used how (drop used b) ≡ (samples, e)
behind_told zero uid shape order limit used b how samples e size is k = absurd (omega (arith, size.0, size.1, is))
behind_told (suc n) uid shape order limit used b how samples e size is k =
    told k.all n uid shape order 2 limit used (drop used b) k.texts k.rest how samples e (2 - length k.all) (used + length k.texts) k.each k.whole k.given refl refl k.end (omega (arith, size.0, size.1, is, length-drop used b))

feed_told : (uid : Option (List ℕ)) (shape : Shape) (limit : Option ℕ) (b : List ℕ) (how : How) (samples : List Sample) (e : FeedEnd) → IsFeedOf uid shape limit b how samples e → feed_in uid shape limit b how ≡ (samples, e)
feed_told uid shape limit b how samples e (inl k) =
    reply_front uid shape limit b how (Refused k.at k.why) k.refused ∙ ap (λ (x : FeedEnd). ([], x)) (sym k.end) ∙ ap (λ (l : List Sample). (l, e)) (sym k.none)
feed_told uid shape limit b how samples e (inr (inl k)) =
    reply_front uid shape limit b how More k.more ∙ ap (λ (x : FeedEnd). ([], x)) (cut_same limit b how ∙ sym k.end) ∙ ap (λ (l : List Sample). (l, e)) (sym k.none)
feed_told uid shape limit b how samples e (inr (inr k)) = reply_front uid shape limit b how (Done k.reply k.used) k.done ∙ behind_told (length b) uid shape k.reply.order limit k.used b how samples e (reply_size uid b k.reply k.used k.done) refl k.behind

pub spelled : (uid : Option (List ℕ)) (shape : Shape) (limit : Option ℕ) (b : List ℕ) (how : How) (samples : List Sample) (e : FeedEnd) → IsBytes b → (feed_in uid shape limit b how ≡ (samples, e)) ↔ IsFeedOf uid shape limit b how samples e
spelled uid shape limit b how samples e h = (
  λ is. subst (IsOf uid shape limit b how) is (feed_found uid shape limit b how (reply_in uid b) h refl),
  feed_told uid shape limit b how samples e,
)
