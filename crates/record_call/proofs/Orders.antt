-- The order of a recording, as far as it is known.
use Rattle.std.proofs.Common.{◌≡◌, ℕ, false, List, [], ◌∷◌, ◌++◌, Option, Result, Ok, Err, refl, sym, ◌∙◌, subst, inl, inr, arith}
use Rattle.std.specs.Prelude.{◌⊎◌, IsErr, IsErrAnd, IsErrOf, IsTrue}
use Rattle.std.specs.List.{zip}
use Rattle.rec_base.specs.declared.asked.Asked.{Asked}
use Rattle.rec_base.specs.declared.asked.Asked.TheVariants.{Creation}
use Rattle.rec_base.specs.Asked.{AsksAll, AsksFront}
use Rattle.rec_base.specs.Causes.{Blames}
use Rattle.rec_base.specs.Contents.{Contents}
use Rattle.dock_calls.specs.Asking.{FailsAt, IsCaused, openings}
use Rattle.dock_calls.proofs.Asking.{AsksAll-none, AsksAll-more, AsksFront-more, AsksFront-longer, FailsAt-behind, FailsAt-longer}
use Rattle.plan_model.specs.declared.top.Top.TheVariants.{Record}
use Rattle.plan_model.specs.declared.plan.Plan.{Plan}
use Rattle.plan_model.specs.Commands.{command_in, record_plan}
use Rattle.recording_model.specs.declared.stream.StreamDoc.{StreamDoc}
use Rattle.record_call.specs.declared.fault.RecordFault.{RecordFault}
use Rattle.record_call.specs.declared.fault.RecordFault.TheVariants as fault
use Rattle.record_call.specs.Feeds.{document_name, feed_name, names_of}
use Rattle.record_call.specs.Statuses.{is_recorded}
use Rattle.record_call.specs.Orders.{plan_order, document_order, input_order, IsOrder, IsInputOrder, IsWholeOrder}
use Rattle.record_call.specs.Plans.{IsPlanned}
use Rattle.record_call.specs.Recorded.{IsAsked}

module _ (contents : Option Contents) (words : List (List ℕ)) where
  pub none_order : IsErr (command_in Record words) → IsOrder contents words []
  none_order none = inl (record { none = none; is = refl })

  pub plan_first : (path out : List ℕ) → command_in Record words ≡ Ok (record_plan path out) → IsOrder contents words (plan_order path)
  plan_first path out command = inr (inl (record { path = path; out = out; command = command; is = refl }))

  pub documents_then : (path out : List ℕ) (plan : Plan) → IsPlanned contents words path out plan → IsOrder contents words (document_order path plan)
  documents_then path out plan planned = inr (inr (inl (record { path = path; out = out; plan = plan; planned = planned; is = refl })))

  pub whole_then : (out : List ℕ) (inputs : List Asked) → IsInputOrder contents words out inputs → IsWholeOrder contents words (inputs ++ Creation out ∷ [])
  whole_then out inputs input = record { out = out; inputs = inputs; input = input; is = refl }

  -- ---- behind the words, nothing was asked for

  pub asks_nothing : IsErr (command_in Record words) → (a : Option (List Asked)) → (order : List Asked) × IsOrder contents words order × AsksFront a a order
  asks_nothing none a = ([], none_order none, (0, AsksAll-none a))

  -- ---- the plan and the documents

  module _ (path out : List ℕ) (a b c : Option (List Asked)) where
    pub documents_asked : (plan : Plan) → IsPlanned contents words path out plan → AsksAll a b (plan_order path) → AsksFront b c (openings (names_of document_name plan.feeds))
        → (order : List Asked) × IsOrder contents words order × AsksFront a c order
    documents_asked plan planned first second =
        (document_order path plan, documents_then path out plan planned, AsksFront-more a b c (plan_order path) (openings (names_of document_name plan.feeds)) first second)

    pub document_failed : (plan : Plan) (before now : ℕ) → IsPlanned contents words path out plan → AsksAll a b (plan_order path) → FailsAt b c (openings (names_of document_name plan.feeds)) before now
        → (order : List Asked) × IsOrder contents words order × FailsAt a c order before now
    document_failed plan before now planned first failed =
        (document_order path plan, documents_then path out plan planned, FailsAt-behind a b c (plan_order path) (openings (names_of document_name plan.feeds)) before now first failed)

  -- ---- the feeds

  module _ (out : List ℕ) (plan : Plan) (streams : List StreamDoc) (asked : IsAsked contents words out plan streams) (a b c : Option (List Asked)) where
    abbrev feeds_order : List Asked
    feeds_order = openings (names_of feed_name (zip plan.feeds streams))

    pub input_is : IsInputOrder contents words out (input_order asked.has.path plan streams)
    input_is = record { plan = plan; streams = streams; asked = asked; is = refl }

    pub feeds_asked : AsksAll a b (document_order asked.has.path plan) → AsksFront b c (openings (names_of feed_name (zip plan.feeds streams))) → (order : List Asked) × IsOrder contents words order × AsksFront a c order
    feeds_asked first second =
        let order = input_order asked.has.path plan streams in (
          order ++ Creation out ∷ [],
          inr (inr (inr (whole_then out order input_is))),
          AsksFront-longer a c order (Creation out ∷ []) (AsksFront-more a b c (document_order asked.has.path plan) feeds_order first second),
        )

    pub feed_failed : (before now : ℕ) → AsksAll a b (document_order asked.has.path plan) → FailsAt b c (openings (names_of feed_name (zip plan.feeds streams))) before now
        → (order : List Asked) × IsOrder contents words order × FailsAt a c order before now
    feed_failed before now first failed =
        let order = input_order asked.has.path plan streams in (
          order ++ Creation out ∷ [],
          inr (inr (inr (whole_then out order input_is))),
          FailsAt-longer a c order (Creation out ∷ []) before now (FailsAt-behind a b c (document_order asked.has.path plan) feeds_order before now first failed),
        )

    pub inputs_asked : AsksAll a b (document_order asked.has.path plan) → AsksAll b c (openings (names_of feed_name (zip plan.feeds streams)))
        → (inputs : List Asked) × IsInputOrder contents words out inputs × AsksAll a c inputs
    inputs_asked first second = (input_order asked.has.path plan streams, input_is, AsksAll-more a b c (document_order asked.has.path plan) feeds_order first second)

  -- ---- the output

  module _ (out : List ℕ) (a b c : Option (List Asked)) (ready : (inputs : List Asked) × IsInputOrder contents words out inputs × AsksAll a b inputs) where
    pub output_asked : AsksFront b c (Creation out ∷ []) → (order : List Asked) × IsOrder contents words order × AsksFront a c order
    output_asked second = (ready.0 ++ Creation out ∷ [], inr (inr (inr (whole_then out ready.0 ready.1))), AsksFront-more a b c ready.0 (Creation out ∷ []) ready.2 second)

    pub output_failed : (before now : ℕ) → FailsAt b c (Creation out ∷ []) before now → (order : List Asked) × IsOrder contents words order × FailsAt a c order before now
    output_failed before now failed = (ready.0 ++ Creation out ∷ [], inr (inr (inr (whole_then out ready.0 ready.1))), FailsAt-behind a b c ready.0 (Creation out ∷ []) before now ready.2 failed)

    pub whole_asked : AsksAll b c (Creation out ∷ []) → (order : List Asked) × IsWholeOrder contents words order × AsksAll a c order
    whole_asked second = (ready.0 ++ Creation out ∷ [], whole_then out ready.0 ready.1, AsksAll-more a b c ready.0 (Creation out ∷ []) ready.2 second)

-- ---- the causes, by the status

-- what a dock was asked for, and which of its counts rose, by a status of some answer
pub caused_by : {T : Type 0} (contents : Option Contents) (words : List (List ℕ)) (r : Result T RecordFault) (n : ℕ) (a b c : Option (List Asked)) (o p q w x y s t : ℕ)
    → (order : List Asked) × IsOrder contents words order × AsksFront a b order → ((IsErrOf r fault.Open → ⊥) → p ≡ o) → Blames (IsErrOf r fault.Write) w x → c ≡ b → q ≡ p → y ≡ x
    → (IsErrOf r fault.Open → n ≡ 4) → (n ≡ 5 → IsErrOf r fault.Write) → (IsErrOf r fault.Write → n ≡ 5) → (IsTrue (is_recorded n) → t ≡ s)
    → (order : List Asked) × IsOrder contents words order × IsCaused false (is_recorded n) order a c o q w y s t n
caused_by contents words r n a b c o p q w x y s t asks quiet writes still opens_still writes_still four five wrote said = (
  asks.0,
  asks.1,
  record {
    asks = subst (λ (k : Option (List Asked)). AsksFront a k asks.0) (sym still) asks.2;
    asks_all = λ all. absurd cc;
    opening = λ other. opens_still ∙ quiet (λ e. other (four e));
    writing = record {
      later = omega (arith, writes.later, writes_still);
      rose = λ e. let rose = writes.rose (five e) in omega (arith, rose, writes_still);
      quiet = λ other. writes_still ∙ writes.quiet (λ e. other (wrote e));
    };
    saying = said;
  },
)

-- an answer that isn't want of memory
pub not_memory : {T : Type 0} (r : Result T RecordFault) → (IsErr r → IsErrOf r fault.Write) → IsErrOf r fault.Memory → ⊥
not_memory (Ok x) h is = absurd cc
not_memory (Err e) h is = let wrote = h refl in absurd (cc (wrote, is))

-- the fault that was handed on is a failed write, if each fault is
pub is_write : {T : Type 0} (r : Result T RecordFault) (f : RecordFault) → IsErrAnd r (λ x. x ≡ f) → (IsErr r → IsErrOf r fault.Write) → f ≡ fault.Write
is_write (Ok x) f was h = absurd was
is_write (Err e) f was h = let wrote = h refl in cc (wrote, was)

-- or a failed write or line
pub is_write_or_say : {T : Type 0} (r : Result T RecordFault) (f : RecordFault) → IsErrAnd r (λ x. x ≡ f) → (IsErr r → IsErrOf r fault.Write ⊎ IsErrOf r fault.Say) → (f ≡ fault.Write) ⊎ (f ≡ fault.Say)
is_write_or_say (Ok x) f was h = absurd was
is_write_or_say (Err e) f was h = elim (h refl) [ inl wrote ↦ inl (cc (wrote, was)) | inr said ↦ inr (cc (said, was)) ]
