use Rattle.std.proofs.Common.{List, [], ◌∷◌, length, map, inl, inr, refl, sym, ap, ◌∙◌, arith}
use Rattle.rec_base.specs.declared.name.Name.TheVariants as name
use Rattle.recording_model.specs.declared.stream.StreamDoc.{StreamDoc}
use Rattle.record_run.specs.Cost.{cost_of}
use Rattle.record_call.specs.Feeds.{document_name, names_of, IsStreamOf}
use Rattle.record_call.specs.Orders.{plan_order}
use Rattle.dock_calls.specs.Asking.{openings}
use Rattle.record_call.specs.Recorded.{HasStreams}
use Rattle.dock_calls.proofs.Asking.{AsksAll-more}
use Rattle.dock_calls.proofs.Places.{IsAfter-none}
use Rattle.run_model.proofs.Errors.{handed, handed_back}
use Rattle.record_call.proofs.Asking.{fails_from}
use Rattle.record_call.proofs.Orders.{documents_asked, document_failed, plan_first}
use Rattle.record_call.proofs.Feeds.{each_length}
use Rattle.record_call.proofs.Plans.{planned, after_plan}
use Rattle.record_call.proofs.ask.read_asked.Goals as goal

pub returns-in_err-streams-clause-none : goal.returns-in_err-streams-clause-none
returns-in_err-streams-clause-none g c = λ id e.
    let before = g.D.Dock.contents c.args.dock.now in
    let between = g.D.Dock.contents c.open_plan.new.dock in
    let plan = c.in_ok-plan.plan in
    let k = c.in_err-streams.ensures.none id (handed c.from_residual-in_err-streams.result c.in_err-streams.field-0.0 _ c.from_residual-in_err-streams.ensures.1 e) in
    record {
      path = c.args.path.now;
      out = c.args.out.now;
      plan = plan;
      planned = planned before between c.args.words.now c.args.path.now c.args.out.now plan c.requires.command c.in_ok-plan.ensures.plan;
      none = k.is before (name.File c.args.path.now ∷ []) (after_plan before between c.args.words.now c.args.path.now c.args.out.now plan c.requires.command c.in_ok-plan.ensures.plan);
    }

pub returns-in_err-streams-clause-failed : goal.returns-in_err-streams-clause-failed
returns-in_err-streams-clause-failed g c = λ e.
    let before = g.D.Dock.contents c.args.dock.now in
    let between = g.D.Dock.contents c.open_plan.new.dock in
    let plan = c.in_ok-plan.plan in
    elim (c.in_err-streams.ensures.failed (handed c.from_residual-in_err-streams.result c.in_err-streams.field-0.0 _ c.from_residual-in_err-streams.ensures.1 e)) [
      | inl at ↦ inl (document_failed before c.args.words.now c.args.path.now c.args.out.now _ _ _ plan _ _ (planned before between c.args.words.now c.args.path.now c.args.out.now plan c.requires.command c.in_ok-plan.ensures.plan) c.in_ok-plan.ensures.asks_all
          (fails_from at (c.in_ok-plan.ensures.quiet (λ f. absurd (cc f)))))
      | inr k ↦ inr (inr (record {
        path = c.args.path.now;
        out = c.args.out.now;
        plan = plan;
        planned = planned before between c.args.words.now c.args.path.now c.args.out.now plan c.requires.command c.in_ok-plan.ensures.plan;
        failed = k.is before (g.D.Dock.marks c.args.dock.now) (name.File c.args.path.now ∷ []) (after_plan before between c.args.words.now c.args.path.now c.args.out.now plan c.requires.command c.in_ok-plan.ensures.plan)
            (c.in_ok-plan.ensures.marks.left (g.D.Dock.marks c.args.dock.now) [] (IsAfter-none _));
      }))
    ]

pub check_cost-requires-clause-few : goal.check_cost-requires-clause-few
check_cost-requires-clause-few g c =
    let before = g.D.Dock.contents c.args.dock.now in
    let between = g.D.Dock.contents c.open_plan.new.dock in
    let plan = c.in_ok-plan.plan in
    let after = after_plan before between c.args.words.now c.args.path.now c.args.out.now plan c.requires.command c.in_ok-plan.ensures.plan in
    let count = each_length document_name (IsStreamOf before) _ plan.feeds c.in_ok-streams.streams.items (c.in_ok-streams.ensures.read.are before (name.File c.args.path.now ∷ []) after).each in
    omega (arith, count, c.in_ok-plan.ensures.sound.few, ap length c.deref.ensures.value)

pub returns-in_err-check_cost-clause-cost : goal.returns-in_err-check_cost-clause-cost
returns-in_err-check_cost-clause-cost g c = λ cost e.
    let before = g.D.Dock.contents c.args.dock.now in
    let between = g.D.Dock.contents c.open_plan.new.dock in
    let plan = c.in_ok-plan.plan in
    let after = after_plan before between c.args.words.now c.args.path.now c.args.out.now plan c.requires.command c.in_ok-plan.ensures.plan in
    let k = c.in_err-check_cost.ensures.over cost (handed c.from_residual-in_err-check_cost.result c.in_err-check_cost.field-0.0 _ c.from_residual-in_err-check_cost.ensures.1 e) in
    record {
      out = c.args.out.now;
      plan = plan;
      streams = c.in_ok-streams.streams.items;
      has = record {
        path = c.args.path.now;
        planned = planned before between c.args.words.now c.args.path.now c.args.out.now plan c.requires.command c.in_ok-plan.ensures.plan;
        streams_of = c.in_ok-streams.ensures.read.are before (name.File c.args.path.now ∷ []) after;
      };
      is = k.0 ∙ ap (λ (ss : List StreamDoc). cost_of plan.ring (map (λ s. s.shape) ss)) c.deref.ensures.value;
      over = k.1;
    }

pub returns-clause-asked : goal.returns-clause-asked
returns-clause-asked g c =
    let before = g.D.Dock.contents c.args.dock.now in
    let between = g.D.Dock.contents c.open_plan.new.dock in
    let plan = c.in_ok-plan.plan in
    let after = after_plan before between c.args.words.now c.args.path.now c.args.out.now plan c.requires.command c.in_ok-plan.ensures.plan in
    let has : HasStreams before c.args.words.now c.args.out.now plan c.in_ok-streams.streams.items = record {
      path = c.args.path.now;
      planned = planned before between c.args.words.now c.args.path.now c.args.out.now plan c.requires.command c.in_ok-plan.ensures.plan;
      streams_of = c.in_ok-streams.ensures.read.are before (name.File c.args.path.now ∷ []) after;
    } in
    (record { has = has; cost = rw (sym c.deref.ensures.value) c.in_ok-check_cost.ensures.within }, refl)

pub returns-clause-after : goal.returns-clause-after
returns-clause-after g c =
    let before = g.D.Dock.contents c.args.dock.now in
    let between = g.D.Dock.contents c.open_plan.new.dock in
    c.in_ok-streams.ensures.read.left before (name.File c.args.path.now ∷ []) (after_plan before between c.args.words.now c.args.path.now c.args.out.now c.in_ok-plan.plan c.requires.command c.in_ok-plan.ensures.plan)

pub returns-in_err-plan-clause-asks : goal.returns-in_err-plan-clause-asks
returns-in_err-plan-clause-asks g c =
    (plan_order c.args.path.now, plan_first _ c.args.words.now c.args.path.now c.args.out.now c.requires.command, c.in_err-plan.ensures.asks)

pub returns-in_err-plan-clause-failed : goal.returns-in_err-plan-clause-failed
returns-in_err-plan-clause-failed g c = λ e.
    elim (c.in_err-plan.ensures.failed (handed c.from_residual.result c.in_err-plan.field-0.0 _ c.from_residual.ensures.1 e)) [
      | inl at ↦ inl (plan_order c.args.path.now, plan_first _ c.args.words.now c.args.path.now c.args.out.now c.requires.command, at)
      | inr k ↦ inr (inl (record { path = c.args.path.now; out = c.args.out.now; command = c.requires.command; failed = k }))
    ]

pub returns-in_err-plan-clause-quiet : goal.returns-in_err-plan-clause-quiet
returns-in_err-plan-clause-quiet g c = λ other.
    c.in_err-plan.ensures.quiet (λ f. other (handed_back c.from_residual.result c.in_err-plan.field-0.0 _ c.from_residual.ensures.1 f))

pub returns-in_err-streams-clause-asks : goal.returns-in_err-streams-clause-asks
returns-in_err-streams-clause-asks g c =
    documents_asked _ c.args.words.now c.args.path.now c.args.out.now _ _ _ c.in_ok-plan.plan
    (planned _ (g.D.Dock.contents c.open_plan.new.dock) c.args.words.now c.args.path.now c.args.out.now c.in_ok-plan.plan c.requires.command c.in_ok-plan.ensures.plan) c.in_ok-plan.ensures.asks_all c.in_err-streams.ensures.asks

pub returns-in_err-streams-clause-quiet : goal.returns-in_err-streams-clause-quiet
returns-in_err-streams-clause-quiet g c = λ other.
    c.in_err-streams.ensures.quiet (λ f. other (handed_back c.from_residual-in_err-streams.result c.in_err-streams.field-0.0 _ c.from_residual-in_err-streams.ensures.1 f))
    ∙ c.in_ok-plan.ensures.quiet (λ f. absurd (cc f))

pub returns-in_err-check_cost-clause-asks : goal.returns-in_err-check_cost-clause-asks
returns-in_err-check_cost-clause-asks g c =
    documents_asked _ c.args.words.now c.args.path.now c.args.out.now _ _ _ c.in_ok-plan.plan
    (planned _ (g.D.Dock.contents c.open_plan.new.dock) c.args.words.now c.args.path.now c.args.out.now c.in_ok-plan.plan c.requires.command c.in_ok-plan.ensures.plan) c.in_ok-plan.ensures.asks_all c.in_ok-streams.ensures.asks

pub returns-clause-asks : goal.returns-clause-asks
returns-clause-asks g c =
    documents_asked _ c.args.words.now c.args.path.now c.args.out.now _ _ _ c.in_ok-plan.plan
    (planned _ (g.D.Dock.contents c.open_plan.new.dock) c.args.words.now c.args.path.now c.args.out.now c.in_ok-plan.plan c.requires.command c.in_ok-plan.ensures.plan) c.in_ok-plan.ensures.asks_all c.in_ok-streams.ensures.asks

pub returns-clause-asks_all : goal.returns-clause-asks_all
returns-clause-asks_all g c =
    AsksAll-more _ _ _ (plan_order c.args.path.now) (openings (names_of document_name c.in_ok-plan.plan.feeds)) c.in_ok-plan.ensures.asks_all c.in_ok-streams.ensures.asks_all
