use Rattle.std.proofs.Common.{rules, ◌≡◌, ℕ, List, [], ◌++◌, length, take, drop, Err, map, ap, sym, ◌∙◌, subst, arith, drop_of_length-le}
use Rattle.std.proofs.lemmas.List.{append-nil, take_all}
use Rattle.plan_model.specs.declared.plan.Mode.TheVariants.{Turns}
use Rattle.run_model.specs.Outcomes.{IsRecorded}
use Rattle.record_run.specs.Opening.{TurnsView, AreTurnsFor}
use Rattle.record_run.specs.Inlets.{InletView}
use Rattle.record_run.proofs.turn_recorder.TurnRecorder.run.Goals as goal

pub returns-in-Err-WriteFault-clause-stopped : goal.returns-in-Err-WriteFault-clause-stopped
returns-in-Err-WriteFault-clause-stopped g c = λ ring batch streams feeds o. c.in-Err-WriteFault.ensures.stopped ring streams feeds (search rules)

pub returns-clause-stopped : goal.returns-clause-stopped
returns-clause-stopped g c = λ ring batch streams feeds o. c.in-Err-Memory.ensures.stopped ring streams feeds (search rules)

-- what a slice of a whole vector leaves in it
written_back : {A : Type 0} (n : ℕ) (new old : List A) → length new ≡ length old → n ≡ length old → take n (new ++ drop (length new) old) ≡ new
written_back n new old same size =
    let none : drop (length new) old ≡ [] = drop_of_length-le old (omega (arith, same)) in
    ap (λ (l : List _). take n (new ++ l)) none ∙ ap (take n) (append-nil new) ∙ take_all n new (omega (arith, same, size))

pub returns-in-Ok-clause-done : goal.returns-in-Ok-clause-done
returns-in-Ok-clause-done g c = λ ring batch streams feeds o.
    let V = InletView g.row.S.Denot in
    let f : V → g.row.S.Denot = λ x. x.source in
    let i = c.self.inside in
    let value = c.deref_mut.ensures.value in
    let size : i.inlets.len ≡ length i.inlets.items = omega (arith, c.deref_mut.ensures.len, ap length value) in
    let long : length c.record.new.inlets ≡ length i.inlets.items = omega (arith, c.record.auto.inlets, ap length value) in
    let back = written_back i.inlets.len c.record.new.inlets i.inlets.items long size in
    let sources : c.from_vec.result ≡ map f c.record.new.inlets = c.from_vec.ensures ∙ c.sources_of.ensures ∙ ap (map f) back in
    let first = subst (λ (r : TurnsView g.row.S.Denot). AreTurnsFor ring batch streams feeds r) (sym c.self.view_is) o in
    let Inlets : List V → Type 0 = λ l. AreTurnsFor ring i.batch streams feeds (record { inlets = l; desk = i.room.desk; batch = i.batch }) in
    let Batch : ℕ → Type 0 = λ b. AreTurnsFor ring b streams feeds (record { inlets = i.inlets.items; desk = i.room.desk; batch = i.batch }) in
    let done = c.in-Ok.ensures.done ring streams feeds (subst Inlets (sym value) (subst Batch (sym first.same_batch) first)) in
    let r = c.in-Ok.recorded in
    let before = g.K.Sink.held c.args.sink.now in
    let now = g.K.Sink.held c.record.new.sink in
    let B : ℕ → Type 0 = λ b. IsRecorded g.S.Source.left g.S.Source.faults g.S.Source.mark Turns ring b streams feeds before now r.reports r.bytes r.chunks (map f c.record.new.inlets) in
    let L : List g.row.S.Denot → Type 0 = λ l. IsRecorded g.S.Source.left g.S.Source.faults g.S.Source.mark Turns ring batch streams feeds before now r.reports r.bytes r.chunks l in
    subst L (sym sources) (subst B first.same_batch done)

pub returns-clause-memory : goal.returns-clause-memory
returns-clause-memory g c = λ ring batch streams feeds o numbers e.
    c.in-Err-Memory.ensures.memory ring streams feeds (search rules) numbers (ap Err c.in-Err-Memory.field-0-is)
