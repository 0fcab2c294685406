use Rattle.std.proofs.Common.{rules, ◌≡◌, Err, ℕ, List, map, Option, sym, ap, subst}
use Rattle.record_run.specs.Inlets.{InletView}
use Rattle.std.specs.Prelude.{IfOk, OnErr}
use Rattle.record_writer.specs.declared.fault.WriterFault.TheVariants as fault
use Rattle.record_writer.specs.declared.room.WriterRoom.{WriterRoom}
use Rattle.plan_model.specs.declared.plan.Mode.TheVariants.{Turns}
use Rattle.run_model.specs.Outcomes.{IsRecorded, IsCutOff}
use Rattle.record_run.specs.Opening.{AreTurnsFor}
use Rattle.record_run.proofs.turns.record.Goals as goal

pub returns-in-Ok-clause-done : goal.returns-in-Ok-clause-done
returns-in-Ok-clause-done g c = λ ring streams feeds o.
    let L = g.S.Source.left in
    let F = g.S.Source.faults in
    let M = g.S.Source.mark in
    let batch = c.args.batch in
    let R : WriterRoom → Type 0 = λ room. AreTurnsFor ring batch streams feeds (record { inlets = c.args.inlets.now; desk = room.desk; batch = batch }) in
    let t = c.in-Ok.ensures.turned ring streams feeds (subst R (sym c.over-writer.ensures.room) o) in
    let before : g.K.Sink.held c.over-writer.result.sink.now ≡ g.K.Sink.held c.args.sink.now = ap g.K.Sink.held c.over-writer.ensures.sink in
    let after : g.K.Sink.held c.finish.new.writer.0 ≡ g.K.Sink.held c.sink-1.given.0 = search rules in
    let B : Option (List ℕ) → Type 0 = λ base. IfOk c.finish.result (λ r. IsRecorded L F M Turns ring batch streams feeds base (g.K.Sink.held c.finish.new.writer.0) r.reports r.bytes r.chunks (map (λ (x : InletView g.row.S.Denot). x.source) c.take_turns.new.inlets)) in
    let A : Option (List ℕ) → Type 0 = λ now. IfOk c.finish.result (λ r. IsRecorded L F M Turns ring batch streams feeds (g.K.Sink.held c.args.sink.now) now r.reports r.bytes r.chunks (map (λ (x : InletView g.row.S.Denot). x.source) c.take_turns.new.inlets)) in
    subst A after (subst B before (c.finish.ensures.done ring batch t.0 streams feeds (g.K.Sink.held c.over-writer.result.sink.now) t.1 o.low o.some t.2))

pub returns-in-Ok-clause-stopped : goal.returns-in-Ok-clause-stopped
returns-in-Ok-clause-stopped g c = λ ring streams feeds o.
    let batch = c.args.batch in
    let R : WriterRoom → Type 0 = λ room. AreTurnsFor ring batch streams feeds (record { inlets = c.args.inlets.now; desk = room.desk; batch = batch }) in
    let t = c.in-Ok.ensures.turned ring streams feeds (subst R (sym c.over-writer.ensures.room) o) in
    let before : g.K.Sink.held c.over-writer.result.sink.now ≡ g.K.Sink.held c.args.sink.now = ap g.K.Sink.held c.over-writer.ensures.sink in
    let after : g.K.Sink.held c.finish.new.writer.0 ≡ g.K.Sink.held c.sink-1.given.0 = search rules in
    let B : Option (List ℕ) → Type 0 = λ base. OnErr c.finish.result (IsCutOff g.S.Source.left streams feeds base (g.K.Sink.held c.finish.new.writer.0)) in
    let A : Option (List ℕ) → Type 0 = λ now. OnErr c.finish.result (IsCutOff g.S.Source.left streams feeds (g.K.Sink.held c.args.sink.now) now) in
    subst A after (subst B before (c.finish.ensures.stopped ring batch t.0 streams feeds (g.K.Sink.held c.over-writer.result.sink.now) t.1 o.low o.some t.2))

pub returns-in-Err-clause-stopped : goal.returns-in-Err-clause-stopped
returns-in-Err-clause-stopped g c = λ ring streams feeds o.
    let batch = c.args.batch in
    let R : WriterRoom → Type 0 = λ room. AreTurnsFor ring batch streams feeds (record { inlets = c.args.inlets.now; desk = room.desk; batch = batch }) in
    let k = c.in-Err.ensures.cut ring streams feeds (subst R (sym c.over-writer.ensures.room) o) in
    let before : g.K.Sink.held c.over-writer.result.sink.now ≡ g.K.Sink.held c.args.sink.now = ap g.K.Sink.held c.over-writer.ensures.sink in
    let let_go : g.K.Sink.held c.take_turns.new.writer.sink.now ≡ g.K.Sink.held c.let_go.new.writer.0 = ap g.K.Sink.held (sym c.let_go.ensures) in
    let after : g.K.Sink.held c.let_go.new.writer.0 ≡ g.K.Sink.held c.sink-in-Err-1.given.0 = search rules in
    let B : Option (List ℕ) → Type 0 = λ base. IsCutOff g.S.Source.left streams feeds base (g.K.Sink.held c.take_turns.new.writer.sink.now) in
    let A : Option (List ℕ) → Type 0 = λ now. IsCutOff g.S.Source.left streams feeds (g.K.Sink.held c.args.sink.now) now in
    subst A after (subst A let_go (subst B before k))

pub returns-in-Err-clause-memory : goal.returns-in-Err-clause-memory
returns-in-Err-clause-memory g c = λ ring streams feeds o numbers e.
    let R : WriterRoom → Type 0 = λ room. AreTurnsFor ring c.args.batch streams feeds (record { inlets = c.args.inlets.now; desk = room.desk; batch = c.args.batch }) in
    let same : c.in-Err.fault ≡ fault.Memory = cc e in
    c.in-Err.ensures.memory ring streams feeds (subst R (sym c.over-writer.ensures.room) o) numbers (ap Err same)
