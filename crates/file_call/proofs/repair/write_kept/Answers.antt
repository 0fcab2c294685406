use Rattle.std.proofs.Common.{◌≡◌, ℕ, List, [], ◌∷◌, Option, inl, refl, sym, subst, ◌∙◌, arith}
use Rattle.rec_base.specs.Asked.{AsksAll}
use Rattle.rec_base.specs.declared.asked.Asked.{Asked}
use Rattle.rec_base.specs.declared.asked.Asked.TheVariants.{Creation}
use Rattle.dock_calls.proofs.Asking.{AsksAll-more, AsksFront-longer}
use Rattle.file_call.specs.Orders.{input_order, repair_order}
use Rattle.file_call.proofs.Kept.{rose_from}
use Rattle.file_call.proofs.Files.{read_failed}
use Rattle.file_call.proofs.Repairs.{becomes_from, kept_so, failed_so, written_so, long_so, forgot_so}
use Rattle.file_call.proofs.repair.write_kept.Goals as goal

pub returns-clause-kept : goal.returns-clause-kept
returns-clause-kept g c =
    let k = c.write_whole.ensures.wrote in
    kept_so c.in-Ok.ensures.begun.entered c.args.to.now _ _ _ _ _ _ _ _ c.in-Ok.ensures.target c.in-Ok.ensures.held c.in-Ok-create.ensures.target c.in-Ok-create.ensures.held (g.met.D.Dock.write_keeps_target c.create.new.self c.write_whole.new.sink c.write_whole.ensures.rest) k.0 c.args.search c.args.search refl _ c.write_whole.result k.1 refl c.kept_of.result c.kept_of.ensures.done

pub returns-clause-read : goal.returns-clause-read
returns-clause-read g c = λ is.
    let same = c.kept_of.ensures.read is in
    let k = c.write_whole.ensures.wrote in
    failed_so c.in-Ok.ensures.begun.entered c.args.to.now _ _ _ _ _ _ _ _ c.in-Ok.ensures.target c.in-Ok.ensures.held c.in-Ok-create.ensures.target c.in-Ok-create.ensures.held (g.met.D.Dock.write_keeps_target c.create.new.self c.write_whole.new.sink c.write_whole.ensures.rest) k.0 c.args.search c.args.search refl _ c.write_whole.result k.1 same k.2 (k.3 same)

pub returns-clause-write : goal.returns-clause-write
returns-clause-write g c = λ is.
    let same = c.kept_of.ensures.write is in
    let k = c.write_whole.ensures.wrote in
    (c.create.new.self, becomes_from _ _ _ _ c.in-Ok.ensures.target c.in-Ok-create.ensures.target, c.create.ensures.write_faults ∙ c.in-Ok.ensures.write_faults, c.write_whole.ensures.write_fault.rose same, written_so c.in-Ok.ensures.begun.entered c.args.to.now _ _ _ _ _ _ _ _ c.in-Ok.ensures.target c.in-Ok.ensures.held c.in-Ok-create.ensures.target c.in-Ok-create.ensures.held (g.met.D.Dock.write_keeps_target c.create.new.self c.write_whole.new.sink c.write_whole.ensures.rest) k.0 c.args.search c.args.search refl _ c.write_whole.result k.1 same)

pub returns-clause-size_limit : goal.returns-clause-size_limit
returns-clause-size_limit g c = λ is.
    let k = c.write_whole.ensures.wrote in
    long_so c.in-Ok.ensures.begun.entered c.args.to.now _ _ _ _ _ _ _ _ c.in-Ok.ensures.target c.in-Ok.ensures.held c.in-Ok-create.ensures.target c.in-Ok-create.ensures.held (g.met.D.Dock.write_keeps_target c.create.new.self c.write_whole.new.sink c.write_whole.ensures.rest) k.0 c.args.search c.args.search refl _ c.write_whole.result k.1 refl (c.kept_of.ensures.size_limit is)

pub returns-clause-memory : goal.returns-clause-memory
returns-clause-memory g c = λ is.
    let k = c.write_whole.ensures.wrote in
    forgot_so c.in-Ok.ensures.begun.entered c.args.to.now _ _ _ _ _ _ _ _ c.in-Ok.ensures.target c.in-Ok.ensures.held c.in-Ok-create.ensures.target c.in-Ok-create.ensures.held (g.met.D.Dock.write_keeps_target c.create.new.self c.write_whole.new.sink c.write_whole.ensures.rest) k.0 c.args.search c.args.search refl _ c.write_whole.result k.1 (c.kept_of.ensures.memory is)

pub returns-clause-read_cause : goal.returns-clause-read_cause
returns-clause-read_cause g c = λ is.
    let k = c.write_whole.ensures.wrote in
    read_failed g.D.Dock.input_mark (g.D.Dock.marks c.args.dock.now) g.met.D.Dock.mark_keeps_input_mark c.in-Ok.ensures.begun.entered c.in-Ok.ensures.marked k.0 k.2 (k.3 (c.kept_of.ensures.read is)) k.4

pub returns-in-Err-NotXdf-clause-asks : goal.returns-in-Err-NotXdf-clause-asks
returns-in-Err-NotXdf-clause-asks g c = AsksFront-longer _ _ (input_order c.args.from.now) (Creation c.args.to.now ∷ []) c.in-Err-NotXdf.ensures.asks

pub returns-in-Err-Open-clause-asks : goal.returns-in-Err-Open-clause-asks
returns-in-Err-Open-clause-asks g c = AsksFront-longer _ _ (input_order c.args.from.now) (Creation c.args.to.now ∷ []) c.in-Err-Open.ensures.asks

pub returns-in-Err-Memory-clause-asks : goal.returns-in-Err-Memory-clause-asks
returns-in-Err-Memory-clause-asks g c = AsksFront-longer _ _ (input_order c.args.from.now) (Creation c.args.to.now ∷ []) c.in-Err-Memory.ensures.asks

-- the input was asked for, and then the output
both_asked : (a b d e : Option (List Asked)) (from out : List ℕ) → AsksAll a b (input_order from) → AsksAll b d (Creation out ∷ []) → e ≡ d → AsksAll a e (repair_order from out)
both_asked a b d e from out first second same =
    subst (λ (k : Option (List Asked)). AsksAll a k (repair_order from out)) (sym same) (AsksAll-more a b d (input_order from) (Creation out ∷ []) first second)

pub returns-in-Err-clause-asks : goal.returns-in-Err-clause-asks
returns-in-Err-clause-asks g c = (2, both_asked _ _ _ _ c.args.from.now c.args.to.now (c.in-Ok.ensures.asks_all (λ f. absurd (cc f))) c.in-Err.ensures.asks refl)

pub returns-in-Err-clause-open : goal.returns-in-Err-clause-open
returns-in-Err-clause-open g c = λ _.
    let same = c.in-Ok.ensures.quiet (λ f. absurd (cc f)) in
    inl (record {
      count = 1;
      some = omega arith;
      asks = both_asked _ _ _ _ c.args.from.now c.args.to.now (c.in-Ok.ensures.asks_all (λ f. absurd (cc f))) c.in-Err.ensures.asks refl;
      rose = rose_from _ _ _ same c.in-Err.ensures.cause.failed;
    })

pub returns-clause-asks : goal.returns-clause-asks
returns-clause-asks g c = (2, both_asked _ _ _ _ c.args.from.now c.args.to.now (c.in-Ok.ensures.asks_all (λ f. absurd (cc f))) c.in-Ok-create.ensures.asks (g.met.D.Dock.write_keeps_asked c.create.new.self c.write_whole.new.sink c.write_whole.ensures.rest))

pub returns-clause-asks_all : goal.returns-clause-asks_all
returns-clause-asks_all g c = λ _. both_asked _ _ _ _ c.args.from.now c.args.to.now (c.in-Ok.ensures.asks_all (λ f. absurd (cc f))) c.in-Ok-create.ensures.asks (g.met.D.Dock.write_keeps_asked c.create.new.self c.write_whole.new.sink c.write_whole.ensures.rest)
