use Rattle.rec_base.specs.Asked.{AsksAll}
use Rattle.rec_base.specs.declared.asked.Asked.{Asked}
use Rattle.std.proofs.Common.{List, Option, sym, subst, ◌≡◌, ap, ◌∙◌, Err, refl, inl, inr, arith}
use Rattle.record_call.proofs.Completes.{completes}
use Rattle.record_call.proofs.Orders.{caused_by}
use Rattle.record_call.specs.declared.fault.RecordFault.TheVariants as fault
use Rattle.record_call.specs.Lines.{usage_text, plan_text, document_text, cost_text}
use Rattle.record_call.proofs.Said.{says_first, unsaid}
use Rattle.record_call.proofs.record.record_main.Goals as goal

pub returns-in-Err-Usage-clause-usage : goal.returns-in-Err-Usage-clause-usage
returns-in-Err-Usage-clause-usage g c = λ _.
    let x = c.in-Err-Usage in
    let apart : fault.Usage x.why ≡ fault.Say → ⊥ = λ e. absurd (cc e) in
    (x.why, x.ensures.usage x.why (ap Err x.field-0-is), says_first _ _ _ _ _ _ c.usage_line.result.now (usage_text x.why) (unsaid x.field-0 (fault.Usage x.why) x.field-0-is apart x.ensures.none_said) c.usage_line.ensures c.say_fault.ensures.line)

pub returns-in-Ok-clause-refused : goal.returns-in-Ok-clause-refused
returns-in-Ok-clause-refused g c = λ _.
    let x = c.in-Err-Plan in
    let apart : fault.Plan x.line x.why ≡ fault.Say → ⊥ = λ e. absurd (cc e) in
    (x.line, x.why, x.ensures.refused x.line x.why (ap Err x.field-0-is), says_first _ _ _ _ _ _ c.as_str.result.now (plan_text x.line x.why) (unsaid x.field-0 (fault.Plan x.line x.why) x.field-0-is apart x.ensures.none_said) (c.as_str.ensures.value ∙ c.in-Ok.ensures) c.say_fault-in-Ok.ensures.line)

pub returns-in-Ok-document_line-clause-no_document : goal.returns-in-Ok-document_line-clause-no_document
returns-in-Ok-document_line-clause-no_document g c = λ _.
    let x = c.in-Err-Document in
    let apart : fault.Document x.id ≡ fault.Say → ⊥ = λ e. absurd (cc e) in
    (x.id, x.ensures.none x.id (ap Err x.field-0-is), says_first _ _ _ _ _ _ c.as_str-in-Ok-document_line.result.now (document_text x.id) (unsaid x.field-0 (fault.Document x.id) x.field-0-is apart x.ensures.none_said) (c.as_str-in-Ok-document_line.ensures.value ∙ c.in-Ok-document_line.ensures) c.say_fault-in-Ok-document_line.ensures.line)

pub returns-in-Ok-cost_line-clause-cost : goal.returns-in-Ok-cost_line-clause-cost
returns-in-Ok-cost_line-clause-cost g c = λ _.
    let x = c.in-Err-Cost in
    let apart : fault.Cost x.cost ≡ fault.Say → ⊥ = λ e. absurd (cc e) in
    (x.cost, x.ensures.cost x.cost (ap Err x.field-0-is), says_first _ _ _ _ _ _ c.as_str-in-Ok-cost_line.result.now (cost_text x.cost) (unsaid x.field-0 (fault.Cost x.cost) x.field-0-is apart x.ensures.none_said) (c.as_str-in-Ok-cost_line.ensures.value ∙ c.in-Ok-cost_line.ensures) c.say_fault-in-Ok-cost_line.ensures.line)

pub returns-in-Err-Open-clause-open_fault : goal.returns-in-Err-Open-clause-open_fault
returns-in-Err-Open-clause-open_fault g c = λ _. rw ((g.met.D.Dock.say_keeps_asked c.record.new.dock c.say_fault-in-Err-Open.new.dock c.say_fault-in-Err-Open.ensures.rest), (g.met.D.Dock.say_keeps_open_faults c.record.new.dock c.say_fault-in-Err-Open.new.dock c.say_fault-in-Err-Open.ensures.rest)) (c.in-Err-Open.ensures.failed (ap Err c.in-Err-Open.field-0-is))

pub returns-in-Err-Write-clause-write_fault : goal.returns-in-Err-Write-clause-write_fault
returns-in-Err-Write-clause-write_fault g c = λ _.
    rw ((g.met.D.Dock.say_keeps_target c.record.new.dock c.say_fault-in-Err-Write.new.dock c.say_fault-in-Err-Write.ensures.rest), (g.met.D.Dock.say_keeps_held c.record.new.dock c.say_fault-in-Err-Write.new.dock c.say_fault-in-Err-Write.ensures.rest), (g.met.D.Dock.say_keeps_write_faults c.record.new.dock c.say_fault-in-Err-Write.new.dock c.say_fault-in-Err-Write.ensures.rest)) (c.in-Err-Write.ensures.not_written (ap Err c.in-Err-Write.field-0-is))

pub returns-in-Err-Memory-clause-numbers : goal.returns-in-Err-Memory-clause-numbers
returns-in-Err-Memory-clause-numbers g c = λ _.
    rw ((g.met.D.Dock.say_keeps_target c.record.new.dock c.say_fault-in-Err-Memory.new.dock c.say_fault-in-Err-Memory.ensures.rest), (g.met.D.Dock.say_keeps_held c.record.new.dock c.say_fault-in-Err-Memory.new.dock c.say_fault-in-Err-Memory.ensures.rest)) (c.in-Err-Memory.ensures.numbers (ap Err c.in-Err-Memory.field-0-is))

pub returns-in-Ok-clause-caused : goal.returns-in-Ok-clause-caused
returns-in-Ok-clause-caused g c =
    let x = c.in-Err-Plan in
    let is = x.field-0-is in
    caused_by _ c.args.words.now _ _ _ _ _ _ _ _ _ _ _ _ _ x.ensures.asks x.ensures.quiet x.ensures.writes (g.met.D.Dock.say_keeps_asked c.record.new.dock c.say_fault-in-Ok.new.dock c.say_fault-in-Ok.ensures.rest) (g.met.D.Dock.say_keeps_open_faults c.record.new.dock c.say_fault-in-Ok.new.dock c.say_fault-in-Ok.ensures.rest) (g.met.D.Dock.say_keeps_write_faults c.record.new.dock c.say_fault-in-Ok.new.dock c.say_fault-in-Ok.ensures.rest)
    (λ e. absurd (cc (e, is))) (λ e. absurd (omega (arith, e))) (λ e. absurd (cc (e, is))) (λ all. absurd cc)

pub returns-in-Err-clause-caused : goal.returns-in-Err-clause-caused
returns-in-Err-clause-caused g c =
    let x = c.in-Err-Plan in
    let is = x.field-0-is in
    caused_by _ c.args.words.now _ _ _ _ _ _ _ _ _ _ _ _ _ x.ensures.asks x.ensures.quiet x.ensures.writes (g.met.D.Dock.say_keeps_asked c.record.new.dock c.say_fault-in-Err.new.dock c.say_fault-in-Err.ensures.rest) (g.met.D.Dock.say_keeps_open_faults c.record.new.dock c.say_fault-in-Err.new.dock c.say_fault-in-Err.ensures.rest) (g.met.D.Dock.say_keeps_write_faults c.record.new.dock c.say_fault-in-Err.new.dock c.say_fault-in-Err.ensures.rest)
    (λ e. absurd (cc (e, is))) (λ e. absurd (omega (arith, e))) (λ e. absurd (cc (e, is))) (λ all. absurd cc)

pub returns-in-Ok-clause-completes : goal.returns-in-Ok-clause-completes
returns-in-Ok-clause-completes g c =
    let x = c.in-Err-Plan in
    completes g.D.Source.Source.left g.D.Source.Source.faults g.D.Source.Source.mark g.D.Dock.input_mark (g.D.Dock.contents c.args.dock.now) (g.D.Dock.marks c.args.dock.now) c.args.words.now _ _ _ _ _ _ 3 refl
    (λ e. absurd (omega (arith, e))) (λ _. (x.line, x.why, x.ensures.refused x.line x.why (ap Err x.field-0-is))) (λ e. absurd (omega (arith, e))) (λ e. absurd (omega (arith, e)))
    (λ e. absurd (omega (arith, e))) (λ e. absurd (omega (arith, e))) (λ e. absurd (omega (arith, e)))

pub returns-in-Err-Open-clause-completes : goal.returns-in-Err-Open-clause-completes
returns-in-Err-Open-clause-completes g c =
    let opens = (g.met.D.Dock.say_keeps_open_faults c.record.new.dock c.say_fault-in-Err-Open.new.dock c.say_fault-in-Err-Open.ensures.rest) in
    completes g.D.Source.Source.left g.D.Source.Source.faults g.D.Source.Source.mark g.D.Dock.input_mark (g.D.Dock.contents c.args.dock.now) (g.D.Dock.marks c.args.dock.now) c.args.words.now _ _ _ _ _ _ 4 refl
    (λ e. absurd (omega (arith, e))) (λ e. absurd (omega (arith, e)))
    (λ _. elim (c.in-Err-Open.ensures.failed (ap Err c.in-Err-Open.field-0-is)) [ inl k ↦ inl (let rose = k.2.rose in omega (arith, opens, rose)) | inr (inl k) ↦ inr (inl k) | inr (inr k) ↦ inr (inr k) ])
    (λ e. absurd (omega (arith, e))) (λ e. absurd (omega (arith, e))) (λ e. absurd (omega (arith, e))) (λ e. absurd (omega (arith, e)))

pub returns-in-Ok-document_line-clause-caused : goal.returns-in-Ok-document_line-clause-caused
returns-in-Ok-document_line-clause-caused g c =
    let x = c.in-Err-Document in
    let is = x.field-0-is in
    caused_by _ c.args.words.now _ _ _ _ _ _ _ _ _ _ _ _ _ x.ensures.asks x.ensures.quiet x.ensures.writes (g.met.D.Dock.say_keeps_asked c.record.new.dock c.say_fault-in-Ok-document_line.new.dock c.say_fault-in-Ok-document_line.ensures.rest) (g.met.D.Dock.say_keeps_open_faults c.record.new.dock c.say_fault-in-Ok-document_line.new.dock c.say_fault-in-Ok-document_line.ensures.rest) (g.met.D.Dock.say_keeps_write_faults c.record.new.dock c.say_fault-in-Ok-document_line.new.dock c.say_fault-in-Ok-document_line.ensures.rest)
    (λ e. absurd (cc (e, is))) (λ e. absurd (omega (arith, e))) (λ e. absurd (cc (e, is))) (λ all. absurd cc)

pub returns-in-Ok-document_line-clause-completes : goal.returns-in-Ok-document_line-clause-completes
returns-in-Ok-document_line-clause-completes g c =
    let x = c.in-Err-Document in
    completes g.D.Source.Source.left g.D.Source.Source.faults g.D.Source.Source.mark g.D.Dock.input_mark (g.D.Dock.contents c.args.dock.now) (g.D.Dock.marks c.args.dock.now) c.args.words.now _ _ _ _ _ _ 6 refl
    (λ e. absurd (omega (arith, e))) (λ e. absurd (omega (arith, e))) (λ e. absurd (omega (arith, e))) (λ e. absurd (omega (arith, e))) (λ _. (x.id, x.ensures.none x.id (ap Err x.field-0-is))) (λ e. absurd (omega (arith, e))) (λ e. absurd (omega (arith, e)))

pub returns-in-Ok-cost_line-clause-caused : goal.returns-in-Ok-cost_line-clause-caused
returns-in-Ok-cost_line-clause-caused g c =
    let x = c.in-Err-Cost in
    let is = x.field-0-is in
    caused_by _ c.args.words.now _ _ _ _ _ _ _ _ _ _ _ _ _ x.ensures.asks x.ensures.quiet x.ensures.writes (g.met.D.Dock.say_keeps_asked c.record.new.dock c.say_fault-in-Ok-cost_line.new.dock c.say_fault-in-Ok-cost_line.ensures.rest) (g.met.D.Dock.say_keeps_open_faults c.record.new.dock c.say_fault-in-Ok-cost_line.new.dock c.say_fault-in-Ok-cost_line.ensures.rest) (g.met.D.Dock.say_keeps_write_faults c.record.new.dock c.say_fault-in-Ok-cost_line.new.dock c.say_fault-in-Ok-cost_line.ensures.rest)
    (λ e. absurd (cc (e, is))) (λ e. absurd (omega (arith, e))) (λ e. absurd (cc (e, is))) (λ all. absurd cc)

pub returns-in-Ok-cost_line-clause-completes : goal.returns-in-Ok-cost_line-clause-completes
returns-in-Ok-cost_line-clause-completes g c =
    let x = c.in-Err-Cost in
    completes g.D.Source.Source.left g.D.Source.Source.faults g.D.Source.Source.mark g.D.Dock.input_mark (g.D.Dock.contents c.args.dock.now) (g.D.Dock.marks c.args.dock.now) c.args.words.now _ _ _ _ _ _ 7 refl
    (λ e. absurd (omega (arith, e))) (λ e. absurd (omega (arith, e))) (λ e. absurd (omega (arith, e))) (λ e. absurd (omega (arith, e))) (λ e. absurd (omega (arith, e))) (λ _. (x.cost, x.ensures.cost x.cost (ap Err x.field-0-is))) (λ e. absurd (omega (arith, e)))

pub returns-in-Err-Write-clause-caused : goal.returns-in-Err-Write-clause-caused
returns-in-Err-Write-clause-caused g c =
    let x = c.in-Err-Write in
    let is = x.field-0-is in
    caused_by _ c.args.words.now _ _ _ _ _ _ _ _ _ _ _ _ _ x.ensures.asks x.ensures.quiet x.ensures.writes (g.met.D.Dock.say_keeps_asked c.record.new.dock c.say_fault-in-Err-Write.new.dock c.say_fault-in-Err-Write.ensures.rest) (g.met.D.Dock.say_keeps_open_faults c.record.new.dock c.say_fault-in-Err-Write.new.dock c.say_fault-in-Err-Write.ensures.rest) (g.met.D.Dock.say_keeps_write_faults c.record.new.dock c.say_fault-in-Err-Write.new.dock c.say_fault-in-Err-Write.ensures.rest)
    (λ e. absurd (cc (e, is))) (λ _. ap Err is) (λ _. refl) (λ all. absurd cc)

pub returns-in-Err-Write-clause-all_asked : goal.returns-in-Err-Write-clause-all_asked
returns-in-Err-Write-clause-all_asked g c = λ _.
    let a = c.in-Err-Write.ensures.asks_all (λ _. inl (ap Err c.in-Err-Write.field-0-is)) in
    (a.0, a.1, subst (λ (now : Option (List Asked)). AsksAll (g.D.Dock.asked c.args.dock.now) now a.0) (sym (g.met.D.Dock.say_keeps_asked c.record.new.dock c.say_fault-in-Err-Write.new.dock c.say_fault-in-Err-Write.ensures.rest)) a.2)
