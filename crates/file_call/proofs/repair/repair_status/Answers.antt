use Rattle.std.proofs.Common.{rules, ap, Err, inl, ◌∙◌}
use Rattle.file_call.specs.Orders.{repair_order}
use Rattle.file_call.proofs.Files.{told_other}
use Rattle.file_call.proofs.Kept.{caused_read}
use Rattle.file_call.proofs.repair.repair_status.Goals as goal

pub returns-in-Err-NotXdf-clause-not_xdf : goal.returns-in-Err-NotXdf-clause-not_xdf
returns-in-Err-NotXdf-clause-not_xdf g c = λ _.
    let is = ap Err c.in-Err-NotXdf.field-0-is in
    let other = c.in-Err-NotXdf.ensures.not_xdf is in
    let still = c.in-Err-NotXdf.ensures.untouched (inl is) in (
      other,
      told_other g.D.Source.Source.left (g.D.Dock.contents c.args.dock.now) c.args.from.now other,
      g.met.D.Dock.say_keeps_target c.repair.new.dock c.say_fault.new.dock c.say_fault.ensures.rest ∙ still.0,
      g.met.D.Dock.say_keeps_held c.repair.new.dock c.say_fault.new.dock c.say_fault.ensures.rest ∙ still.1,
      search rules,
    )

pub returns-in-Err-Read-clause-caused : goal.returns-in-Err-Read-clause-caused
returns-in-Err-Read-clause-caused g c =
    let is = c.in-Err-Read.field-0-is in
    caused_read (repair_order c.args.from.now c.args.to.now) _ _ _ _ _ _ _ _ _ (g.met.D.Dock.say_keeps_asked c.repair.new.dock c.say_fault-in-Err-Read.new.dock c.say_fault-in-Err-Read.ensures.rest) ((g.met.D.Dock.say_keeps_write_faults c.repair.new.dock c.say_fault-in-Err-Read.new.dock c.say_fault-in-Err-Read.ensures.rest) ∙ c.in-Err-Read.ensures.writes.quiet (λ f. absurd (cc (f, is)))) c.in-Err-Read.ensures.asks

pub returns-in-Err-Write-clause-write_fault : goal.returns-in-Err-Write-clause-write_fault
returns-in-Err-Write-clause-write_fault g c = λ _.
    (rw ((g.met.D.Dock.say_keeps_target c.repair.new.dock c.say_fault-in-Err-Write.new.dock c.say_fault-in-Err-Write.ensures.rest), (g.met.D.Dock.say_keeps_held c.repair.new.dock c.say_fault-in-Err-Write.new.dock c.say_fault-in-Err-Write.ensures.rest), (g.met.D.Dock.say_keeps_write_faults c.repair.new.dock c.say_fault-in-Err-Write.new.dock c.say_fault-in-Err-Write.ensures.rest)) (c.in-Err-Write.ensures.write (ap Err c.in-Err-Write.field-0-is)), search rules)
