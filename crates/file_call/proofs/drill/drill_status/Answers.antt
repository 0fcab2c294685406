use Rattle.std.proofs.Common.{arith, true}
use Rattle.file_call.proofs.Kept.{caused_still}
use Rattle.std.proofs.Common.{ap, Err}
use Rattle.file_call.proofs.drill.drill_status.Goals as goal

pub returns-in-Ok-clause-drilled : goal.returns-in-Ok-clause-drilled
returns-in-Ok-clause-drilled g c = λ _. c.in-Ok.ensures.drilled

pub returns-in-Err-Say-clause-say_fault : goal.returns-in-Err-Say-clause-say_fault
returns-in-Err-Say-clause-say_fault g c = λ _. c.in-Err-Say.ensures.say (ap Err c.in-Err-Say.field-0-is)

pub returns-in-Ok-clause-nothing_written : goal.returns-in-Ok-clause-nothing_written
returns-in-Ok-clause-nothing_written g c = ((g.met.D.Dock.say_keeps_target c.args.dock.now c.drill.new.dock c.drill.ensures.rest), (g.met.D.Dock.say_keeps_held c.args.dock.now c.drill.new.dock c.drill.ensures.rest))

pub returns-in-Ok-clause-caused : goal.returns-in-Ok-clause-caused
returns-in-Ok-clause-caused g c = caused_still _ 0 _ _ _ _ _ _ _ _ (g.met.D.Dock.say_keeps_asked c.args.dock.now c.drill.new.dock c.drill.ensures.rest) (g.met.D.Dock.say_keeps_open_faults c.args.dock.now c.drill.new.dock c.drill.ensures.rest) (g.met.D.Dock.say_keeps_write_faults c.args.dock.now c.drill.new.dock c.drill.ensures.rest) (λ e. absurd (omega (arith, e))) (λ _. c.in-Ok.ensures.says.quiet (λ f. absurd (cc f))) true

pub returns-in-Err-Say-clause-nothing_written : goal.returns-in-Err-Say-clause-nothing_written
returns-in-Err-Say-clause-nothing_written g c = ((g.met.D.Dock.say_keeps_target c.args.dock.now c.drill.new.dock c.drill.ensures.rest), (g.met.D.Dock.say_keeps_held c.args.dock.now c.drill.new.dock c.drill.ensures.rest))

pub returns-in-Err-Say-clause-caused : goal.returns-in-Err-Say-clause-caused
returns-in-Err-Say-clause-caused g c = caused_still _ 8 _ _ _ _ _ _ _ _ (g.met.D.Dock.say_keeps_asked c.args.dock.now c.drill.new.dock c.drill.ensures.rest) (g.met.D.Dock.say_keeps_open_faults c.args.dock.now c.drill.new.dock c.drill.ensures.rest) (g.met.D.Dock.say_keeps_write_faults c.args.dock.now c.drill.new.dock c.drill.ensures.rest) (λ e. absurd (omega (arith, e))) (λ all. absurd cc) true
