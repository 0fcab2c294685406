use Rattle.file_call.specs.declared.fault.DrillFault.TheVariants.{Say}
use Rattle.file_call.proofs.Kept.{err_again}
use Rattle.file_call.proofs.drill.drill.Goals as goal

pub returns-in-Ok-say_drilled-clause-drilled : goal.returns-in-Ok-say_drilled-clause-drilled
returns-in-Ok-say_drilled-clause-drilled g c =
    let d = c.in-Ok.numbers in
    record { bytes = d.bytes; chunks = d.chunks; kept = d.kept; lost = d.lost; notes = d.notes; is = c.in-Ok.ensures; said = c.in-Ok-say_drilled.ensures.ok }

pub returns-in-Err-say_drilled-clause-say : goal.returns-in-Err-say_drilled-clause-say
returns-in-Err-say_drilled-clause-say g c = λ is.
    let d = c.in-Ok.numbers in
    let k = c.in-Err-say_drilled.ensures.say (err_again c.in-Err-say_drilled.fault Say is) in
    (k.0, record { bytes = d.bytes; chunks = d.chunks; kept = d.kept; lost = d.lost; notes = d.notes; is = c.in-Ok.ensures; said = k.1 })
