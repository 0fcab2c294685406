use Rattle.file_call.specs.Orders.{input_order}
use Rattle.std.proofs.Common.{◌∙◌}
use Rattle.file_call.proofs.Kept.{caused_read}
use Rattle.std.proofs.Common.{ap, Err, inl}
use Rattle.file_call.proofs.Files.{told_other}
use Rattle.file_call.proofs.Kept.{says_first}
use Rattle.file_call.proofs.show.show_status.Goals as goal

pub returns-in-Err-NotXdf-clause-not_xdf : goal.returns-in-Err-NotXdf-clause-not_xdf
returns-in-Err-NotXdf-clause-not_xdf g c = λ _.
    let is = ap Err c.in-Err-NotXdf.field-0-is in
    let other = c.in-Err-NotXdf.ensures.not_xdf is in
    let same = c.in-Err-NotXdf.ensures.none_said (inl is) in
    (other, told_other g.D.Source.Source.left (g.D.Dock.contents c.args.dock.now) c.args.name.now other, says_first _ _ _ _ _ _ _ same.0 same.1 c.say_fault.ensures.line)

pub returns-in-Err-Read-clause-caused : goal.returns-in-Err-Read-clause-caused
returns-in-Err-Read-clause-caused g c =
    caused_read (input_order c.args.name.now) _ _ _ _ _ _ _ _ _ (g.met.D.Dock.say_keeps_asked c.show.new.dock c.say_fault-in-Err-Read.new.dock c.say_fault-in-Err-Read.ensures.rest) ((g.met.D.Dock.say_keeps_write_faults c.show.new.dock c.say_fault-in-Err-Read.new.dock c.say_fault-in-Err-Read.ensures.rest) ∙ c.in-Err-Read.ensures.write_faults) c.in-Err-Read.ensures.asks
