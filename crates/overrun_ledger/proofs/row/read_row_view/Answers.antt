use Rattle.std.proofs.Common.{◌≡◌, Some, arith}
use Rattle.std.proofs.lemmas.Grind.{common_steps}
use Rattle.recording_model.specs.declared.row.Row.{Row}
use Rattle.recording_model.specs.Ledger.{row_in}
use Rattle.overrun_ledger.proofs.Rows.{row_in_is}
use Rattle.overrun_ledger.proofs.row.read_row_view.Goals as goal

pub returns-clause-sample : goal.returns-clause-sample
returns-clause-sample c =
    let row : Row = record { stream = c.in-Some-Some-Some.stream; first = c.in-Some-Some-Some.first; count = c.in-Some-Some-Some.count } in
    let read : row_in c.args.sample.now ≡ Some row = grind (arith, common_steps) in
    row_in_is c.args.sample.now row read
