use Rattle.record_call.proofs.Asking.{marks_opened, on_ok}
use Rattle.std.proofs.Common.{◌≡◌, ap, Err}
use Rattle.record_call.proofs.Plans.{too_long}
use Rattle.record_call.proofs.plan.open_plan.Goals as goal

pub returns-in-Err-TooLong-clause-refused : goal.returns-in-Err-TooLong-clause-refused
returns-in-Err-TooLong-clause-refused g c = λ line why e.
    let k = c.in-Err-TooLong.ensures.too_long (ap Err c.in-Err-TooLong.field-0-is) in
    let first : 0 ≡ line = cc e in
    let second : 10 ≡ why = cc e in
    (k.0, k.1, too_long k.0 c.args.out.now line why k.2 first second)

pub returns-in-Ok-clause-marks : goal.returns-in-Ok-clause-marks
returns-in-Ok-clause-marks g c = on_ok c.plan_of.result (marks_opened _ _ _ _ c.in-Ok.ensures.marked.1)
