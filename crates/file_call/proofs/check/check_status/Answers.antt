use Rattle.std.proofs.Common.{ap, Err, [], codes, inl, inr}
use Rattle.std.proofs.KnownBytes.{Appends-nil}
use Rattle.report_model.specs.Check.{check_lines}
use Rattle.file_call.proofs.Files.{told_other}
use Rattle.file_call.proofs.Kept.{says_first, says_behind, says_some_behind}
use Rattle.file_call.proofs.check.check_status.Goals as goal

pub returns-in-Err-NotXdf-clause-not_xdf : goal.returns-in-Err-NotXdf-clause-not_xdf
returns-in-Err-NotXdf-clause-not_xdf g c = λ _.
    let is = ap Err c.in-Err-NotXdf.field-0-is in
    let other = c.in-Err-NotXdf.ensures.not_xdf is in
    let same = c.in-Err-NotXdf.ensures.none_said (inl is) in
    (other, told_other g.D.Source.Source.left (g.D.Dock.contents c.args.dock.now) c.args.name.now other, says_first _ _ _ _ _ _ _ same.0 same.1 c.say_fault.ensures.line)

pub returns-in-Err-Memory-clause-memory : goal.returns-in-Err-Memory-clause-memory
returns-in-Err-Memory-clause-memory g c = λ _.
    elim (c.in-Err-Memory.ensures.memory (ap Err c.in-Err-Memory.field-0-is)) [
      | inl same ↦ inl (says_behind _ _ _ _ _ _ [] (codes "fault 9") (rw same (Appends-nil _)) (c.in-Err-Memory.ensures.says.quiet (λ f. absurd (cc (f, c.in-Err-Memory.field-0-is)))) c.say_fault-in-Err-Memory.ensures.line)
      | inr more ↦ elim more [
        | inl k ↦ inr (inl (k.0, k.1, says_behind _ _ _ _ _ _ k.0 (codes "fault 9") k.2 (c.in-Err-Memory.ensures.says.quiet (λ f. absurd (cc (f, c.in-Err-Memory.field-0-is)))) c.say_fault-in-Err-Memory.ensures.line))
        | inr k ↦ inr (inr (k.0, k.1, k.2, says_some_behind _ _ _ _ _ _ (check_lines (k.0, k.1)) (codes "fault 9") k.3 (c.in-Err-Memory.ensures.says.quiet (λ f. absurd (cc (f, c.in-Err-Memory.field-0-is)))) c.say_fault-in-Err-Memory.ensures.line))
      ]
    ]
