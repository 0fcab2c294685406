use Rattle.std.proofs.Common.{inl, inr}
use Rattle.record_cli.proofs.Repairs.{written_cases, repairs_cuts}
use Rattle.record_cli.proofs.laws.cut_recording_is_repaired.Goals as goal

pub returns : goal.returns
returns g c words before after status answer is =
    elim (written_cases status is) [
      | inl recorded ↦ let a = answer.recorded recorded in (a.0, a.1, a.2, repairs_cuts _ _ _ _ a.1 a.2.recording.run.text)
      | inr eight ↦ let a = answer.say_fault eight in (a.1, a.2, a.3, repairs_cuts _ _ _ _ a.2 a.3.recording.run.text)
    ]
