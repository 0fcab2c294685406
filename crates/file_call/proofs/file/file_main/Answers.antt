use Rattle.std.proofs.Common.{◌≡◌, ℕ, Bool, true, List, ◌++◌, codes, Ok, ap, ◌∙◌, subst, inl, inr}
use Rattle.std.specs.Fmt.{decimal}
use Rattle.rec_base.specs.Causes.{Rose}
use Rattle.dock_calls.specs.Said.{SaysFault}
use Rattle.plan_model.specs.Commands.{command_in}
use Rattle.plan_model.specs.declared.top.Top.TheVariants.{File as for_files}
use Rattle.plan_words.specs.Commands.{command_view}
use Rattle.plan_words.specs.declared.command.Command.{Command}
use Rattle.file_call.specs.Drilled.{IsDrillCut, IsDrillSaid}
use Rattle.std.specs.Io.KnownBytes.{Appends}
use Rattle.rec_base.specs.Known.{printed_line}
use Rattle.file_call.specs.Repaired.{CompletesRepair, repaired_line, repaired_status}
use Rattle.file_call.specs.Searched.{IsKept}
use Rattle.file_call.proofs.Damage.{goes_over}
use Rattle.file_call.proofs.Completes.{completes}
use Rattle.file_call.proofs.Repairs.{long_input}
use Rattle.file_call.proofs.Words.{asked_repair, drill_within, same_number, usage_known, not_record}
use Rattle.file_call.proofs.file.file_main.Goals as goal

pub usage_line-requires : goal.usage_line-requires
usage_line-requires g c = record { known = usage_known c.args.words.now c.in-Err.usage.why c.in-Err.ensures }

pub returns-in-Err-clause-usage_line : goal.returns-in-Err-clause-usage_line
returns-in-Err-clause-usage_line g c = λ why is.
    let q : c.in-Err.usage.why ≡ why = cc (c.in-Err.ensures, is) in
    let line : ℕ → List ℕ = λ n. codes "fault 2 usage " ++ decimal n in
    let P : List ℕ → Type 0 = λ t. SaysFault (g.D.Lines.printed c.args.dock.now) (g.D.Lines.printed c.say_fault.new.dock) (g.D.Lines.print_faults c.args.dock.now) (g.D.Lines.print_faults c.say_fault.new.dock) t in
    subst P (c.usage_line.ensures ∙ ap line q) c.say_fault.ensures.line

pub unreachable-requires : goal.unreachable-requires
unreachable-requires g c =
    let P : Command → Type 0 = λ asked. command_in for_files c.args.words.now ≡ Ok (command_view asked) in
    not_record c.args.words.now c.in-Record.plan.now c.in-Record.out.now (subst P c.in-Record.is c.in-Ok.ensures)

pub drill_status-requires-clause-some : goal.drill_status-requires-clause-some
drill_status-requires-clause-some g c = λ _ _.
    let A : Command → Type 0 = λ command. command_in for_files c.args.words.now ≡ Ok (command_view command) in
    (drill_within c.args.words.now c.in-Drill.number (subst A c.in-Drill.is c.in-Ok.ensures)).0

pub drill_status-requires-clause-most : goal.drill_status-requires-clause-most
drill_status-requires-clause-most g c = λ _ _.
    let A : Command → Type 0 = λ command. command_in for_files c.args.words.now ≡ Ok (command_view command) in
    (drill_within c.args.words.now c.in-Drill.number (subst A c.in-Drill.is c.in-Ok.ensures)).1

pub returns-in-Drill-clause-drilled : goal.returns-in-Drill-clause-drilled
returns-in-Drill-clause-drilled g c = λ number asked done.
    let A : Command → Type 0 = λ command. command_in for_files c.args.words.now ≡ Ok (command_view command) in
    let same = same_number c.args.words.now c.in-Drill.number number (subst A c.in-Drill.is c.in-Ok.ensures) asked in
    let S : ℕ → Type 0 = λ n. IsDrillSaid n (g.D.Lines.printed c.args.dock.now) (g.D.Lines.printed c.drill_status.new.dock) in
    subst S same (c.drill_status.ensures.drilled done)

pub returns-in-Drill-clause-drill_say_fault : goal.returns-in-Drill-clause-drill_say_fault
returns-in-Drill-clause-drill_say_fault g c = λ number asked eight.
    let A : Command → Type 0 = λ command. command_in for_files c.args.words.now ≡ Ok (command_view command) in
    let same = same_number c.args.words.now c.in-Drill.number number (subst A c.in-Drill.is c.in-Ok.ensures) asked in
    let S : ℕ → Type 0 = λ n. IsDrillCut n (g.D.Lines.printed c.args.dock.now) (g.D.Lines.printed c.drill_status.new.dock) in
    let k = c.drill_status.ensures.say_fault eight in
    (k.0, subst S same k.1)

pub returns-in-Repair-clause-search_goes_over_damage : goal.returns-in-Repair-clause-search_goes_over_damage
returns-in-Repair-clause-search_goes_over_damage g c = λ from out asked done.
    let A : Command → Type 0 = λ command. command_in for_files c.args.words.now ≡ Ok (command_view command) in
    let old = c.args.dock.now in
    let new = c.repair_status.new.dock in
    let left = g.D.Source.Source.left in
    let contents = g.D.Dock.contents old in
    let held = g.D.Sink.held in
    let printed = g.D.Lines.printed in
    let C : Bool → List ℕ → List ℕ → Type 0 = λ s f o. (chunks : ℕ) × (bytes : ℕ) × (skipped : ℕ) × (c.repair_status.result ≡ repaired_status skipped)
    × IsKept s left contents f o (g.D.Dock.target old) (g.D.Dock.target new) (held old) (held new) chunks bytes skipped
    × Appends (printed old) (printed new) (printed_line (repaired_line chunks bytes skipped)) in
    let k = asked_repair c.args.words.now C c.in-Repair.search true c.in-Repair.from.now from c.in-Repair.to.now out (subst A c.in-Repair.is c.in-Ok.ensures) asked (c.repair_status.ensures.repaired done) in
    goes_over left contents from out (g.D.Dock.target old) (g.D.Dock.target new) (held old) (held new) (printed old) (printed new) k.0 k.1 k.2 c.repair_status.result k.4 k.3 k.5

pub returns-in-Repair-clause-repair_completes : goal.returns-in-Repair-clause-repair_completes
returns-in-Repair-clause-repair_completes g c = λ form from out asked.
    let A : Command → Type 0 = λ command. command_in for_files c.args.words.now ≡ Ok (command_view command) in
    let old = c.args.dock.now in
    let new = c.repair_status.new.dock in
    let e = c.repair_status.ensures in
    let opens = g.D.Dock.open_faults in
    let writes = g.D.Sink.write_faults in
    let says = g.D.Lines.print_faults in
    let left = g.D.Source.Source.left in
    let faults = g.D.Source.Source.faults in
    let mark = g.D.Source.Source.mark in
    let input = g.D.Dock.input_mark in
    let contents = g.D.Dock.contents old in
    let marks = g.D.Dock.marks old in
    let C : Bool → List ℕ → List ℕ → Type 0 = λ s f o. CompletesRepair left faults mark input contents marks f (opens old) (opens new) (writes old) (writes new) (says old) (says new) c.repair_status.result in
    asked_repair c.args.words.now C c.in-Repair.search form c.in-Repair.from.now from c.in-Repair.to.now out (subst A c.in-Repair.is c.in-Ok.ensures) asked (completes left faults mark input contents marks c.in-Repair.from.now (opens old) (opens new) (writes old) (writes new) (says old) (says new) c.repair_status.result e.statuses
    (λ is. (e.not_xdf is).1)
    (λ is. elim (e.open_fault is).0 [
      | inl k ↦ elim k.0 [ inl at ↦ inl at.rose | inr read ↦ inr read ]
      | inr k ↦ inr k.0
    ])
    (λ is. let k = (e.write_fault is).0 in subst (λ n. Rose n (writes new)) k.2 k.3)
    (λ is. long_input c.in-Repair.search left contents c.in-Repair.from.now c.in-Repair.to.now _ _ _ _ (e.size_limit is).0)
    (λ is. (e.say_fault is).0))
