use Rattle.std.proofs.Common.{◌≡◌, ℕ, ◌+◌, ◌++◌, ◌∷◌, ◌==◌, ◌&&◌, None, not, [], List, length, if◌then◌else◌, subst, arith}
use Rattle.std.specs.Io.KnownBytes.{Appends}
use Rattle.std.proofs.lemmas.List.{length-append}
use Rattle.report_model.specs.declared.note.Note.{Note}
use Rattle.report_model.specs.Check.{sum_lines}
use Rattle.report_model.specs.Notes.{end_notes, is_stopped, note, notes_in}
use Rattle.report_model.specs.Shown.{printed_lines}
use Rattle.stream_check.specs.Telling.{Fails, kept_notes, last_notes}
use Rattle.stream_check.proofs.Telling.{last_said, first_fails, second_fails, third_fails}
use Rattle.stream_check.proofs.last.say_last.Goals as goal

pub returns-in-Err-clause-told : goal.returns-in-Err-clause-told
returns-in-Err-clause-told g c =
    let xs : List Note = notes_in ((c.args.chunks == 0 && not (is_stopped c.args.end), note 1 None 4) ∷ []) ++ end_notes c.args.end in
    let ys : List Note = if is_stopped c.args.end then [] else kept_notes c.args.ledger c.args.streams.now in
    first_fails xs ys (sum_lines c.args.chunks (c.args.notes + length (last_notes c.args.ledger c.args.streams.now c.args.chunks c.args.end)) c.args.end) _ _ (g.L.Lines.printed c.args.lines.now) (g.L.Lines.printed c.args.lines.now) _ _ 0 0 c.in-Err.fault c.in-Err.ensures.told

pub returns-in-Err-say_known-clause-told : goal.returns-in-Err-say_known-clause-told
returns-in-Err-say_known-clause-told g c =
    let xs : List Note = notes_in ((c.args.chunks == 0 && not (is_stopped c.args.end), note 1 None 4) ∷ []) ++ end_notes c.args.end in
    let ys : List Note = if is_stopped c.args.end then [] else kept_notes c.args.ledger c.args.streams.now in
    second_fails xs ys (sum_lines c.args.chunks (c.args.notes + length (last_notes c.args.ledger c.args.streams.now c.args.chunks c.args.end)) c.args.end) _ _ _ (g.L.Lines.printed c.args.lines.now) _ _ _ 0 c.in-Err-say_known.fault c.in-Ok.ensures.told c.in-Ok.ensures.cause.later c.in-Err-say_known.ensures.told

pub returns-in-Ok-say_sum-clause-told : goal.returns-in-Ok-say_sum-clause-told
returns-in-Ok-say_sum-clause-told g c =
    let xs : List Note = notes_in ((c.args.chunks == 0 && not (is_stopped c.args.end), note 1 None 4) ∷ []) ++ end_notes c.args.end in
    let ys : List Note = if is_stopped c.args.end then [] else kept_notes c.args.ledger c.args.streams.now in
    let count : c.args.notes + c.in-Ok.n + c.in-Ok-say_known.n ≡ c.args.notes + length (xs ++ ys) = omega (arith, c.in-Ok.ensures.count, c.in-Ok-say_known.ensures.count, length-append xs ys) in
    let P : ℕ → Type 0 = λ n. Appends (g.L.Lines.printed c.say_known.new.lines) (g.L.Lines.printed c.say_sum.new.lines) (printed_lines (sum_lines c.args.chunks n c.args.end)) in
    last_said xs ys (sum_lines c.args.chunks (c.args.notes + length (xs ++ ys)) c.args.end) _ _ _ _ 0 0 0 0 c.in-Ok.ensures.told c.in-Ok-say_known.ensures.told (subst P count c.in-Ok-say_sum.ensures.told)

pub returns-in-Err-say_sum-clause-told : goal.returns-in-Err-say_sum-clause-told
returns-in-Err-say_sum-clause-told g c =
    let xs : List Note = notes_in ((c.args.chunks == 0 && not (is_stopped c.args.end), note 1 None 4) ∷ []) ++ end_notes c.args.end in
    let ys : List Note = if is_stopped c.args.end then [] else kept_notes c.args.ledger c.args.streams.now in
    let count : c.args.notes + c.in-Ok.n + c.in-Ok-say_known.n ≡ c.args.notes + length (xs ++ ys) = omega (arith, c.in-Ok.ensures.count, c.in-Ok-say_known.ensures.count, length-append xs ys) in
    let P : ℕ → Type 0 = λ n. Fails c.in-Err-say_sum.fault (g.L.Lines.printed c.say_known.new.lines) (g.L.Lines.printed c.say_sum.new.lines) (g.L.Lines.print_faults c.say_known.new.lines) (g.L.Lines.print_faults c.say_sum.new.lines) (sum_lines c.args.chunks n c.args.end) in
    third_fails xs ys (sum_lines c.args.chunks (c.args.notes + length (xs ++ ys)) c.args.end) _ _ _ _ _ _ _ _ c.in-Err-say_sum.fault c.in-Ok.ensures.told c.in-Ok.ensures.cause.later c.in-Ok-say_known.ensures.told c.in-Ok-say_known.ensures.cause.later (subst P count c.in-Err-say_sum.ensures.told)
