use Rattle.std.proofs.Common.{◌≡◌, ℕ, List, length, ap, ◌∙◌, subst}
use Rattle.reading_model.specs.Outlook.{ended}
use Rattle.report_model.specs.Notes.{check_notes}
use Rattle.stream_check.specs.Ends.{told_count}
use Rattle.file_call.specs.Files.{file_chunks}
use Rattle.file_call.proofs.drill.run_drill.Goals as goal

pub returns : goal.returns
returns c =
    let r = c.in_ok-recorded.ensures in
    let P : List ℕ → Type 0 = λ t. c.in_ok-notes.notes ≡ told_count (length (check_notes (file_chunks t ended))) in
    record {
      cs = r.0;
      recording = r.1;
      text = r.2;
      byte_count = ap length (c.held-2.ensures ∙ r.3);
      chunk_count = r.4;
      kept_count = r.5;
      lost_count = r.6;
      note_count = subst P (c.held.ensures ∙ r.3) c.in_ok-notes.ensures;
    }
