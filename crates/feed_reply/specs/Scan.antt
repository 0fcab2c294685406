-- What a scan knows of the front of a reply (this project's own).
use Rattle.std.specs.Prelude.{◌≡◌, ℕ, ◌+◌, ◌≤◌, List, ◌++◌, length, take, drop}
use Rattle.reply_model.specs.Lines.{lines_in}
use Rattle.reply_model.specs.Reply.{empty_line}
use Rattle.feed_reply.specs.Views.{with_front}
use Rattle.feed_reply.specs.declared.scan.ReplyScan.{ReplyScan}

-- What a scan knows holds of b and of every longer text: going on at its line gives what all lines give, and no line end begins at the
-- bytes of that line that were looked at. It has gone past no more lines than bytes.
pub record IsScanOf (b : List ℕ) (scan : ReplyScan) : Type 0 where
  pub there : scan.at + scan.seen ≤ length b
  pub few : scan.number ≤ scan.at
  pub lines : (more : List ℕ) → empty_line 0 0 (lines_in (b ++ more)) ≡ empty_line scan.number scan.at (lines_in (drop scan.at b ++ more))
  pub line : (more : List ℕ) → lines_in (drop scan.at b ++ more) ≡ with_front (take scan.seen (drop scan.at b)) (lines_in (drop scan.seen (drop scan.at b) ++ more))
