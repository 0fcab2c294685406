use Rattle.std.proofs.Common.{◌≡◌, ◌++◌, ◌∷◌, length}
use Rattle.std.specs.List.{flat_map}
use Rattle.report_model.specs.Lines.{value_word}
use Rattle.stream_report.proofs.sample_line.push_each.Given as goal

abbrev pub invariant-loop-value : goal.invariant-loop-value
invariant-loop-value l = l.line ++ flat_map (λ v. 32 ∷ value_word l.format v) l.rest ≡ l.fn.line ++ flat_map (λ v. 32 ∷ value_word l.format v) l.fn.values

abbrev pub decreases-loop-value : goal.decreases-loop-value
decreases-loop-value l = length l.rest
