use Rattle.std.proofs.Common.{◌≡◌, ◌++◌, ◌∷◌, ◌/◌, length}
use Rattle.std.specs.List.{flat_map}
use Rattle.xdf_model.specs.declared.types.Format.TheVariants.{Float32}
use Rattle.sample_values.specs.Numbers.{numbers_in}
use Rattle.report_model.specs.Lines.{value_word}
use Rattle.stream_report.proofs.sample_line.push_floats.Given as goal

abbrev pub invariant-loop-rest : goal.invariant-loop-rest
invariant-loop-rest l =
    l.line ++ flat_map (λ v. 32 ∷ value_word Float32 v) (numbers_in 4 (length l.rest / 4) l.rest) ≡ l.fn.line ++ flat_map (λ v. 32 ∷ value_word Float32 v) (numbers_in 4 (length l.bytes / 4) l.bytes)

abbrev pub decreases-loop-rest : goal.decreases-loop-rest
decreases-loop-rest l = length l.rest
