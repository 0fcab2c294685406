use Rattle.std.proofs.Common.{◌≡◌, ◌++◌, ◌∷◌, ◌/◌, ℕ, suc, List, length, drop, ap, ◌∙◌, arith}
use Rattle.std.proofs.lemmas.List.{length-drop}
use Rattle.byteorder.specs.Endian.{little_number}
use Rattle.xdf_model.specs.declared.types.Format.TheVariants.{Double64}
use Rattle.report_model.specs.Lines.{hex_digits, value_word}
use Rattle.stream_report.specs.Words.{double_word}
use Rattle.stream_report.proofs.Numbers.{next_number}
use Rattle.stream_report.proofs.sample_line.push_doubles.Goals as goal

pub loop-rest-preserved : goal.loop-rest-preserved
unfolding double_word
loop-rest-preserved c =
    let rest : List ℕ = c.loop-rest.rest.now in
    let one : length rest / 8 ≡ suc (length (drop 8 rest) / 8) = omega (arith, length-drop 8 rest) in
    let more : c.push_double.new.self ≡ c.loop-rest.line ++ 32 ∷ hex_digits 16 (little_number 8 rest) = c.in_ok-push_double.ensures ∙ ap (λ (n : ℕ). c.loop-rest.line ++ 32 ∷ hex_digits 16 n) c.read_u64.ensures in
    rw c.split_at.ensures.back (next_number 8 (λ v. 32 ∷ value_word Double64 v) c.loop-rest.line c.push_double.new.self _ rest _ _ one c.loop-rest.invariant more)
