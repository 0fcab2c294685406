use Rattle.std.proofs.Common.{◌≡◌, ◌++◌, ◌∷◌, ◌/◌, ℕ, suc, List, length, drop, ap, ◌∙◌, arith}
use Rattle.std.proofs.lemmas.List.{length-drop}
use Rattle.byteorder.specs.Endian.{little_number}
use Rattle.xdf_model.specs.declared.types.Format.TheVariants.{Float32}
use Rattle.report_model.specs.Lines.{hex_digits, value_word}
use Rattle.stream_report.proofs.Numbers.{next_number}
use Rattle.stream_report.proofs.sample_line.push_floats.Goals as goal

pub loop-rest-preserved : goal.loop-rest-preserved
loop-rest-preserved c =
    let rest : List ℕ = c.loop-rest.rest.now in
    let one : length rest / 4 ≡ suc (length (drop 4 rest) / 4) = omega (arith, length-drop 4 rest) in
    let more : c.push_float.new.self ≡ c.loop-rest.line ++ 32 ∷ hex_digits 8 (little_number 4 rest) = c.in_ok-push_float.ensures ∙ ap (λ (n : ℕ). c.loop-rest.line ++ 32 ∷ hex_digits 8 n) c.read_u32.ensures in
    rw c.split_at.ensures.back (next_number 4 (λ v. 32 ∷ value_word Float32 v) c.loop-rest.line c.push_float.new.self _ rest _ _ one c.loop-rest.invariant more)
