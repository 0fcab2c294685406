use Rattle.std.proofs.Common.{drop, ℕ, sym, ap, ◌∙◌}
use Rattle.std.proofs.lemmas.List.{take_rest}
use Rattle.xdf_model.specs.Sample.{number}
use Rattle.xdf_model_laws.proofs.Readers.{found}
use Rattle.sample_values.proofs.Fronts.{number_found, number_short}
use Rattle.sample_values.proofs.raw_value.read_number.Goals as goal

pub returns-then-bytes-size : goal.returns-then-bytes-size
returns-then-bytes-size c = number_short c.args.size c.args.bytes.now c.requires.some c.if-bytes-size.true

pub returns : goal.returns
returns c =
    number_found c.args.size c.args.bytes.now c.requires.some c.if-bytes-size.false
    ∙ ap (λ (n : ℕ). found (number n) (drop c.args.size c.args.bytes.now)) (sym c.number_of.ensures)
    ∙ ap (found (number c.number_of.result)) (sym (take_rest c.args.bytes.now c.args.size))
