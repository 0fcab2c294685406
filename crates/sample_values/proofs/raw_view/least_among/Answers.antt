use Rattle.std.proofs.Common.{◌≡◌, ◌<◌, subst, arith}
use Rattle.xdf_model.specs.declared.types.Shape.{Shape}
use Rattle.xdf_model.specs.Sample.{size_of, sample_at, least_sample_text}
use Rattle.sample_values.specs.Raw.{found_in}
use Rattle.sample_values.proofs.Wholes.{is_the_least}
use Rattle.sample_values.proofs.raw_view.least_among.Goals as goal

pub returns-then-is_same : goal.returns-then-is_same
returns-then-is_same c =
    let some : 0 < size_of c.args.own.now.format = omega (arith, c.size_of_format.ensures, c.if-size_of_format-gt0.true) in
    subst (λ (s : Shape). c.args.bytes.now ≡ least_sample_text s (found_in (sample_at c.args.own.now c.args.bytes.now))) (c.is_same.ensures c.if-is_same.true) (is_the_least c.args.own.now c.args.bytes.now (λ i. omega (arith, c.type_inv.bytes i)) some c.requires)
