use Rattle.std.proofs.Common.{arith}
use Rattle.xdf_model.specs.declared.types.Shape.{Shape}
use Rattle.xdf_model.specs.Sample.{FitsShape, sample_at}
use Rattle.sample_values.specs.Raw.{found_in}
use Rattle.std.proofs.Common.{subst}
use Rattle.sample_values.proofs.Wholes.{has_the_shape}
use Rattle.sample_values.proofs.raw_view.shape_is.Goals as goal

pub returns : goal.returns
returns c = λ yes.
    subst (λ (s : Shape). FitsShape s (found_in (sample_at c.args.own.now c.args.bytes.now))) (c.is_same.ensures yes) (has_the_shape c.args.own.now c.args.bytes.now (λ i. omega (arith, c.type_inv.bytes i)) c.requires)
