use Rattle.std.proofs.Common.{ℕ, ◌*◌, ap, arith}
use Rattle.sample_values.proofs.Lengths.{length-numbers}
use Rattle.sample_values.proofs.size.values_size.Goals as goal

pub overflow_mul-result : goal.overflow_mul-result
overflow_mul-result c = omega (arith, ap (λ (n : ℕ). n * c.args.size) c.len.ensures, length-numbers c.args.size c.args.view.now.values c.if-size-eq0.false c.requires.fits)

pub returns-else-size-eq0 : goal.returns-else-size-eq0
returns-else-size-eq0 c = omega (arith, ap (λ (n : ℕ). n * c.args.size) c.len.ensures, length-numbers c.args.size c.args.view.now.values c.if-size-eq0.false c.requires.fits)
