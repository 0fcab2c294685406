use Rattle.std.proofs.Common.{◌≡◌, ◌∙◌, arith}
use Rattle.std.proofs.lemmas.Bool.Decides.{nat_tests}
use Rattle.sample_pool.proofs.Numbers.{reversed_same}
use Rattle.sample_pool.proofs.reverse.reverse_numbers.Goals as goal

pub returns-in_default : goal.returns-in_default
returns-in_default c =
    let one : c.args.size ≡ 1 = grind (arith, nat_tests, c.requires.size, c.in_default) in
    c.copy_from_slice.ensures.after ∙ reversed_same c.args.size c.args.count c.args.from.now one (λ i. omega (arith, c.type_inv.from i)) c.requires.from
