use Rattle.std.proofs.Common.{◌≡◌, ◌*◌, ◌-◌, ◌++◌, take, drop}
use Rattle.sample_pool.specs.Numbers.{reversed}
use Rattle.sample_pool.proofs.reverse.reverse_eights.Given as goal

abbrev pub invariant-numbers : goal.invariant-numbers
invariant-numbers l = take (8 * l.i) l.to ++ reversed 8 (l.count - l.i) (drop (8 * l.i) l.from) ≡ reversed 8 l.count l.from
