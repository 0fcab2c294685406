use Rattle.std.proofs.Common.{◌≡◌, ◌*◌, ◌-◌, ◌++◌, take, drop}
use Rattle.sample_pool.specs.Numbers.{reversed}
use Rattle.sample_pool.proofs.reverse.reverse_twos.Given as goal

abbrev pub invariant-numbers : goal.invariant-numbers
invariant-numbers l = take (2 * l.i) l.to ++ reversed 2 (l.count - l.i) (drop (2 * l.i) l.from) ≡ reversed 2 l.count l.from
