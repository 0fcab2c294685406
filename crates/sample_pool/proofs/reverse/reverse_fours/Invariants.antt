use Rattle.std.proofs.Common.{◌≡◌, ◌*◌, ◌-◌, ◌++◌, take, drop}
use Rattle.sample_pool.specs.Numbers.{reversed}
use Rattle.sample_pool.proofs.reverse.reverse_fours.Given as goal

abbrev pub invariant-numbers : goal.invariant-numbers
invariant-numbers l = take (4 * l.i) l.to ++ reversed 4 (l.count - l.i) (drop (4 * l.i) l.from) ≡ reversed 4 l.count l.from
