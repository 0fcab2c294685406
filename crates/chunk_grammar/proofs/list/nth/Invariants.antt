use Rattle.std.proofs.Common.{◌≡◌, ◌-◌, slice_get}
use Rattle.chunk_grammar.proofs.list.nth.Given as goal

abbrev pub invariant-loop : goal.invariant-loop
invariant-loop l = slice_get l.rest (l.i - l.counter) ≡ slice_get l.fn.samples l.i
