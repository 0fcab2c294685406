use Rattle.std.proofs.Common.{◌≡◌, ◌-◌, slice_get}
use Rattle.sample_values.specs.View.{text_in}
use Rattle.sample_values.proofs.raw_view.text_among.Given as goal

abbrev pub invariant-loop : goal.invariant-loop
invariant-loop l = text_in (slice_get l.rest (l.i - l.counter)) ≡ text_in (slice_get l.fn.values l.i)
