use Rattle.std.proofs.Common.{◌≡◌, length, sym, ◌∙◌, arith}
use Rattle.xdf_model.specs.Sample.{sample_at}
use Rattle.sample_values.specs.Raw.{found_in}
use Rattle.sample_values.proofs.Cuts.{sample_no_bits, sample_count, past_bits}
use Rattle.sample_values.proofs.raw_view.bits_of.Goals as goal
use Rattle.sample_values.proofs.raw_view.bits_of.Goals.{then-size-eq0-via-then-size-eq0, then-size-eq0-via-else-size-eq0+then-i-shape}

pub returns-then-size-eq0 : goal.returns-then-size-eq0
returns-then-size-eq0 c = elim c.then-size-eq0.branch [
  | then-size-eq0-via-then-size-eq0 w ↦ sym (sample_no_bits c.args.shape.now c.args.bytes.now c.args.i (sym c.size_of_format-size.ensures ∙ w.if-size-eq0.true) c.requires)
  | then-size-eq0-via-else-size-eq0+then-i-shape w ↦
      let count : length ((found_in (sample_at c.args.shape.now c.args.bytes.now)).values) ≡ c.args.shape.now.count = sample_count c.args.shape.now c.args.bytes.now c.requires in
      sym (past_bits ((found_in (sample_at c.args.shape.now c.args.bytes.now)).values) c.args.i (omega (arith, count)))
]
