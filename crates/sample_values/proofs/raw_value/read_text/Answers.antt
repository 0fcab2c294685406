use Rattle.sample_values.proofs.Fronts.{short_text_found}
use Rattle.sample_values.proofs.raw_value.read_text.Goals as goal

pub returns-then-end-bytes : goal.returns-then-end-bytes
returns-then-end-bytes c = short_text_found c.args.bytes.now c.if-bytes-ge2.true c.if-bytes-eq1.true c.if-end-bytes.true
