use Rattle.std.proofs.Common.{◌+◌, get_or, sym, ap, ◌∙◌}
use Rattle.std.proofs.lemmas.List.{take_rest}
use Rattle.sample_values.proofs.Rests.{short_text, left_is}
use Rattle.sample_values.proofs.walk.behind_text.Goals as goal

pub returns-then-end-bytes : goal.returns-then-end-bytes
returns-then-end-bytes c =
    short_text c.args.bytes.now c.if-bytes-ge2.true c.if-bytes-eq1.true c.if-end-bytes.true ∙ ap left_is (sym (take_rest c.args.bytes.now (2 + get_or c.args.bytes.now 1 0)))
