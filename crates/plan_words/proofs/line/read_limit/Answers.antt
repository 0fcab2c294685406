use Rattle.std.proofs.Common.{sym, ◌∙◌, arith}
use Rattle.plan_words.proofs.ByKind.{limited_len}
use Rattle.plan_words.proofs.line.read_limit.Goals as goal

pub overflow_sub-len : goal.overflow_sub-len
overflow_sub-len c =
    let long = limited_len c.args.words.now (sym c.requires ∙ c.if-not-limited.false) in
    omega (arith, long, c.len.ensures)
