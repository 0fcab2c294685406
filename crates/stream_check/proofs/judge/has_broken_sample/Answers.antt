use Rattle.std.proofs.Common.{sym}
use Rattle.stream_check.proofs.Texts.{none_broken}
use Rattle.stream_check.proofs.judge.has_broken_sample.Goals as goal

pub returns-then-not-has_texts : goal.returns-then-not-has_texts
returns-then-not-has_texts c = sym (none_broken c.args.samples.now (c.has_texts.ensures c.if-not-has_texts.true))
