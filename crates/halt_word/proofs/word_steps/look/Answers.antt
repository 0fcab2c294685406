use Rattle.std.proofs.Common.{rules}
use Rattle.halt_word.proofs.Moves.{looks}
use Rattle.halt_word.proofs.word_steps.look.Goals as goal

pub load-requires : goal.load-requires
load-requires c = (search rules, search rules, looks _ _ _)
