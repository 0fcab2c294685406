use Rattle.std.proofs.Common.{rules}
use Rattle.halt_word.proofs.Moves.{splits}
use Rattle.halt_word.proofs.word_steps.split_looker.Goals as goal

pub split_seat-requires : goal.split_seat-requires
split_seat-requires c = (search rules, search rules, splits _ _)
