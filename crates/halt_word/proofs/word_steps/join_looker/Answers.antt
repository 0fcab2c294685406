use Rattle.std.proofs.Common.{rules}
use Rattle.halt_word.proofs.Moves.{joins}
use Rattle.halt_word.proofs.word_steps.join_looker.Goals as goal

pub join_seat-requires : goal.join_seat-requires
join_seat-requires c = (search rules, search rules, search rules, search rules, joins _ _ _ _)
