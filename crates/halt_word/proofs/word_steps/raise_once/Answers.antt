use Rattle.std.proofs.Common.{rules}
use Rattle.halt_word.proofs.Moves.{raises}
use Rattle.halt_word.proofs.word_steps.raise_once.Goals as goal

pub store-requires : goal.store-requires
store-requires c = (search rules, search rules, raises _ _ _ c.requires.raiser)
