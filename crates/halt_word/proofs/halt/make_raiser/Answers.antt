use Rattle.halt_word.proofs.Moves.{begins}
use Rattle.halt_word.proofs.halt.make_raiser.Goals as goal

pub of_words-requires : goal.of_words-requires
of_words-requires c = begins
