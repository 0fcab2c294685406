use Rattle.std.proofs.Common.{◌≡◌, length}
use Rattle.halt_word.specs.Ends.{AreNew}
use Rattle.halt_word.proofs.halt.make_halt.Given as goal

abbrev pub invariant-loop : goal.invariant-loop
invariant-loop l = record {
  raiser : l.raiser ≡ l.initial.raiser;
  list : (l.list.word ≡ l.initial.raiser.word) × (l.list.room ≡ l.fn.lookers);
  count : length l.list.lookers ≡ l.counter;
  new : AreNew l.list.lookers;
}
