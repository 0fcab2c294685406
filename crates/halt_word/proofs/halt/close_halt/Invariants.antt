use Rattle.std.proofs.Common.{◌≡◌, ◌++◌, false, true}
use Rattle.std.specs.Vec.Iter.{into_iter_items}
use Rattle.std.specs.Arc.{arc_value}
use Rattle.halt_word.specs.Rule.{IsSeatAt}
use Rattle.halt_word.specs.Ends.{AreOf, NoneSaw}
use Rattle.halt_word.proofs.halt.close_halt.Given as goal

abbrev pub invariant-loop-looker : goal.invariant-loop-looker
invariant-loop-looker l = record {
  seat : IsSeatAt (arc_value l.word).shared.table_id l.seat;
  own : (l.seat.me.0.raises ≡ true) × (l.seat.me.0.raised ≡ l.fn.raiser.raised);
  left : AreOf l.fn.raiser.word (into_iter_items l.looker-iterator);
  none : l.seat.me.0.saw ≡ false → NoneSaw l.yielded;
  all : l.yielded ++ into_iter_items l.looker-iterator ≡ l.fn.lookers.lookers;
}
