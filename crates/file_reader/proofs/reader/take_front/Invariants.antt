use Rattle.std.proofs.Common.{◌≡◌, ◌≤◌, ◌-◌, length}
use Rattle.std.specs.Io.KnownBytes.{Consumes}
use Rattle.file_reader.proofs.reader.take_front.Given as goal

abbrev pub invariant-pieces : goal.invariant-pieces
invariant-pieces g l = record {
  taken : Consumes (g.S.Source.left l.initial.source) (g.S.Source.left l.source) l.held.bytes;
  size : length l.held.bytes ≤ 4;
  quiet : g.S.Source.faults l.source ≡ g.S.Source.faults l.initial.source;
  places : l.initial.held.places ≤ l.held.places;
  marked : g.S.Source.mark l.source ≡ g.S.Source.mark l.initial.source;
}

abbrev pub decreases-pieces : goal.decreases-pieces
decreases-pieces g l = 4 - length l.held.bytes
