use Rattle.std.proofs.Common.{◌≡◌, ◌+◌, ◌-◌, ◌*◌, length}
use Rattle.std.specs.Prelude.{IsTrue, ◌⊎◌, if◌then◌else◌}
use Rattle.std.specs.Io.KnownBytes.{IsAtEnd}
use Rattle.boundary_search.proofs.Searching.{IsSearching}
use Rattle.boundary_search.proofs.search.skip_range.Given as goal

abbrev pub invariant-pieces : goal.invariant-pieces
invariant-pieces g l = record {
  searching : IsSearching (g.S.Source.left l.fn.reader.source) (g.S.Source.left l.reader.source) l.fn.ended l.ended l.fn.reader.file l.reader.file;
  closed : IsTrue l.ended → IsTrue l.fn.ended ⊎ IsAtEnd (g.S.Source.left l.reader.source);
  still : IsTrue l.fn.ended → l.reader.source ≡ l.fn.reader.source;
  quiet : g.S.Source.faults l.reader.source ≡ g.S.Source.faults l.fn.reader.source;
  marked : g.S.Source.mark l.reader.source ≡ g.S.Source.mark l.fn.reader.source;
}

abbrev pub decreases-pieces : goal.decreases-pieces
decreases-pieces g l = 2 * (l.reader.file.byte_limit + 1 - (l.reader.file.place + length l.reader.file.ahead)) + (if l.ended then 0 else 1)
