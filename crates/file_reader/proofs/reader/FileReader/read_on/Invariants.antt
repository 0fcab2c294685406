use Rattle.std.proofs.Common.{◌≡◌}
use Rattle.piece_reader.specs.Steps.{Carried, work}
use Rattle.file_reader.specs.FileInlet.{outlook}
use Rattle.file_reader.specs.Kept.{IsGoing}
use Rattle.file_reader.proofs.Ahead.{Took}
use Rattle.file_reader.proofs.Outlooks.{Same}
use Rattle.file_reader.proofs.reader.FileReader.read_on.Given as goal

abbrev pub invariant-pieces : goal.invariant-pieces
invariant-pieces g l = record {
  carried : Carried (outlook l.initial.self.file) (outlook l.self.file) (g.S.Source.left l.initial.self.source) (g.S.Source.left l.self.source);
  going : IsGoing l.self.file.reading;
  took : Took (g.S.Source.left l.initial.self.source) (g.S.Source.left l.self.source) l.initial.self.file.ahead l.self.file.ahead;
  skipped : l.self.skipped ≡ l.initial.self.skipped;
  same : Same l.initial.self.file l.self.file;
  quiet : g.S.Source.faults l.self.source ≡ g.S.Source.faults l.initial.self.source;
  marked : g.S.Source.mark l.self.source ≡ g.S.Source.mark l.initial.self.source;
}

abbrev pub decreases-pieces : goal.decreases-pieces
decreases-pieces g l = work l.self.file.reading
