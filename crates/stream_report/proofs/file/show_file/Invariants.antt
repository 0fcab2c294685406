use Rattle.std.proofs.Common.{◌≡◌, ◌-◌}
use Rattle.file_reader.specs.FileInlet.{outlook}
use Rattle.stream_report.proofs.Showing.{ShownSo}
use Rattle.stream_report.proofs.file.show_file.Given as goal

abbrev pub invariant-chunks : goal.invariant-chunks
invariant-chunks g l = record {
  shown : ShownSo (outlook l.initial.reader.file).coming l.reader.file (g.S.Source.left l.initial.reader.source) (g.S.Source.left l.reader.source) (g.L.Lines.printed l.initial.lines) (g.L.Lines.printed l.lines) l.count;
  limit : l.reader.file.byte_limit ≡ l.initial.reader.file.byte_limit;
  marked : g.S.Source.mark l.reader.source ≡ g.S.Source.mark l.initial.reader.source;
  read_quiet : g.S.Source.faults l.reader.source ≡ g.S.Source.faults l.initial.reader.source;
  quiet : g.L.Lines.print_faults l.lines ≡ g.L.Lines.print_faults l.initial.lines;
  rest : g.L.Lines.rest l.lines ≡ g.L.Lines.rest l.initial.lines;
}

abbrev pub decreases-chunks : goal.decreases-chunks
decreases-chunks g l = l.reader.file.byte_limit - l.reader.file.place
