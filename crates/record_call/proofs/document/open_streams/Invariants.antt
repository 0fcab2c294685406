use Rattle.std.proofs.Common.{◌≡◌, take}
use Rattle.rec_base.specs.Asked.{AsksAll}
use Rattle.dock_calls.specs.Asking.{openings}
use Rattle.record_call.specs.Feeds.{document_name, names_of, AreMarksLeft, AreStreamsRead}
use Rattle.record_call.proofs.document.open_streams.Given as goal

abbrev pub invariant-loop-i : goal.invariant-loop-i
invariant-loop-i g l = record {
  read : AreStreamsRead (g.D.Dock.contents l.initial.dock) (g.D.Dock.contents l.dock) (take l.i l.feeds) l.streams.items;
  marks : AreMarksLeft (g.D.Dock.marks l.initial.dock) (g.D.Dock.marks l.dock) (names_of document_name (take l.i l.feeds));
  asks : AsksAll (g.D.Dock.asked l.initial.dock) (g.D.Dock.asked l.dock) (openings (names_of document_name (take l.i l.feeds)));
  quiet : g.D.Dock.open_faults l.dock ≡ g.D.Dock.open_faults l.initial.dock;
  write_faults : g.D.Sink.write_faults l.dock ≡ g.D.Sink.write_faults l.initial.dock;
  target : g.D.Dock.target l.dock ≡ g.D.Dock.target l.initial.dock;
  held : g.D.Sink.held l.dock ≡ g.D.Sink.held l.initial.dock;
  printed : g.D.Lines.printed l.dock ≡ g.D.Lines.printed l.initial.dock;
  print_faults : g.D.Lines.print_faults l.dock ≡ g.D.Lines.print_faults l.initial.dock;
}
