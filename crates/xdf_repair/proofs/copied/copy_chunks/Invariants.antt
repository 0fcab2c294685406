use Rattle.std.proofs.Common.{◌≡◌, ◌≤◌, ◌-◌, false, None, length, take}
use Rattle.file_reader.specs.FileInlet.{outlook}
use Rattle.xdf_repair.specs.Copying.{IsGathered}
use Rattle.xdf_repair.proofs.copied.copy_chunks.Given as goal

abbrev pub invariant-chunks : goal.invariant-chunks
invariant-chunks g l = record {
  gathered : IsGathered (g.S.Source.left l.fn.reader.source) (g.S.Source.left l.reader.source) (g.K.Sink.held l.fn.sink) (g.K.Sink.held l.sink) l.reader.file l.chunks l.bytes (take l.waiting l.room);
  within : l.waiting ≤ length l.room;
  goes : (outlook l.reader.file).is_over ≡ false;
  limit : l.reader.file.byte_limit ≡ l.fn.reader.file.byte_limit;
  skipped : l.reader.skipped ≡ None;
  read_quiet : g.S.Source.faults l.reader.source ≡ g.S.Source.faults l.fn.reader.source;
  write_quiet : g.K.Sink.write_faults l.sink ≡ g.K.Sink.write_faults l.fn.sink;
  marked : g.S.Source.mark l.reader.source ≡ g.S.Source.mark l.fn.reader.source;
  rest : g.K.Sink.rest l.sink ≡ g.K.Sink.rest l.fn.sink;
}

abbrev pub decreases-chunks : goal.decreases-chunks
decreases-chunks g l = l.reader.file.byte_limit - l.reader.file.place
