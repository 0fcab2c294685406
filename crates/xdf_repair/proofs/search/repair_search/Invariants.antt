use Rattle.std.proofs.Common.{◌≡◌, ◌≤◌, ◌-◌, None, length, take}
use Rattle.xdf_repair.specs.Searching.{AreGathered}
use Rattle.xdf_repair.proofs.search.repair_search.Given as goal

abbrev pub invariant-parts : goal.invariant-parts
invariant-parts g l = record {
  gathered : AreGathered (g.S.Source.left l.fn.salvager.source) (g.S.Source.left l.salvager.source) (g.K.Sink.held l.fn.sink) (g.K.Sink.held l.sink) l.salvager.ended l.salvager.file l.chunks l.bytes l.skipped (take l.waiting l.room);
  within : l.waiting ≤ length l.room;
  goes : l.salvager.end ≡ None;
  limit : l.salvager.file.byte_limit ≡ l.fn.salvager.file.byte_limit;
  read_quiet : g.S.Source.faults l.salvager.source ≡ g.S.Source.faults l.fn.salvager.source;
  write_quiet : g.K.Sink.write_faults l.sink ≡ g.K.Sink.write_faults l.fn.sink;
  marked : g.S.Source.mark l.salvager.source ≡ g.S.Source.mark l.fn.salvager.source;
  rest : g.K.Sink.rest l.sink ≡ g.K.Sink.rest l.fn.sink;
}

abbrev pub decreases-parts : goal.decreases-parts
decreases-parts g l = l.salvager.file.byte_limit - l.salvager.file.place
