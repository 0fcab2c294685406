use Rattle.std.proofs.Common.{◌≡◌, ◌+◌, ◌≤◌, length}
use Rattle.piece_reader.specs.Steps.{Begun}
use Rattle.piece_reader.proofs.Ending.{fresh}
use Rattle.feed_samples.specs.Inlet.{outlook}
use Rattle.thread_run.proofs.work.inlet_work.Given as goal

abbrev pub invariant-loop : goal.invariant-loop
invariant-loop g l = record {
  begun : Begun (fresh (outlook l.fn.reader.inlet).coming) (outlook l.reader.inlet) (g.S.Source.left l.fn.reader.source) (g.S.Source.left l.reader.source) l.tail.puts;
  marked : g.S.Source.mark l.reader.source ≡ g.S.Source.mark l.fn.reader.source;
  quiet : g.S.Source.faults l.reader.source ≡ g.S.Source.faults l.fn.reader.source;
  shape : l.reader.inlet.shape ≡ l.fn.reader.inlet.shape;
  limit : l.reader.inlet.byte_limit ≡ l.fn.reader.inlet.byte_limit;
  received : l.reader.inlet.received ≡ length l.tail.puts;
  bounded : l.reader.inlet.received ≤ l.fn.reader.inlet.byte_limit;
  lane : l.tail.lane ≡ l.fn.tail.lane;
  word : l.looker.word ≡ l.fn.looker.word;
  looks : l.looker.looks ≡ l.fn.looker.looks + length l.tail.puts;
}
