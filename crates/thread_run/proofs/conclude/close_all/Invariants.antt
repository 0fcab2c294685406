use Rattle.std.proofs.Common.{◌≡◌, ◌+◌, ◌++◌, length, map}
use Rattle.std.specs.Prelude.{vec_capacity}
use Rattle.thread_run.specs.declared.settle.Joined.{Joined}
use Rattle.thread_run.proofs.conclude.close_all.Given as goal

abbrev pub invariant-loop : goal.invariant-loop
invariant-loop g l = record {
  whole : l.sources.items ++ map (λ (s : Joined g.row.S.Denot). s.reader.source) l.settled.items ≡ map (λ (s : Joined g.row.S.Denot). s.reader.source) l.fn.settled.items;
  count : length l.settled.items + l.counter ≡ length l.fn.settled.items;
  size : length l.sources.items ≡ l.counter;
  room : vec_capacity l.sources ≡ vec_capacity l.fn.sources;
}
