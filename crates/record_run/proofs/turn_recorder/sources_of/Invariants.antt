use Rattle.std.proofs.Common.{◌≡◌, ◌≤◌, ◌+◌, ◌++◌, length, map}
use Rattle.std.specs.Prelude.{vec_capacity}
use Rattle.record_run.specs.Inlets.{InletView}
use Rattle.record_run.proofs.turn_recorder.sources_of.Given as goal

abbrev pub invariant-loop : goal.invariant-loop
invariant-loop g l = record {
  whole : l.sources.items ++ map (λ (x : InletView g.row.S.Denot). x.source) l.inlets.items ≡ map (λ (x : InletView g.row.S.Denot). x.source) l.fn.inlets.items;
  count : length l.inlets.items + l.counter ≡ l.count;
  size : length l.sources.items ≡ l.counter;
  room : vec_capacity l.fn.sources ≤ vec_capacity l.sources;
}
