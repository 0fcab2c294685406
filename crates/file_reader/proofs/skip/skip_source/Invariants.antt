use Rattle.std.proofs.Common.{◌+◌, ◌-◌, ◌≡◌, ◌≤◌}
use Rattle.file_reader.proofs.Ahead.{Skipping}
use Rattle.file_reader.proofs.skip.skip_source.Given as goal

abbrev pub invariant-loop-size : goal.invariant-loop-size
invariant-loop-size g l = record {
  skipping : Skipping (g.S.Source.left l.initial.source) (g.S.Source.left l.source) l.fn.taken l.size;
  within : l.size - l.fn.taken ≤ l.limit + 1 - l.fn.taken;
  quiet : g.S.Source.faults l.source ≡ g.S.Source.faults l.initial.source;
  marked : g.S.Source.mark l.source ≡ g.S.Source.mark l.initial.source;
}

abbrev pub decreases-loop-size : goal.decreases-loop-size
decreases-loop-size g l = l.limit + 1 - l.size
