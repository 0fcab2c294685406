use Rattle.std.proofs.Common.{length, ◌-◌, ◌≤◌, take}
use Rattle.std.specs.Io.KnownBytes.{Appends}
use Rattle.real_dock.proofs.said.write_whole.Given as goal

abbrev pub invariant-loop-went : goal.invariant-loop-went
invariant-loop-went g l = record {
  within : l.went ≤ length l.bytes;
  written : Appends (g.W.Write.contents l.initial.out) (g.W.Write.contents l.out) (take l.went l.bytes);
}

abbrev pub decreases-loop-went : goal.decreases-loop-went
decreases-loop-went g l = length l.bytes - l.went
