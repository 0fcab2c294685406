use Rattle.std.proofs.Common.{length, ◌-◌, ◌≡◌, ◌≤◌, take}
use Rattle.std.specs.Io.KnownBytes.{Appends}
use Rattle.chunk_encoder.proofs.write_all.write_all_of.Given as goal

abbrev pub invariant-loop-went : goal.invariant-loop-went
invariant-loop-went g l = record {
  within : l.went ≤ length l.bytes;
  held : Appends (g.K.Sink.held l.initial.sink) (g.K.Sink.held l.sink) (take l.went l.bytes);
  quiet : g.K.Sink.write_faults l.sink ≡ g.K.Sink.write_faults l.initial.sink;
  rest : g.K.Sink.rest l.sink ≡ g.K.Sink.rest l.initial.sink;
}

abbrev pub decreases-loop-went : goal.decreases-loop-went
decreases-loop-went g l = length l.bytes - l.went
