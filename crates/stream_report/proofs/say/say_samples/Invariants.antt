use Rattle.std.proofs.Common.{◌≡◌, length}
use Rattle.report_model.specs.Lines.{sample_line}
use Rattle.stream_report.proofs.Walked.{IsSaid}
use Rattle.stream_report.proofs.say.say_samples.Given as goal

abbrev pub invariant-loop-sample : goal.invariant-loop-sample
invariant-loop-sample g l = record {
  said : IsSaid (sample_line l.format) (g.L.Lines.printed l.initial.lines) (g.L.Lines.printed l.lines) l.walk l.samples;
  quiet : g.L.Lines.print_faults l.lines ≡ g.L.Lines.print_faults l.initial.lines;
  rest : g.L.Lines.rest l.lines ≡ g.L.Lines.rest l.initial.lines;
}

abbrev pub decreases-loop-sample : goal.decreases-loop-sample
decreases-loop-sample g l = length l.walk
