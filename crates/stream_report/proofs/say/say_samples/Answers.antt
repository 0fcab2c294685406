use Rattle.std.proofs.Common.{rules, ℕ, List, take, map, Option, Err, ap, sym, ◌∙◌, subst}
use Rattle.std.proofs.Math.Nat.{le_of_eq}
use Rattle.std.specs.Io.KnownBytes.{Appends}
use Rattle.std.proofs.lemmas.Result.{err_from_is_err_and}
use Rattle.report_model.specs.Lines.{sample_line}
use Rattle.report_model.specs.Shown.{printed_lines}
use Rattle.stream_report.specs.declared.fault.SayFault.{SayFault}
use Rattle.stream_report.proofs.Said.{rose_later}
use Rattle.stream_report.proofs.Walked.{one_said, front_said_of, some_said}
use Rattle.stream_report.proofs.say.say_samples.Goals as goal

pub loop-sample-preserved : goal.loop-sample-preserved
loop-sample-preserved g c = record {
  said = one_said (sample_line c.args.format) _ _ _ c.args.samples.now _ _ c.in-Some.sample c.loop-sample.invariant.said c.in-Some.ensures.gives c.in_ok-say_sample.ensures.said;
  quiet = search rules;
  rest = search rules;
}

pub returns-in_err-say_sample-clause-print : goal.returns-in_err-say_sample-clause-print
returns-in_err-say_sample-clause-print g c = λ is.
    let exit = err_from_is_err_and c.from_residual.result c.from_residual.ensures.1 in
    let said = c.in_err-say_sample.ensures.print (ap (λ (e : SayFault). Err e) (sym exit.2) ∙ sym exit.1 ∙ is) in (
      front_said_of (sample_line c.args.format) _ _ _ c.args.samples.now _ _ c.in-Some.sample c.loop-sample.invariant.said c.in-Some.ensures.gives said.0,
      rose_later _ _ _ (le_of_eq (sym c.loop-sample.invariant.quiet)) said.1,
    )

pub returns-in_err-say_sample-clause-memory : goal.returns-in_err-say_sample-clause-memory
returns-in_err-say_sample-clause-memory g c = λ is.
    let exit = err_from_is_err_and c.from_residual.result c.from_residual.ensures.1 in
    let same = c.in_err-say_sample.ensures.memory (ap (λ (e : SayFault). Err e) (sym exit.2) ∙ sym exit.1 ∙ is) in
    let P : Option (List ℕ) → Type 0 = λ b. (n : ℕ) × Appends (g.L.Lines.printed c.args.lines.now) b (printed_lines (take n (map (sample_line c.args.format) c.args.samples.now))) in
    subst P (sym same) (some_said (sample_line c.args.format) _ _ c.args.samples.now c.loop-sample.walk c.loop-sample.invariant.said)
