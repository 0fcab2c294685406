-- Samples cut out of bytes, and a walk that failed.
use Rattle.std.proofs.Common.{◌≡◌, ℕ, ◌+◌, ◌-◌, ◌≤◌, List, [], ◌++◌, length, take, sym, ap, ◌∙◌, arith}
use Rattle.std.proofs.lemmas.List.{take_at, append-nil, length-append}
use Rattle.xdf_model.specs.declared.types.Shape.{Shape}
use Rattle.xdf_model.specs.Reading.{Found}
use Rattle.xdf_model.specs.Sample.{Sample, samples_at}
use Rattle.xdf_model_laws.proofs.Bytes.{IsBytes}
use Rattle.xdf_model_laws.proofs.Readers.{found}
use Rattle.xdf_model_laws.proofs.Samples.{reads_samples}
use Rattle.sample_values.specs.Rest.{rest_of}
use Rattle.sample_values.specs.Raw.{listed, IsAll}
use Rattle.sample_values.proofs.Rests.{left_is}
use Rattle.sample_values.proofs.Cuts.{rest_found}

pub all_cut : (shape : Shape) (n : ℕ) (b rest : List ℕ) → IsBytes b → rest_of (samples_at shape n b) ≡ left_is rest
    → (length rest ≤ length b) × IsAll (samples_at shape n (take (length b - length rest) b)) × (samples_at shape n b ≡ found (listed (samples_at shape n (take (length b - length rest) b))) rest)
all_cut shape n b rest h e =
    let w = rest_found (samples_at shape n b) rest e in
    let s = (reads_samples shape n).sound b w.0 rest h w.1 in
    let long : length b ≡ length s.0 + length rest = ap length s.2 ∙ length-append s.0 rest in
    let own : take (length b - length rest) b ≡ s.0 ++ [] = ap (take (length b - length rest)) s.2 ∙ take_at s.0 rest (length b - length rest) (omega arith) ∙ sym (append-nil s.0) in
    let again : samples_at shape n (take (length b - length rest) b) ≡ found w.0 [] = ap (samples_at shape n) own ∙ (reads_samples shape n).complete w.0 s.0 [] s.1 in
    (omega arith, ap (rest_of {A = List Sample}) again, w.1 ∙ ap (λ (r : Found (List Sample)). found (listed r) rest) (sym again))
