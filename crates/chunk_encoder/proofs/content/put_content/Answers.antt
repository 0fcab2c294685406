use Rattle.std.proofs.Common.{◌≡◌, List, ℕ, ◌++◌, ap, sym, ◌∙◌, append_assoc}
use Rattle.std.proofs.lemmas.Result.{err_from_is_err_and}
use Rattle.byteorder.specs.Endian.{little_bytes}
use Rattle.xdf_model.specs.Varlen.{least_varlen}
use Rattle.sample_values.proofs.Appending.{front_kept}
use Rattle.chunk_encoder.proofs.Steps.{fits_all}
use Rattle.chunk_encoder.proofs.content.put_content.Goals as goal

pub put_samples-requires : goal.put_samples-requires
put_samples-requires c =
    fits_all c.args.ctx.now c.args.chunk.now c.requires.0 c.in-Samples.id c.in-Samples.samples c.in-Some.shape c.requires.1 c.in-Samples.is (sym c.shape_of.ensures ∙ c.in-Some.is)

pub returns-in_err-put_samples-in-Samples-clause-kept : goal.returns-in_err-put_samples-in-Samples-clause-kept
returns-in_err-put_samples-in-Samples-clause-kept c =
    let p = err_from_is_err_and c.from_residual-in_err-put_samples-in-Samples.result c.from_residual-in_err-put_samples-in-Samples.ensures.1 in
    let id = little_bytes 4 c.in-Samples.id in
    let count = least_varlen c.len.result in
    let so_far : c.put_num.new.out.items ≡ c.args.out.now.items ++ (id ++ count) =
    c.in_ok-put_num-in-Samples.ensures.ok ∙ ap (λ (t : List ℕ). t ++ count) c.in_ok-put_fixed-in-Samples.ensures.ok ∙ append_assoc c.args.out.now.items id count in
    rw p.1 (front_kept c.args.out.now.items (id ++ count) c.put_num.new.out.items c.put_samples.new.out.items so_far c.in_err-put_samples-in-Samples.ensures.kept)

pub returns-in_ok-put_fixed-in-ClockOffset-3-clause-ok : goal.returns-in_ok-put_fixed-in-ClockOffset-3-clause-ok
returns-in_ok-put_fixed-in-ClockOffset-3-clause-ok c =
    rw (c.in-ClockOffset.is, c.in_ok-put_fixed-in-ClockOffset-3.ensures.ok, c.in_ok-put_fixed-in-ClockOffset-2.ensures.ok, c.in_ok-put_fixed-in-ClockOffset.ensures.ok) (simp append_assoc)
