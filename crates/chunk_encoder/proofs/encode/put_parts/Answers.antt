use Rattle.std.proofs.Common.{◌≡◌, List, ℕ, ◌+◌, ◌++◌, ap, ◌∙◌, append_assoc, arith}
use Rattle.std.proofs.lemmas.Result.{on_err_weaker}
use Rattle.byteorder.specs.Endian.{little_bytes}
use Rattle.xdf_model.specs.Varlen.{least_varlen}
use Rattle.sample_values.proofs.Appending.{front_kept}
use Rattle.chunk_laws.proofs.LeastChunks.{content_limit}
use Rattle.chunk_encoder.proofs.encode.put_parts.Goals as goal

pub overflow_add-len : goal.overflow_add-len
overflow_add-len c = omega (arith, content_limit c.args.ctx.now c.args.chunk.now c.requires.0 c.requires.1)

pub overflow_add-num_size-2 : goal.overflow_add-num_size-2
overflow_add-num_size-2 c = omega (arith, content_limit c.args.ctx.now c.args.chunk.now c.requires.0 c.requires.1)

pub returns-clause-kept : goal.returns-clause-kept
returns-clause-kept c =
    let len = least_varlen (c.content_size-len.result + 2) in
    let tag = little_bytes 2 c.tag_of_chunk.result in
    let so_far : c.put_fixed.new.out.items ≡ c.args.out.now.items ++ (len ++ tag) =
    c.in_ok-put_fixed.ensures.ok ∙ ap (λ (t : List ℕ). t ++ tag) (rw c.in_ok-reserve.ensures.items at c.in_ok-put_num.ensures.ok) ∙ append_assoc c.args.out.now.items len tag in
    on_err_weaker c.put_content.result (front_kept c.args.out.now.items (len ++ tag) c.put_fixed.new.out.items c.put_content.new.out.items so_far) c.put_content.ensures.kept
