use Rattle.std.proofs.Common.{◌≡◌, ℕ, List, sym, subst, refl}
use Rattle.xdf_model.specs.Sample.{Sample}
use Rattle.chunk_grammar.specs.declared.chunk.Chunk.TheVariants.{Samples}
use Rattle.chunk_grammar.specs.Chunk.{IsChunkText}
use Rattle.chunk_encoder.proofs.Fixtures.{text_samples, texts_have_text}
use Rattle.chunk_encoder.proofs.tests.encoded_texts.Goals as goal

pub encode_chunk-requires : goal.encode_chunk-requires
encode_chunk-requires c =
    let list : c.push_text-3.new.list ≡ text_samples = rw (c.in_ok-push_text-3.ensures, c.in_ok-push_text-2.ensures, c.in_ok-push_text.ensures, c.new-samples.ensures) refl in
    subst (λ (l : List Sample). (b : List ℕ) × IsChunkText c.args.ctx.now (Samples 1 l) b) (sym list) (texts_have_text c.args.ctx.now c.requires)
