-- A chunk whose content is spelled has a text.
use Rattle.std.proofs.Common.{◌≡◌, ℕ, ◌+◌, ◌^◌, ◌<◌, ◌≤◌, List, ◌++◌, length, Option, Some, refl, sym, ap, subst, arith}
use Rattle.std.proofs.lemmas.List.{length-append}
use Rattle.std.specs.List.{flat_map, AllByRecursion}
use Rattle.byteorder.specs.Endian.{little_bytes}
use Rattle.xdf_model.specs.declared.types.Shape.{Shape}
use Rattle.xdf_model.specs.Varlen.{least_varlen}
use Rattle.xdf_model.specs.Sample.{Sample, FitsShape, least_sample_text}
use Rattle.xdf_model_laws.proofs.LeastTexts.{least_is, least_small}
use Rattle.xdf_model_laws.proofs.Bytes.{length-little_bytes}
use Rattle.xdf_model_laws.proofs.Spelled.{samples_spelled}
use Rattle.chunk_grammar.specs.declared.chunk.Chunk.{Chunk}
use Rattle.chunk_grammar.specs.declared.chunk.Chunk.TheVariants.{Samples}
use Rattle.chunk_grammar.specs.Chunk.{Context, shape_of, length_limit, tag_of, IsContentText, IsChunkText, texts_in, least_content_text, least_chunk_text}

-- the least content of a chunk is one: then its least text is one too
pub chunk_spelled : (ctx : Context) (c : Chunk) → IsContentText ctx c (least_content_text ctx c) → 2 + length (least_content_text ctx c) ≤ length_limit → IsChunkText ctx c (least_chunk_text ctx c)
unfolding least_chunk_text
chunk_spelled ctx c kind limit =
    let content = least_content_text ctx c in
    record { len = least_varlen (2 + length content); content = content; number = least_is (2 + length content) (omega (arith, limit)); limit = limit; kind = kind; whole = refl }

-- samples that fit their stream's shape have a content
pub samples_content : (ctx : Context) (id : ℕ) (shape : Shape) (samples : List Sample) → id < 2 ^ 32 → shape_of ctx id ≡ Some shape → AllByRecursion (FitsShape shape) samples
    → length samples < 2 ^ 64 → length (flat_map (least_sample_text shape) samples) < 2 ^ 64
    → IsContentText ctx (Samples id samples) (least_content_text ctx (Samples id samples))
samples_content ctx id shape samples small known fits few short =
    let texts = flat_map (least_sample_text shape) samples in
    let here : texts_in (shape_of ctx id) samples ≡ texts = ap (λ (o : Option Shape). texts_in o samples) known in
    (small, shape, known, least_varlen (length samples), texts, least_is (length samples) few, samples_spelled shape samples fits short, ap (λ (t : List ℕ). little_bytes 4 id ++ least_varlen (length samples) ++ t) here)

-- a chunk's least text has at most 11 bytes beside its content
pub chunk_short : (ctx : Context) (c : Chunk) → length (least_chunk_text ctx c) ≤ 11 + length (least_content_text ctx c)
unfolding least_chunk_text
chunk_short ctx c =
    let content = least_content_text ctx c in
    let len = least_varlen (2 + length content) in
    let tag = little_bytes 2 (tag_of c) in
    omega (arith, length-append (len ++ tag) content, length-append len tag, length-little_bytes 2 (tag_of c), least_small (2 + length content))

-- the content of a Samples chunk has at most 13 bytes beside its samples
pub samples_short : (ctx : Context) (id : ℕ) (shape : Shape) (samples : List Sample) → shape_of ctx id ≡ Some shape
    → length (least_content_text ctx (Samples id samples)) ≤ 13 + length (flat_map (least_sample_text shape) samples)
samples_short ctx id shape samples known =
    let texts = flat_map (least_sample_text shape) samples in
    let count = least_varlen (length samples) in
    let id_text = little_bytes 4 id in
    let here : texts_in (shape_of ctx id) samples ≡ texts = ap (λ (o : Option Shape). texts_in o samples) known in
    let short : length (id_text ++ count ++ texts) ≤ 13 + length texts = omega (arith, length-append (id_text ++ count) texts, length-append id_text count, length-little_bytes 4 id, least_small (length samples)) in
    subst (λ (t : List ℕ). length (id_text ++ count ++ t) ≤ 13 + length texts) (sym here) short
