-- The steps of the encoder.
use Rattle.std.proofs.Common.{◌≡◌, ℕ, ◌+◌, List, ◌++◌, length, Option, Some, ap, subst, arith}
use Rattle.std.specs.List.{flat_map, AllByRecursion}
use Rattle.std.proofs.lemmas.List.{length-append}
use Rattle.xdf_model.specs.declared.types.Shape.{Shape}
use Rattle.byteorder.specs.Endian.{little_bytes}
use Rattle.byteorder.specs.Numbers.{length-bytes_low_first}
use Rattle.xdf_model.specs.Varlen.{least_width, least_varlen}
use Rattle.xdf_model.specs.Sample.{Sample, FitsShape, least_sample_text}
use Rattle.xdf_lengths.proofs.Lengths.{length-least_varlen}
use Rattle.xdf_model_laws.proofs.LeastTexts.{samples_fit}
use Rattle.chunk_grammar.specs.declared.chunk.Chunk.{Chunk}
use Rattle.chunk_grammar.specs.declared.chunk.Chunk.TheVariants.{Samples}
use Rattle.chunk_grammar.specs.Chunk.{Context, shape_of, IsContentText, texts_in, least_content_text}

-- the samples of a chunk that has a text fit the shape of their stream
pub fits_all : (ctx : Context) (chunk : Chunk) (b : List ℕ) (id : ℕ) (samples : List Sample) (shape : Shape) → IsContentText ctx chunk b → chunk ≡ Samples id samples → shape_of ctx id ≡ Some shape → AllByRecursion (FitsShape shape) samples
fits_all ctx chunk b id samples shape text is here =
    let r = subst (λ (c : Chunk). IsContentText ctx c b) is text in
    let same : r.1 ≡ shape = cc (r.2, here) in
    subst (λ (s : Shape). AllByRecursion (FitsShape s) samples) same (samples_fit r.1 samples r.4 r.6)

-- the texts of samples whose stream has a shape
pub texts_are : (ctx : Context) (id : ℕ) (samples : List Sample) (shape : Shape) → shape_of ctx id ≡ Some shape → texts_in (shape_of ctx id) samples ≡ flat_map (least_sample_text shape) samples
texts_are ctx id samples shape here = ap (λ (o : Option Shape). texts_in o samples) here

-- how long the content of samples is
pub length-samples : (ctx : Context) (chunk : Chunk) (id : ℕ) (samples : List Sample) (shape : Shape) → chunk ≡ Samples id samples → shape_of ctx id ≡ Some shape
    → length (least_content_text ctx chunk) ≡ 4 + (1 + least_width (length samples)) + length (flat_map (least_sample_text shape) samples)
length-samples ctx chunk id samples shape is here =
    let count = least_varlen (length samples) in
    omega (
      arith,
      ap (λ (c : Chunk). length (least_content_text ctx c)) is,
      ap length (texts_are ctx id samples shape here),
      length-append (little_bytes 4 id ++ count) (texts_in (shape_of ctx id) samples),
      length-append (little_bytes 4 id) count,
      length-least_varlen (length samples),
      length-bytes_low_first 0 4 id,
    )
