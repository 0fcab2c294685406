-- The least text of a chunk is a text of it, and no text is shorter.
use Rattle.std.proofs.Common.{◌≡◌, ℕ, ◌+◌, ◌≤◌, List, ◌++◌, length, Option, refl, sym, ap, subst, arith}
use Rattle.std.specs.List.{flat_map}
use Rattle.std.proofs.lemmas.List.{length-append}
use Rattle.byteorder.specs.Endian.{little_bytes}
use Rattle.xdf_model.specs.declared.types.Shape.{Shape}
use Rattle.xdf_model.specs.Varlen.{IsVarlen, least_varlen}
use Rattle.xdf_model.specs.Sample.{IsSampleText, least_sample_text}
use Rattle.xdf_model_laws.proofs.LeastTexts.{num_small, least_is, least_shortest, least_rises, IsLeast, joined_least, sample_least}
use Rattle.chunk_grammar.specs.declared.chunk.Chunk.{Chunk}
use Rattle.chunk_grammar.specs.declared.chunk.Chunk.TheVariants.{FileHeader, StreamHeader, Samples, ClockOffset, Boundary, StreamFooter, Other}
use Rattle.chunk_grammar.specs.Chunk.{Context, shape_of, length_limit, tag_of, IsContentText, IsChunkText, texts_in, least_content_text, least_chunk_text}

pub content_least : (ctx : Context) (c : Chunk) (b : List ℕ) → IsContentText ctx c b → IsLeast (IsContentText ctx) c (least_content_text ctx c) b
content_least ctx (FileHeader doc) b r = (refl, omega (arith, ap length r))
content_least ctx (StreamHeader id doc) b r = ((r.0, r.1, r.2, r.3, refl), omega (arith, ap length r.4))
content_least ctx (Samples id samples) b r =
    let shape = r.1 in
    let texts = joined_least (IsSampleText shape) (least_sample_text shape) (sample_least shape) samples r.4 r.6 in
    let here : texts_in (shape_of ctx id) samples ≡ flat_map (least_sample_text shape) samples = ap (λ (o : Option Shape). texts_in o samples) r.2 in
    let count = length samples in
    let id_text = little_bytes 4 id in
    let long : length (id_text ++ least_varlen count ++ flat_map (least_sample_text shape) samples) ≤ length b = omega (arith, ap length r.7, length-append (id_text ++ least_varlen count) (flat_map (least_sample_text shape) samples), length-append id_text (least_varlen count), length-append (id_text ++ r.3) r.4, length-append id_text r.3, least_shortest count r.3 r.5, texts.1) in (
      (r.0, shape, r.2, least_varlen count, flat_map (least_sample_text shape) samples, least_is count (num_small count r.3 r.5), texts.0, ap (λ (t : List ℕ). id_text ++ least_varlen count ++ t) here),
      subst (λ (t : List ℕ). length (id_text ++ least_varlen count ++ t) ≤ length b) (sym here) long,
    )
content_least ctx (ClockOffset id time offset) b r = ((r.0, r.1, r.2, refl), omega (arith, ap length r.3))
content_least ctx Boundary b r = (refl, omega (arith, ap length r))
content_least ctx (StreamFooter id doc) b r = ((r.0, r.1, r.2, refl), omega (arith, ap length r.3))
content_least ctx (Other tag body) b r = ((r.0, r.1, refl), omega (arith, ap length r.2))

pub content_limit : (ctx : Context) (c : Chunk) (b : List ℕ) → IsChunkText ctx c b → 2 + length (least_content_text ctx c) ≤ length_limit
content_limit ctx c b r = let k = content_least ctx c r.content r.kind in omega (arith, k.1, r.limit)

pub chunk_least : (ctx : Context) (c : Chunk) (b : List ℕ) → IsChunkText ctx c b → IsLeast (IsChunkText ctx) c (least_chunk_text ctx c) b
unfolding least_chunk_text
chunk_least ctx c b r =
    let k = content_least ctx c r.content r.kind in
    let content = least_content_text ctx c in
    let n = 2 + length content in
    let limit : n ≤ length_limit = omega (arith, k.1, r.limit) in
    let num : IsVarlen n (least_varlen n) = least_is n (omega arith) in
    let tag = little_bytes 2 (tag_of c) in
    let shorter : length (least_varlen n) ≤ length r.len = omega (arith, least_rises n (2 + length r.content) (omega (arith, k.1)), least_shortest (2 + length r.content) r.len r.number) in (
      record { len = least_varlen n; content = content; number = num; limit = limit; kind = k.0; whole = refl },
      omega (arith, ap length r.whole, length-append (least_varlen n ++ tag) content, length-append (least_varlen n) tag, length-append (r.len ++ tag) r.content, length-append r.len tag, k.1, shorter),
    )
