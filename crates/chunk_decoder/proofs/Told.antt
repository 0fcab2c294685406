-- What a call tells of what stands there.
use Rattle.std.proofs.Common.{◌≡◌, ℕ, zero, suc, ◌-◌, ◌+◌, ◌≤◌, Bool, true, false, cond, ltb, IsTrue, List, ◌++◌, length, take, drop, Ok, Err, sym, ap, ◌∙◌, subst, arith, inl, inr, ◌⊎◌, refl}
use Rattle.std.proofs.lemmas.Bool.{ltb-false}
use Rattle.std.proofs.lemmas.List.{length-append, length-take}
use Rattle.byteorder.specs.Endian.{little_bytes, little_number}
use Rattle.xdf_model.specs.declared.types.Why.{Why}
use Rattle.xdf_model.specs.declared.types.Why.TheVariants as why
use Rattle.xdf_model.specs.declared.types.NumRead.{NumRead}
use Rattle.xdf_model.specs.declared.types.NumRead.TheVariants as num
use Rattle.xdf_model.specs.Varlen.{IsVarlen, is_width, varlen_at}
use Rattle.xdf_model.specs.Reading.{outside, wrong}
use Rattle.xdf_model_laws.proofs.Bytes.{IsBytes, length-little_bytes}
use Rattle.xdf_model_laws.proofs.Readers.{num_sound}
use Rattle.chunk_grammar.specs.declared.chunk.Chunk.{Chunk}
use Rattle.chunk_grammar.specs.Chunk.{Context, IsChunkText, length_limit, tag_of}
use Rattle.chunk_grammar.specs.Standing.{Judged, whole, torn, bad, answer_of, content_at, standing_from, standing_at}
use Rattle.chunk_laws.proofs.Places.{at_exact, at_complete}
use Rattle.chunk_decoder.specs.declared.place.Step.{Step}
use Rattle.chunk_decoder.specs.declared.place.Step.TheVariants.{Whole, Torn, Bad, Memory}
use Rattle.chunk_decoder.specs.Answers.{Answers}
use Rattle.chunk_decoder.specs.declared.view.ChunkView.{ChunkView}
use Rattle.chunk_decoder.specs.declared.place.Viewed.{Viewed}
use Rattle.chunk_decoder.specs.declared.place.Viewed.TheVariants as view
use Rattle.chunk_decoder.specs.Viewed.{chunk_in, standing_of}

pub is_whole : (ctx : Context) (b : List ℕ) (r : Step) → IsBytes b → Answers r (standing_at ctx b) → (c : Chunk) (used : ℕ) → r ≡ Whole c used
    → (used ≤ length b) × IsChunkText ctx c (take used b)
is_whole ctx b r h told c used e =
    let stands : standing_at ctx b ≡ whole c used = subst (λ (t : Step). Answers t (standing_at ctx b)) e told in
    (at_exact ctx b c used h).0 stands

whole_is : (c d : Chunk) (m n : ℕ) → whole c m ≡ whole d n → Whole c m ≡ Whole d n
whole_is c d m n e =
    let chunk : c ≡ d = cc in
    let used : m ≡ n = cc in
    ap (λ (v : Chunk). Whole v m) chunk ∙ ap (Whole d) used

pub is_found : (ctx : Context) (b : List ℕ) (r : Step) → Answers r (standing_at ctx b) → (c : Chunk) (x rest : List ℕ) → IsChunkText ctx c x → b ≡ x ++ rest
    → (r ≡ Memory) ⊎ (r ≡ Whole c (length x))
is_found ctx b (Whole d used) told c x rest is e = inr (whole_is d c used (length x) (sym told ∙ ap (standing_at ctx) e ∙ at_complete ctx c x rest is))
is_found ctx b Torn told c x rest is e =
    let same : torn ≡ whole c (length x) = sym told ∙ ap (standing_at ctx) e ∙ at_complete ctx c x rest is in absurd cc
is_found ctx b (Bad place reason) told c x rest is e =
    let same : bad place reason ≡ whole c (length x) = sym told ∙ ap (standing_at ctx) e ∙ at_complete ctx c x rest is in absurd cc
is_found ctx b Memory told c x rest is e = inl refl

-- ---- A text has four bytes at least.

width_above : (w : ℕ) → IsTrue (is_width w) → 1 ≤ w
width_above zero t = let never : false ≡ true = t in absurd cc
width_above (suc w) t = omega arith

length-varlen : (n : ℕ) (b : List ℕ) → IsVarlen n b → 2 ≤ length b
length-varlen n b r =
    let above : 1 ≤ r.width = width_above r.width r.width_is_one in
    omega (arith, ap length r.text, length-little_bytes r.width n)

length-text : (ctx : Context) (c : Chunk) (b : List ℕ) → IsChunkText ctx c b → 4 ≤ length b
length-text ctx c b r =
    let tag = little_bytes 2 (tag_of c) in
    let front : 2 ≤ length r.len = length-varlen (2 + length r.content) r.len r.number in
    omega (arith, ap length r.whole, length-append (r.len ++ tag) r.content, length-append r.len tag, length-little_bytes 2 (tag_of c))

text_sized : (ctx : Context) (c : Chunk) (b : List ℕ) (used : ℕ) → (used ≤ length b) × IsChunkText ctx c (take used b) → (4 ≤ used) × (used ≤ length b)
text_sized ctx c b used text =
    let least : 4 ≤ length (take used b) = length-text ctx c (take used b) text.1 in
    (omega (arith, text.0, length-take used b), text.0)

pub is_sized : (ctx : Context) (b : List ℕ) (r : Step) → IsBytes b → Answers r (standing_at ctx b) → (c : Chunk) (used : ℕ) → r ≡ Whole c used
    → (4 ≤ used) × (used ≤ length b)
is_sized ctx b r h told c used e = text_sized ctx c b used (is_whole ctx b r h told c used e)

-- ---- A bad place is within the bytes.

answer_within : (end : ℕ) (j : Judged) (place : ℕ) (reason : Why) → answer_of end j ≡ bad place reason → place ≤ end
answer_within end (Ok c) place reason e = absurd cc
answer_within end (Err outside) place reason e = absurd cc
answer_within end (Err (wrong left other)) place reason e =
    let same : end - left ≡ place = cc in
    omega arith

chunk_within : (little much few : Bool) (end : ℕ) (j : Judged) (place : ℕ) (reason : Why) → cond little (bad 0 why.LengthUnderTwo) (cond much (bad 0 why.TooLong) (cond few torn (answer_of end j))) ≡ bad place reason
    → (place ≡ 0) ⊎ ((few ≡ false) × (place ≤ end))
chunk_within true much few end j place reason e = inl cc
chunk_within false true few end j place reason e = inl cc
chunk_within false false true end j place reason e = absurd cc
chunk_within false false false end j place reason e = inr (refl, answer_within end j place reason e)

from_within : (ctx : Context) (b : List ℕ) (r : NumRead) → IsBytes b → varlen_at b ≡ r → (place : ℕ) (reason : Why) → standing_from ctx b r ≡ bad place reason → place ≤ length b
from_within ctx b (num.Read n used) h front place reason e =
    let k = num_sound b n used h front in
    let rest : List ℕ = drop used b in
    elim (chunk_within (ltb n 2) (ltb length_limit n) (ltb (length rest) n) (used + n) (content_at ctx (little_number 2 rest) (take (n - 2) (drop 2 rest))) place reason e) [
      | inl first ↦ omega (arith, first)
      | inr behind ↦
          let long : n ≤ length rest = ltb-false _ _ behind.0 in
          omega (arith, behind.1, k.2, ap length k.3, length-append k.0 rest)
    ]
from_within ctx b num.Short h front place reason e = absurd cc
from_within ctx b (num.BadWidth w) h front place reason e =
    let first : 0 ≡ place = cc in
    omega arith

standing_within : (ctx : Context) (b : List ℕ) → IsBytes b → (place : ℕ) (reason : Why) → standing_at ctx b ≡ bad place reason → place ≤ length b
unfolding standing_at
standing_within ctx b h place reason e = from_within ctx b (varlen_at b) h refl place reason e

pub is_placed : (ctx : Context) (b : List ℕ) (r : Step) → IsBytes b → Answers r (standing_at ctx b) → (place : ℕ) (reason : Why) → r ≡ Bad place reason → place ≤ length b
is_placed ctx b r h told place reason e = standing_within ctx b h place reason (subst (λ (t : Step). Answers t (standing_at ctx b)) e told)

-- ---- the same of a chunk where it lies

pub view_whole : (ctx : Context) (b : List ℕ) (r : Viewed) → IsBytes b → standing_at ctx b ≡ standing_of r → (c : ChunkView) (used : ℕ) → r ≡ view.Whole c used
    → (used ≤ length b) × IsChunkText ctx (chunk_in c) (take used b)
view_whole ctx b r h told c used e = (at_exact ctx b (chunk_in c) used h).0 (told ∙ ap standing_of e)

pub view_placed : (ctx : Context) (b : List ℕ) (r : Viewed) → IsBytes b → standing_at ctx b ≡ standing_of r → (place : ℕ) (reason : Why) → r ≡ view.Bad place reason → place ≤ length b
view_placed ctx b r h told place reason e = standing_within ctx b h place reason (told ∙ ap standing_of e)

pub view_sized : (ctx : Context) (b : List ℕ) (r : Viewed) → IsBytes b → standing_at ctx b ≡ standing_of r → (c : ChunkView) (used : ℕ) → r ≡ view.Whole c used
    → (4 ≤ used) × (used ≤ length b)
view_sized ctx b r h told c used e = text_sized ctx (chunk_in c) b used (view_whole ctx b r h told c used e)
