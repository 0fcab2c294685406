-- The chunks at the front of a file, and the rest.
use Rattle.std.proofs.Common.{◌≡◌, ℕ, zero, suc, ◌+◌, ◌<◌, List, [], ◌∷◌, ◌++◌, length, drop, refl, sym, ap, ◌∙◌, subst, append_assoc, arith, inl, inr}
use Rattle.std.proofs.lemmas.List.{length-append, drop_at}
use Rattle.byteorder.specs.Endian.{little_bytes}
use Rattle.xdf_model.specs.Varlen.{varlen_at}
use Rattle.xdf_model_laws.proofs.Bytes.{IsBytes, IsBytes-rest, length-little_bytes}
use Rattle.chunk_grammar.specs.declared.chunk.Chunk.{Chunk}
use Rattle.chunk_grammar.specs.Chunk.{Context, context_after, tag_of, IsChunkText, AreChunkTexts, magic}
use Rattle.chunk_grammar.specs.Standing.{Standing, whole, torn, bad, standing_at, IsWhole, context_after_all, IsFront}
use Rattle.chunk_laws.proofs.Places.{at_sound, at_complete, one_reading}
use Rattle.file_model.specs.Cut.{IsEndOrTorn}

pub at_empty : (ctx : Context) → standing_at ctx [] ≡ torn
unfolding standing_at varlen_at
at_empty ctx = refl

pub not_whole : (s : Standing) → s ≡ torn → IsWhole s → ⊥
not_whole s e w = subst IsWhole e w

pub end_not_whole : (ctx : Context) (rest : List ℕ) → IsEndOrTorn ctx rest → IsWhole (standing_at ctx rest) → ⊥
end_not_whole ctx rest e =
    elim e [
      | inl empty ↦ not_whole (standing_at ctx rest) (ap (standing_at ctx) empty ∙ at_empty ctx)
      | inr is_torn ↦ not_whole (standing_at ctx rest) is_torn
    ]

is_whole_text : (ctx : Context) (c : Chunk) (x rest all : List ℕ) → IsChunkText ctx c x → all ≡ x ++ rest → IsWhole (standing_at ctx all)
is_whole_text ctx c x rest all r e = subst IsWhole (sym (ap (standing_at ctx) e ∙ at_complete ctx c x rest r)) tt

-- two readings of the same bytes
pub one_chain : (ctx : Context) (cs ds : List Chunk) (x y r s : List ℕ) → AreChunkTexts ctx cs x → AreChunkTexts ctx ds y → x ++ r ≡ y ++ s
    → (IsWhole (standing_at (context_after_all ctx cs) r) → ⊥) → (IsWhole (standing_at (context_after_all ctx ds) s) → ⊥) → (cs ≡ ds) × (r ≡ s)
one_chain ctx [] [] x y r s a b e m n = (refl, sym (ap (λ (t : List ℕ). t ++ r) a) ∙ e ∙ ap (λ (t : List ℕ). t ++ s) b)
one_chain ctx [] (d ∷ ds) x y r s a b e m n =
    let parts : r ≡ b.0 ++ (b.1 ++ s) = sym (ap (λ (t : List ℕ). t ++ r) a) ∙ e ∙ ap (λ (t : List ℕ). t ++ s) b.4 ∙ append_assoc b.0 b.1 s in
    absurd (m (is_whole_text ctx d b.0 (b.1 ++ s) r b.2 parts))
one_chain ctx (c ∷ cs) [] x y r s a b e m n =
    let parts : s ≡ a.0 ++ (a.1 ++ r) = sym (ap (λ (t : List ℕ). t ++ s) b) ∙ sym e ∙ ap (λ (t : List ℕ). t ++ r) a.4 ∙ append_assoc a.0 a.1 r in
    absurd (n (is_whole_text ctx c a.0 (a.1 ++ r) s a.2 parts))
one_chain ctx (c ∷ cs) (d ∷ ds) x y r s a b e m n =
    let parts : a.0 ++ (a.1 ++ r) ≡ b.0 ++ (b.1 ++ s) = sym (append_assoc a.0 a.1 r) ∙ sym (ap (λ (t : List ℕ). t ++ r) a.4) ∙ e ∙ ap (λ (t : List ℕ). t ++ s) b.4 ∙ append_assoc b.0 b.1 s in
    let one = one_reading ctx c d a.0 b.0 (a.1 ++ r) (b.1 ++ s) a.2 b.2 parts in
    let behind : a.1 ++ r ≡ b.1 ++ s = sym (drop_at a.0 (a.1 ++ r) (length a.0) refl) ∙ ap (drop (length a.0)) parts ∙ drop_at b.0 (b.1 ++ s) (length a.0) (sym (ap length one.1)) in
    let more : AreChunkTexts (context_after ctx c) ds b.1 = subst (λ (q : Chunk). AreChunkTexts (context_after ctx q) ds b.1) (sym one.0) b.3 in
    let ends : IsWhole (standing_at (context_after_all (context_after ctx c) ds) s) → ⊥ = subst (λ (q : Chunk). IsWhole (standing_at (context_after_all (context_after ctx q) ds) s) → ⊥) (sym one.0) n in
    let k = one_chain (context_after ctx c) cs ds a.1 b.1 r s a.3 more behind m ends in
    (ap (λ (q : Chunk). q ∷ cs) one.0 ∙ ap (λ (l : List Chunk). d ∷ l) k.0, k.1)

-- what stands behind the magic
pub behind_magic : (b x y r s : List ℕ) → b ≡ magic ++ x ++ r → b ≡ magic ++ y ++ s → x ++ r ≡ y ++ s
behind_magic b x y r s e f =
    let parts : magic ++ (x ++ r) ≡ magic ++ (y ++ s) = sym (append_assoc magic x r) ∙ sym e ∙ f ∙ append_assoc magic y s in
    sym (drop_at magic (x ++ r) 4 refl) ∙ ap (drop 4) parts ∙ drop_at magic (y ++ s) 4 refl

pub one_front : (b : List ℕ) (cs ds : List Chunk) (r s : List ℕ) → IsFront b cs r → IsFront b ds s → (cs ≡ ds) × (r ≡ s)
one_front b cs ds r s f g = one_chain [] cs ds f.text g.text r s f.chunks g.chunks (behind_magic b f.text g.text r s f.whole g.whole) f.ends g.ends

-- the whole chunks at the front of some bytes
record Chain (ctx : Context) (b : List ℕ) : Type 0 where
  pub cs : List Chunk
  pub text : List ℕ
  pub rest : List ℕ
  pub chunks : AreChunkTexts ctx cs text
  pub parts : b ≡ text ++ rest
  pub ends : IsWhole (standing_at (context_after_all ctx cs) rest) → ⊥

no_chunk : (ctx : Context) (b : List ℕ) → (IsWhole (standing_at ctx b) → ⊥) → Chain ctx b
no_chunk ctx b h = record { cs = []; text = []; rest = b; chunks = refl; parts = refl; ends = h }

one_chunk : (ctx : Context) (c : Chunk) (b x y : List ℕ) → IsChunkText ctx c x → b ≡ x ++ y → Chain (context_after ctx c) y → Chain ctx b
one_chunk ctx c b x y r e k = record {
  cs = c ∷ k.cs;
  text = x ++ k.text;
  rest = k.rest;
  chunks = (x, k.text, r, k.chunks, refl);
  parts = e ∙ ap (λ (t : List ℕ). x ++ t) k.parts ∙ sym (append_assoc x k.text k.rest);
  ends = k.ends;
}

-- a text takes a byte at least
pub text_takes : (ctx : Context) (c : Chunk) (x : List ℕ) → IsChunkText ctx c x → 0 < length x
text_takes ctx c x r =
    let tag = little_bytes 2 (tag_of c) in
    omega (arith, ap length r.whole, length-append (r.len ++ tag) r.content, length-append r.len tag, length-little_bytes 2 (tag_of c))

chain_of : (n : ℕ) (ctx : Context) (b : List ℕ) → IsBytes b → length b < n → Chain ctx b
chain_of zero ctx b h lt = absurd (omega arith)
chain_of (suc n) ctx b h lt =
    let go : (s : Standing) → standing_at ctx b ≡ s → Chain ctx b = λ s. elim s as (λ v. standing_at ctx b ≡ v → Chain ctx b) [
      | whole c u ↦ λ e.
          let k = at_sound ctx b c u h e in
          let shorter : length k.1 < n = omega (arith, ap length k.3, length-append k.0 k.1, text_takes ctx c k.0 k.2) in
          one_chunk ctx c b k.0 k.1 k.2 k.3 (chain_of n (context_after ctx c) k.1 (IsBytes-rest k.0 k.1 b h k.3) shorter)
      | torn ↦ λ e. no_chunk ctx b (not_whole (standing_at ctx b) e)
      | bad place reason ↦ λ e. no_chunk ctx b (λ w. let q : IsWhole (bad place reason) = subst IsWhole e w in q)
    ] in go (standing_at ctx b) refl

pub has_front : (y : List ℕ) → IsBytes y → (cs : List Chunk) × (rest : List ℕ) × IsFront (magic ++ y) cs rest
has_front y h =
    let k = chain_of (length y + 1) [] y h (omega arith) in
    (k.cs, k.rest, record { text = k.text; chunks = k.chunks; whole = ap (λ (t : List ℕ). magic ++ t) k.parts ∙ sym (append_assoc magic k.text k.rest); ends = k.ends })
