-- Chunks before and behind a range that is skipped.
use Rattle.std.proofs.Common.{◌≡◌, ℕ, ◌+◌, ◌<◌, true, List, [], ◌∷◌, ◌++◌, length, refl, sym, ap, ◌∙◌, subst, append_assoc, arith, inl}
use Rattle.std.proofs.lemmas.List.{append-nil, length-append}
use Rattle.chunk_grammar.specs.declared.chunk.Chunk.{Chunk}
use Rattle.chunk_grammar.specs.Chunk.{Context, context_after, AreChunkTexts, boundary_bytes, magic}
use Rattle.chunk_grammar.specs.Standing.{standing_at, IsWhole, context_after_all}
use Rattle.boundary_search.specs.Parts.{Part, skipped, EndsWithFirst, IsSkipped, AreFirstParts, AreSalvageParts, chunk_parts, kept_chunks, kept_bytes, skipped_size}

-- chunks before other parts
chunks_first : (ctx : Context) (cs : List Chunk) (x y : List ℕ) (are : AreChunkTexts ctx cs x) (parts : List Part) → AreFirstParts true (context_after_all ctx cs) parts y []
    → AreFirstParts true ctx (chunk_parts ctx cs x are ++ parts) (x ++ y) []
chunks_first ctx [] x y are parts h = subst (λ (t : List ℕ). AreFirstParts true ctx parts (t ++ y) []) (sym are) h
chunks_first ctx (c ∷ cs) x y are parts h =
    (are.1 ++ y, ap (λ (t : List ℕ). t ++ y) are.4 ∙ append_assoc are.0 are.1 y, are.2, chunks_first (context_after ctx c) cs are.1 y are.3 parts h)

chunks_kept : (ctx : Context) (cs : List Chunk) (x : List ℕ) (are : AreChunkTexts ctx cs x) (parts : List Part) → kept_chunks (chunk_parts ctx cs x are ++ parts) ≡ cs ++ kept_chunks parts
chunks_kept ctx [] x are parts = refl
chunks_kept ctx (c ∷ cs) x are parts = ap (λ (l : List Chunk). c ∷ l) (chunks_kept (context_after ctx c) cs are.1 are.3 parts)

bytes_kept : (ctx : Context) (cs : List Chunk) (x : List ℕ) (are : AreChunkTexts ctx cs x) (parts : List Part) → kept_bytes (chunk_parts ctx cs x are ++ parts) ≡ x ++ kept_bytes parts
bytes_kept ctx [] x are parts = ap (λ (t : List ℕ). t ++ kept_bytes parts) (sym are)
bytes_kept ctx (c ∷ cs) x are parts =
    ap (λ (t : List ℕ). are.0 ++ t) (bytes_kept (context_after ctx c) cs are.1 are.3 parts) ∙ sym (append_assoc are.0 are.1 (kept_bytes parts)) ∙ ap (λ (t : List ℕ). t ++ kept_bytes parts) (sym are.4)

none_skipped : (ctx : Context) (cs : List Chunk) (x : List ℕ) (are : AreChunkTexts ctx cs x) (parts : List Part) → skipped_size (chunk_parts ctx cs x are ++ parts) ≡ skipped_size parts
none_skipped ctx [] x are parts = refl
none_skipped ctx (c ∷ cs) x are parts = none_skipped (context_after ctx c) cs are.1 are.3 parts

-- chunks and nothing behind them
record AreAllKept (ctx : Context) (cs : List Chunk) (x : List ℕ) (are : AreChunkTexts ctx cs x) : Type 0 where
  pub all : AreFirstParts true ctx (chunk_parts ctx cs x are) x []
  pub chunks : kept_chunks (chunk_parts ctx cs x are) ≡ cs
  pub bytes : kept_bytes (chunk_parts ctx cs x are) ≡ x
  pub none : skipped_size (chunk_parts ctx cs x are) ≡ 0

all_kept : (ctx : Context) (cs : List Chunk) (x : List ℕ) (are : AreChunkTexts ctx cs x) → AreAllKept ctx cs x are
all_kept ctx cs x are =
    let parts : List Part = chunk_parts ctx cs x are in
    let same : parts ++ [] ≡ parts = append-nil parts in
    let first : AreFirstParts true ctx (parts ++ []) (x ++ []) [] = chunks_first ctx cs x [] are [] refl in
    let whole : AreFirstParts true ctx (parts ++ []) x [] = subst (λ (t : List ℕ). AreFirstParts true ctx (parts ++ []) t []) (append-nil x) first in
    record {
      all = subst (λ (l : List Part). AreFirstParts true ctx l x []) same whole;
      chunks = ap kept_chunks (sym same) ∙ chunks_kept ctx cs x are [] ∙ append-nil cs;
      bytes = ap kept_bytes (sym same) ∙ bytes_kept ctx cs x are [] ∙ append-nil x;
      none = ap skipped_size (sym same) ∙ none_skipped ctx cs x are [];
    }

regroup : (a b c d : List ℕ) → ((a ++ b) ++ c) ++ d ≡ a ++ (b ++ (c ++ d))
regroup a b c d = simp append_assoc

pub over_damage : (cs ds : List Chunk) (x d y : List ℕ) (before : AreChunkTexts [] cs x) (behind : AreChunkTexts (context_after_all [] cs) ds y)
    → (IsWhole (standing_at (context_after_all [] cs) (d ++ y)) → ⊥) → EndsWithFirst d
    → (parts : List Part) × AreSalvageParts (magic ++ x ++ d ++ y) parts
    × (parts ≡ chunk_parts [] cs x before ++ skipped d ∷ chunk_parts (context_after_all [] cs) ds y behind)
    × (kept_chunks parts ≡ cs ++ ds) × (kept_bytes parts ≡ x ++ y) × (skipped_size parts ≡ length d)
over_damage cs ds x d y before behind none ends =
    let ctx : Context = context_after_all [] cs in
    let later : List Part = chunk_parts ctx ds y behind in
    let k = all_kept ctx ds y behind in
    let some : 0 < length d = omega (arith, ap length ends.ends, length-append ends.front boundary_bytes) in
    let is : IsSkipped ctx d y = record { some = some; none_stands = none; ends = inl ends } in
    let rest : AreFirstParts true ctx (skipped d ∷ later) (d ++ y) [] = (y, refl, is, k.all) in
    let size : length d + skipped_size later ≡ length d = omega (arith, k.none) in (
      chunk_parts [] cs x before ++ skipped d ∷ later,
      record { rest = x ++ (d ++ y); begins = regroup magic x d y; all = chunks_first [] cs x (d ++ y) before (skipped d ∷ later) rest },
      refl,
      chunks_kept [] cs x before (skipped d ∷ later) ∙ ap (λ (l : List Chunk). cs ++ l) k.chunks,
      bytes_kept [] cs x before (skipped d ∷ later) ∙ ap (λ (t : List ℕ). x ++ t) k.bytes,
      none_skipped [] cs x before (skipped d ∷ later) ∙ size,
    )
