-- A file that grows by a chunk.
use Rattle.std.proofs.Common.{◌≡◌, ℕ, List, [], ◌∷◌, ◌++◌, refl, sym, ap, ◌∙◌, subst, append_assoc}
use Rattle.std.proofs.lemmas.List.{append-nil}
use Rattle.chunk_grammar.specs.declared.chunk.Chunk.{Chunk}
use Rattle.chunk_grammar.specs.Chunk.{Context, context_after, IsChunkText, AreChunkTexts, least_chunk_text, least_chunk_texts, magic, least_file_text}
use Rattle.chunk_grammar.specs.Standing.{context_after_all}
use Rattle.chunk_laws.proofs.LeastChunks.{chunk_least}

pub contexts_more : (ctx : Context) (cs : List Chunk) (c : Chunk) → context_after_all ctx (cs ++ c ∷ []) ≡ context_after (context_after_all ctx cs) c
contexts_more ctx [] c = refl
contexts_more ctx (d ∷ cs) c = contexts_more (context_after ctx d) cs c

-- the least texts of the chunks and of one more
pub texts_more : (ctx : Context) (cs : List Chunk) (c : Chunk) → least_chunk_texts ctx (cs ++ c ∷ []) ≡ least_chunk_texts ctx cs ++ least_chunk_text (context_after_all ctx cs) c
texts_more ctx [] c = append-nil (least_chunk_text ctx c)
texts_more ctx (d ∷ cs) c =
    ap (λ (t : List ℕ). least_chunk_text ctx d ++ t) (texts_more (context_after ctx d) cs c)
    ∙ sym (append_assoc (least_chunk_text ctx d) (least_chunk_texts (context_after ctx d) cs) (least_chunk_text (context_after_all (context_after ctx d) cs) c))

pub file_more : (cs : List Chunk) (c : Chunk) → least_file_text (cs ++ c ∷ []) ≡ least_file_text cs ++ least_chunk_text (context_after_all [] cs) c
file_more cs c = ap (λ (t : List ℕ). magic ++ t) (texts_more [] cs c) ∙ sym (append_assoc magic (least_chunk_texts [] cs) (least_chunk_text (context_after_all [] cs) c))

-- texts of the chunks and of one more
are_more : (ctx : Context) (cs : List Chunk) (c : Chunk) (y x : List ℕ) → AreChunkTexts ctx cs y → IsChunkText (context_after_all ctx cs) c x → AreChunkTexts ctx (cs ++ c ∷ []) (y ++ x)
are_more ctx [] c y x r t = (x, [], t, refl, ap (λ (s : List ℕ). s ++ x) r ∙ sym (append-nil x))
are_more ctx (d ∷ cs) c y x r t = (r.0, r.1 ++ x, r.2, are_more (context_after ctx d) cs c r.1 x r.3 t, ap (λ (s : List ℕ). s ++ x) r.4 ∙ append_assoc r.0 r.1 x)

-- the chunks have their least texts, and so has one more
pub least_more : (cs : List Chunk) (c : Chunk) (b : List ℕ) → AreChunkTexts [] cs (least_chunk_texts [] cs) → IsChunkText (context_after_all [] cs) c b
    → AreChunkTexts [] (cs ++ c ∷ []) (least_chunk_texts [] (cs ++ c ∷ []))
least_more cs c b r t =
    let P : List ℕ → Type 0 = λ y. AreChunkTexts [] (cs ++ c ∷ []) y in
    subst P (sym (texts_more [] cs c)) (are_more [] cs c (least_chunk_texts [] cs) (least_chunk_text (context_after_all [] cs) c) r (chunk_least (context_after_all [] cs) c b t).0)
