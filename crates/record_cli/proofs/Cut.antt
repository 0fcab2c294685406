-- The least texts of chunks that are cut.
use Rattle.std.proofs.Common.{◌≡◌, ℕ, ◌-◌, ◌<◌, ◌≤◌, List, [], ◌∷◌, ◌++◌, length, take, drop, inl, inr, refl, sym, ap, ◌∙◌, subst, append_assoc, arith}
use Rattle.std.proofs.lemmas.Bool.{cases_lt}
use Rattle.std.proofs.lemmas.List.{append-nil, length-append, length-drop, take-append-drop, take-append-le}
use Rattle.std.proofs.Math.Seq.{take-nil}
use Rattle.chunk_grammar.specs.declared.chunk.Chunk.{Chunk}
use Rattle.chunk_grammar.specs.Chunk.{Context, context_after, IsChunkText, AreChunkTexts, least_chunk_text, least_chunk_texts}
use Rattle.chunk_grammar.specs.Standing.{context_after_all, standing_at}
use Rattle.chunk_laws.proofs.LeastChunks.{chunk_least}
use Rattle.chunk_laws.proofs.Places.{at_torn}
use Rattle.file_model.specs.Cut.{IsEndOrTorn}
use Rattle.file_laws.proofs.Cuts.{take_within}
use Rattle.file_laws.proofs.Fronts.{text_takes}

-- the first p bytes are the least texts of the first of the chunks, and behind them nothing or a torn chunk
pub record CutTo (ctx : Context) (cs : List Chunk) (p : ℕ) : Type 0 where
  pub kept : List Chunk
  pub behind : List Chunk
  pub parts : cs ≡ kept ++ behind
  pub texts : AreChunkTexts ctx kept (least_chunk_texts ctx kept)
  pub fit : length (least_chunk_texts ctx kept) ≤ p
  pub next : (c : Chunk) (more : List Chunk) → behind ≡ c ∷ more → p < length (least_chunk_texts ctx (kept ++ c ∷ []))
  pub rest : List ℕ
  pub taken : take p (least_chunk_texts ctx cs) ≡ least_chunk_texts ctx kept ++ rest
  pub ends : IsEndOrTorn (context_after_all ctx kept) rest
  pub at_an_end : (front others : List Chunk) → cs ≡ front ++ others → length (least_chunk_texts ctx front) ≡ p
      → length (least_chunk_texts ctx kept) ≡ p

-- ---- where no chunk is left

no_front : (ctx : Context) (p : ℕ) (front others : List Chunk) → [] ≡ front ++ others → length (least_chunk_texts ctx front) ≡ p
    → length (least_chunk_texts ctx []) ≡ p
no_front ctx p [] others e size = size
no_front ctx p (d ∷ front) others e size = absurd cc

cut_empty : (ctx : Context) (p : ℕ) → CutTo ctx [] p
cut_empty ctx p = record {
  kept = [];
  behind = [];
  parts = refl;
  texts = refl;
  fit = omega arith;
  next = λ c more e. absurd cc;
  rest = [];
  taken = take-nil p;
  ends = inl refl;
  at_an_end = no_front ctx p;
}

-- ---- where the first chunk is cut

-- the first chunk is the same, and so is its text
same_first : (ctx : Context) (c d : Chunk) (front : List Chunk) (n : ℕ) → d ≡ c → length (least_chunk_texts ctx (d ∷ front)) ≡ n
    → length (least_chunk_text ctx c ++ least_chunk_texts (context_after ctx c) front) ≡ n
same_first ctx c d front n same size = subst (λ (q : Chunk). length (least_chunk_texts ctx (q ∷ front)) ≡ n) same size

short_front : (ctx : Context) (c : Chunk) (cs : List Chunk) (p : ℕ) → p < length (least_chunk_text ctx c)
    → (front others : List Chunk) → c ∷ cs ≡ front ++ others → length (least_chunk_texts ctx front) ≡ p → length (least_chunk_texts ctx []) ≡ p
short_front ctx c cs p short [] others e size = size
short_front ctx c cs p short (d ∷ front) others e size =
    let same : d ≡ c = cc in
    let y = least_chunk_texts (context_after ctx c) front in
    absurd (omega (arith, short, same_first ctx c d front p same size, length-append (least_chunk_text ctx c) y))

cut_within : (ctx : Context) (c : Chunk) (cs : List Chunk) (p : ℕ) → IsChunkText ctx c (least_chunk_text ctx c) → p < length (least_chunk_text ctx c)
    → CutTo ctx (c ∷ cs) p
cut_within ctx c cs p text short =
    let x = least_chunk_text ctx c in
    let y = least_chunk_texts (context_after ctx c) cs in
    let here : take p (x ++ y) ≡ take p x = take-append-le p x y (omega arith) in
    let whole_text : IsChunkText ctx c (take p x ++ drop p x) = subst (IsChunkText ctx c) (sym (take-append-drop p x)) text in
    record {
      kept = [];
      behind = c ∷ cs;
      parts = refl;
      texts = refl;
      fit = omega arith;
      next = λ d more e.
          let same : c ≡ d = cc in
          let size : length (least_chunk_text ctx c ++ []) ≡ length x = ap length (append-nil x) in
          let long : p < length (least_chunk_text ctx c ++ []) = omega (arith, short, size) in
          subst (λ (q : Chunk). p < length (least_chunk_text ctx q ++ [])) same long;
      rest = take p (x ++ y);
      taken = refl;
      ends = inr (ap (standing_at ctx) here ∙ at_torn ctx c (take p x) (drop p x) whole_text (omega (arith, length-drop p x)));
      at_an_end = short_front ctx c cs p short;
    }

-- ---- where it is whole

long_front : (ctx : Context) (c : Chunk) (cs : List Chunk) (p : ℕ) → IsChunkText ctx c (least_chunk_text ctx c) → length (least_chunk_text ctx c) ≤ p
    → (k : CutTo (context_after ctx c) cs (p - length (least_chunk_text ctx c))) (front others : List Chunk) → c ∷ cs ≡ front ++ others
    → length (least_chunk_texts ctx front) ≡ p → length (least_chunk_texts ctx (c ∷ k.kept)) ≡ p
long_front ctx c cs p text long k [] others e size = absurd (omega (arith, size, long, text_takes ctx c (least_chunk_text ctx c) text))
long_front ctx c cs p text long k (d ∷ front) others e size =
    let x = least_chunk_text ctx c in
    let y = least_chunk_texts (context_after ctx c) front in
    let z = least_chunk_texts (context_after ctx c) k.kept in
    let same : d ≡ c = cc in
    let later : cs ≡ front ++ others = cc in
    let rest : length y ≡ p - length x = omega (arith, long, same_first ctx c d front p same size, length-append x y) in
    omega (arith, long, k.at_an_end front others later rest, length-append x z)

cut_behind : (ctx : Context) (c : Chunk) (cs : List Chunk) (p : ℕ) → IsChunkText ctx c (least_chunk_text ctx c) → length (least_chunk_text ctx c) ≤ p
    → CutTo (context_after ctx c) cs (p - length (least_chunk_text ctx c)) → CutTo ctx (c ∷ cs) p
cut_behind ctx c cs p text long k =
    let x = least_chunk_text ctx c in
    let y = least_chunk_texts (context_after ctx c) cs in
    let z = least_chunk_texts (context_after ctx c) k.kept in
    record {
      kept = c ∷ k.kept;
      behind = k.behind;
      parts = ap (λ (t : List Chunk). c ∷ t) k.parts;
      texts = (x, z, text, k.texts, refl);
      fit = omega (arith, long, k.fit, length-append x z);
      next = λ d more e.
          let w = least_chunk_texts (context_after ctx c) (k.kept ++ d ∷ []) in
          omega (arith, long, k.next d more e, length-append x w);
      rest = k.rest;
      taken = take_within p x y long ∙ ap (λ (t : List ℕ). x ++ t) k.taken ∙ sym (append_assoc x z k.rest);
      ends = k.ends;
      at_an_end = long_front ctx c cs p text long k;
    }

pub cut_chunks : (ctx : Context) (cs : List Chunk) (text : List ℕ) (p : ℕ) → AreChunkTexts ctx cs text → CutTo ctx cs p
cut_chunks ctx [] text p are = cut_empty ctx p
cut_chunks ctx (c ∷ cs) text p are =
    let own : IsChunkText ctx c (least_chunk_text ctx c) = (chunk_least ctx c are.0 are.2).0 in
    elim (cases_lt p (length (least_chunk_text ctx c))) [
      | inl short ↦ cut_within ctx c cs p own short
      | inr long ↦ cut_behind ctx c cs p own long (cut_chunks (context_after ctx c) cs are.1 (p - length (least_chunk_text ctx c)) are.3)
    ]
