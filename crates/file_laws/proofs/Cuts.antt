-- Files that are cut.
use Rattle.std.proofs.Common.{◌≡◌, ℕ, zero, suc, ◌-◌, ◌<◌, ◌≤◌, true, false, ltb, List, [], ◌∷◌, ◌++◌, length, take, drop, refl, sym, ap, ◌∙◌, subst, append_assoc, arith, inl, inr}
use Rattle.std.proofs.lemmas.Bool.{cases_lt, lt-ltb, le-ltb}
use Rattle.std.proofs.lemmas.List.{append-nil, length-drop, take-append-drop, take-append-le}
use Rattle.std.proofs.Math.Seq.{take-nil}
use Rattle.chunk_grammar.specs.declared.chunk.Chunk.{Chunk}
use Rattle.chunk_grammar.specs.Chunk.{Context, context_after, IsChunkText, AreChunkTexts, IsFileText, magic}
use Rattle.chunk_grammar.specs.Standing.{standing_at, torn, context_after_all, IsFront}
use Rattle.chunk_laws.proofs.Places.{at_torn}
use Rattle.file_model.specs.Cut.{chunks_within, IsEndOrTorn}
use Rattle.file_laws.proofs.Fronts.{end_not_whole}

-- texts of the chunks are at the front, and nothing or a torn chunk behind them
record Yields (ctx : Context) (ds : List Chunk) (front : List ℕ) : Type 0 where
  pub text : List ℕ
  pub rest : List ℕ
  pub chunks : AreChunkTexts ctx ds text
  pub parts : front ≡ text ++ rest
  pub ends : IsEndOrTorn (context_after_all ctx ds) rest

pub take_within : (p : ℕ) (x y : List ℕ) → length x ≤ p → take p (x ++ y) ≡ x ++ take (p - length x) y
take_within p [] y le = ap (λ (n : ℕ). take n y) (omega arith)
take_within zero (c ∷ x) y le = absurd (omega arith)
take_within (suc p) (c ∷ x) y le =
    let shorter : length x ≤ p = omega arith in
    let same : suc p - length (c ∷ x) ≡ p - length x = omega arith in
    ap (λ (t : List ℕ). c ∷ t) (take_within p x y shorter ∙ ap (λ (n : ℕ). x ++ take n y) (sym same))

pub take_all : (n : ℕ) (xs : List ℕ) → length xs ≤ n → take n xs ≡ xs
take_all n xs le = ap (take n) (sym (append-nil xs)) ∙ take_within n xs [] le ∙ ap (λ (t : List ℕ). xs ++ t) (take-nil (n - length xs)) ∙ append-nil xs

first_is_torn : (ctx : Context) (c : Chunk) (x y all : List ℕ) (p : ℕ) → IsChunkText ctx c x → all ≡ x ++ y → p < length x → Yields ctx [] (take p all)
first_is_torn ctx c x y all p r e short =
    let here : take p all ≡ take p x = ap (take p) e ∙ take-append-le p x y (omega arith) in
    let text : IsChunkText ctx c (take p x ++ drop p x) = subst (IsChunkText ctx c) (sym (take-append-drop p x)) r in
    let is_torn : standing_at ctx (take p x) ≡ torn = at_torn ctx c (take p x) (drop p x) text (omega (arith, length-drop p x)) in
    record { text = []; rest = take p all; chunks = refl; parts = refl; ends = inr (ap (standing_at ctx) here ∙ is_torn) }

first_is_whole : (ctx : Context) (c : Chunk) (ds : List Chunk) (x y all : List ℕ) (p : ℕ) → IsChunkText ctx c x → all ≡ x ++ y → length x ≤ p
    → Yields (context_after ctx c) ds (take (p - length x) y) → Yields ctx (c ∷ ds) (take p all)
first_is_whole ctx c ds x y all p r e long k =
    let parts : take p all ≡ (x ++ k.text) ++ k.rest = ap (take p) e ∙ take_within p x y long ∙ ap (λ (t : List ℕ). x ++ t) k.parts ∙ sym (append_assoc x k.text k.rest) in
    record { text = x ++ k.text; rest = k.rest; chunks = (x, k.text, r, k.chunks, refl); parts = parts; ends = k.ends }

cut_texts : (ctx : Context) (cs : List Chunk) (y : List ℕ) (p : ℕ) (are : AreChunkTexts ctx cs y) → Yields ctx (chunks_within ctx cs y are p) (take p y)
cut_texts ctx [] y p are = record { text = []; rest = take p y; chunks = refl; parts = refl; ends = inl (ap (take p) are ∙ take-nil p) }
cut_texts ctx (c ∷ cs) y p are =
    elim (cases_lt p (length are.0)) [
      | inl short ↦ let t : ltb p (length are.0) ≡ true = lt-ltb _ _ short in rw t (first_is_torn ctx c are.0 are.1 y p are.2 are.4 short)
      | inr long ↦
          let k = cut_texts (context_after ctx c) cs are.1 (p - length are.0) are.3 in
          let t : ltb p (length are.0) ≡ false = le-ltb _ _ long in
          rw t (first_is_whole ctx c (chunks_within (context_after ctx c) cs are.1 are.3 (p - length are.0)) are.0 are.1 y p are.2 are.4 long k)
    ]

pub cut_file : (cs : List Chunk) (b : List ℕ) (p : ℕ) (file : IsFileText cs b) → 4 ≤ p
    → (rest : List ℕ) × IsFront (take p b) (chunks_within [] cs file.0 file.1 (p - 4)) rest × IsEndOrTorn (context_after_all [] (chunks_within [] cs file.0 file.1 (p - 4))) rest
cut_file cs b p file low =
    let ds = chunks_within [] cs file.0 file.1 (p - 4) in
    let k = cut_texts [] cs file.0 (p - 4) file.1 in
    let front : take p b ≡ magic ++ k.text ++ k.rest = ap (take p) file.2 ∙ take_within p magic file.0 low ∙ ap (λ (t : List ℕ). magic ++ t) k.parts ∙ sym (append_assoc magic k.text k.rest) in
    (k.rest, record { text = k.text; chunks = k.chunks; whole = front; ends = end_not_whole (context_after_all [] ds) k.rest k.ends }, k.ends)
