-- The answers of one who reads a file.
use Rattle.std.proofs.Common.{◌≡◌, ℕ, ◌+◌, ◌-◌, ◌≤◌, false, ltb, List, [], ◌∷◌, ◌++◌, length, take, drop, refl, sym, ap, ◌∙◌, subst, append_assoc, arith, inl}
use Rattle.std.proofs.lemmas.Bool.{le-ltb}
use Rattle.std.proofs.lemmas.List.{append-nil, length-append, drop_at}
use Rattle.xdf_model_laws.proofs.Bytes.{IsBytes, IsBytes-take}
use Rattle.chunk_grammar.specs.declared.chunk.Chunk.{Chunk as ChunkValue}
use Rattle.chunk_grammar.specs.Chunk.{Context, context_after, AreChunkTexts, IsFileText, magic, least_chunk_text, least_chunk_texts, least_file_text}
use Rattle.chunk_grammar.specs.Standing.{standing_at, context_after_all, IsFront}
use Rattle.chunk_laws.proofs.Places.{one_reading}
use Rattle.chunk_laws.proofs.LeastChunks.{chunk_least}
use Rattle.file_model.specs.declared.next.Next.{Next}
use Rattle.file_model.specs.declared.next.Next.TheVariants.{Chunk, End}
use Rattle.file_model.specs.Readings.{placed, last_reading, AreReadings}
use Rattle.file_laws.proofs.Fronts.{at_empty, end_not_whole, behind_magic, one_front, has_front}
use Rattle.file_laws.proofs.Cuts.{take_within, take_all}

-- two ways to divide the same bytes into texts of the same chunks are one
record SameTexts (ctx : Context) (cs : List ChunkValue) (x y : List ℕ) (a : AreChunkTexts ctx cs x) (b : AreChunkTexts ctx cs y) (place : ℕ) : Type 0 where
  pub answers : placed ctx cs x a place ≡ placed ctx cs y b place
  pub size : length x ≡ length y

same_texts : (ctx : Context) (cs : List ChunkValue) (x y r s : List ℕ) (a : AreChunkTexts ctx cs x) (b : AreChunkTexts ctx cs y) (place : ℕ) → x ++ r ≡ y ++ s → SameTexts ctx cs x y a b place
same_texts ctx [] x y r s a b place e = record { answers = refl; size = ap length a ∙ sym (ap length b) }
same_texts ctx (c ∷ cs) x y r s a b place e =
    let parts : a.0 ++ (a.1 ++ r) ≡ b.0 ++ (b.1 ++ s) = sym (append_assoc a.0 a.1 r) ∙ sym (ap (λ (t : List ℕ). t ++ r) a.4) ∙ e ∙ ap (λ (t : List ℕ). t ++ s) b.4 ∙ append_assoc b.0 b.1 s in
    let one = one_reading ctx c c a.0 b.0 (a.1 ++ r) (b.1 ++ s) a.2 b.2 parts in
    let behind : a.1 ++ r ≡ b.1 ++ s = sym (drop_at a.0 (a.1 ++ r) (length a.0) refl) ∙ ap (drop (length a.0)) parts ∙ drop_at b.0 (b.1 ++ s) (length a.0) (sym (ap length one.1)) in
    let k = same_texts (context_after ctx c) cs a.1 b.1 r s a.3 b.3 (place + length a.0) behind in
    let later : placed (context_after ctx c) cs b.1 b.3 (place + length a.0) ≡ placed (context_after ctx c) cs b.1 b.3 (place + length b.0) = ap (λ (t : List ℕ). placed (context_after ctx c) cs b.1 b.3 (place + length t)) one.1 in
    record {
      answers = ap (λ (l : List Next). Chunk place c ∷ l) (k.answers ∙ later);
      size = omega (arith, ap length a.4, ap length b.4, length-append a.0 a.1, length-append b.0 b.1, ap length one.1, k.size);
    }

-- the answers for a front
abbrev answers_for : (b : List ℕ) (limit : ℕ) (cs : List ChunkValue) (rest : List ℕ) → IsFront (take limit b) cs rest → List Next
answers_for b limit cs rest front =
    placed [] cs front.text front.chunks 4 ++ last_reading (ltb limit (length b)) (4 + length front.text) rest (standing_at (context_after_all [] cs) rest) ∷ []

same_front : (b : List ℕ) (limit : ℕ) (cs : List ChunkValue) (rest : List ℕ) (f g : IsFront (take limit b) cs rest) → answers_for b limit cs rest f ≡ answers_for b limit cs rest g
same_front b limit cs rest f g =
    let k = same_texts [] cs f.text g.text rest rest f.chunks g.chunks 4 (behind_magic (take limit b) f.text g.text rest rest f.whole g.whole) in
    let last : ℕ → Next = λ n. last_reading (ltb limit (length b)) (4 + n) rest (standing_at (context_after_all [] cs) rest) in
    ap (λ (l : List Next). l ++ last (length f.text) ∷ []) k.answers ∙ ap (λ (n : ℕ). placed [] cs g.text g.chunks 4 ++ last n ∷ []) k.size

any_front : (b : List ℕ) (limit : ℕ) (cs ds : List ChunkValue) (r s : List ℕ) (f : IsFront (take limit b) cs r) (g : IsFront (take limit b) ds s) → cs ≡ ds → r ≡ s → answers_for b limit cs r f ≡ answers_for b limit ds s g
any_front b limit cs ds r s f g same here =
    let one : (h : IsFront (take limit b) cs s) → answers_for b limit cs r f ≡ answers_for b limit cs s h =
    subst (λ (t : List ℕ). (h : IsFront (take limit b) cs t) → answers_for b limit cs r f ≡ answers_for b limit cs t h) here (same_front b limit cs r f) in
    subst (λ (l : List ChunkValue). (h : IsFront (take limit b) l s) → answers_for b limit cs r f ≡ answers_for b limit l s h) same one g

pub one_list : (b : List ℕ) (limit : ℕ) (x y : List Next) → AreReadings b limit x → AreReadings b limit y → x ≡ y
one_list b limit x y p q =
    let same = one_front (take limit b) p.cs q.cs p.rest q.rest p.front q.front in
    p.all ∙ any_front b limit p.cs q.cs p.rest q.rest p.front q.front same.0 same.1 ∙ sym q.all

pub has_readings : (y : List ℕ) (limit : ℕ) → IsBytes y → 4 ≤ limit → (answers : List Next) × AreReadings (magic ++ y) limit answers
has_readings y limit h low =
    let k = has_front (take (limit - 4) y) (IsBytes-take (limit - 4) y h) in
    let front : IsFront (take limit (magic ++ y)) k.0 k.1 = subst (λ (t : List ℕ). IsFront t k.0 k.1) (sym (take_within limit magic y low)) k.2 in
    (answers_for (magic ++ y) limit k.0 k.1 front, record { cs = k.0; rest = k.1; front = front; all = refl })

ends_at : (b : List ℕ) (limit n : ℕ) (ctx : Context) → length b ≤ limit → n ≡ length b → last_reading (ltb limit (length b)) n [] (standing_at ctx []) ≡ End (length b)
ends_at b limit n ctx le e =
    let short : ltb limit (length b) ≡ false = le-ltb _ _ le in
    rw (short, at_empty ctx) (ap (λ (k : ℕ). End k) e)

-- a file within the limit is read as its chunks, and then its end
pub read_whole : (cs : List ChunkValue) (b : List ℕ) (limit : ℕ) (file : IsFileText cs b) → length b ≤ limit → AreReadings b limit (placed [] cs file.0 file.1 4 ++ End (length b) ∷ [])
read_whole cs b limit file le =
    let all : take limit b ≡ b = take_all limit b le in
    let size : 4 + length file.0 ≡ length b = omega (arith, ap length file.2, length-append magic file.0) in
    let front : IsFront (take limit b) cs [] = record { text = file.0; chunks = file.1; whole = all ∙ file.2 ∙ sym (append-nil (magic ++ file.0)); ends = end_not_whole (context_after_all [] cs) [] (inl refl) } in
    record {
      cs = cs;
      rest = [];
      front = front;
      all = ap (λ (x : Next). placed [] cs file.0 file.1 4 ++ x ∷ []) (sym (ends_at b limit (4 + length file.0) (context_after_all [] cs) le size));
    }

least_texts : (ctx : Context) (cs : List ChunkValue) (y : List ℕ) → AreChunkTexts ctx cs y → AreChunkTexts ctx cs (least_chunk_texts ctx cs)
least_texts ctx [] y r = refl
least_texts ctx (c ∷ cs) y r = (least_chunk_text ctx c, least_chunk_texts (context_after ctx c) cs, (chunk_least ctx c r.0 r.2).0, least_texts (context_after ctx c) cs r.1 r.3, refl)

pub least_file : (cs : List ChunkValue) (b : List ℕ) → IsFileText cs b → AreChunkTexts [] cs (least_chunk_texts [] cs)
least_file cs b file = least_texts [] cs file.0 file.1

pub written_read : (cs : List ChunkValue) (limit : ℕ) (texts : AreChunkTexts [] cs (least_chunk_texts [] cs)) → length (least_file_text cs) ≤ limit
    → AreReadings (least_file_text cs) limit (placed [] cs (least_chunk_texts [] cs) texts 4 ++ End (length (least_file_text cs)) ∷ [])
written_read cs limit texts le = read_whole cs (least_file_text cs) limit (least_chunk_texts [] cs, texts, refl) le
