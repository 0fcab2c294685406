-- What stands at a place: the laws of chunks.
use Rattle.std.proofs.Common.{◌≡◌, ℕ, ◌+◌, ◌-◌, ◌^◌, ◌<◌, ◌≤◌, Bool, true, false, cond, ltb, List, [], ◌∷◌, ◌++◌, length, take, drop, Ok, Err, refl, sym, ap, ◌∙◌, subst, append_assoc, arith, inl, inr, ◌⊎◌, lit<}
use Rattle.std.proofs.lemmas.Bool.{ltb-false, le-ltb, lt-ltb}
use Rattle.std.proofs.lemmas.List.{length-append, take_at, drop_at, take-append-drop, length-take, length-drop, drop-drop}
use Rattle.byteorder.specs.Endian.{little_bytes, little_number}
use Rattle.xdf_model.specs.declared.types.Why.TheVariants as why
use Rattle.xdf_model.specs.declared.types.NumRead.{NumRead}
use Rattle.xdf_model.specs.declared.types.NumRead.TheVariants.{Read, Short, BadWidth}
use Rattle.xdf_model.specs.Varlen.{IsVarlen, varlen_at}
use Rattle.xdf_model.specs.Reading.{outside, wrong}
use Rattle.xdf_model_laws.proofs.Bytes.{IsBytes, IsBytes-rest, IsBytes-take, IsBytes-drop, length-little_bytes, little_bytes-little_number, little_number-again, little_number-lt}
use Rattle.xdf_model_laws.proofs.Readers.{ok, num_sound, num_again, num_torn}
use Rattle.chunk_grammar.specs.declared.chunk.Chunk.{Chunk}
use Rattle.chunk_grammar.specs.declared.chunk.Chunk.TheVariants.{FileHeader, StreamHeader, Samples, ClockOffset, Boundary, StreamFooter, Other}
use Rattle.chunk_grammar.specs.Chunk.{Context, length_limit, tag_of, IsContentText, IsChunkText}
use Rattle.chunk_grammar.specs.Standing.{Judged, content_at, whole, torn, bad, answer_of, chunk_at, standing_from, standing_at}
use Rattle.chunk_laws.proofs.Contents.{content_sound, content_complete}

-- the tag of a chunk that has a content fits two bytes
tag_fits : (ctx : Context) (c : Chunk) (b : List ℕ) → IsContentText ctx c b → tag_of c < 2 ^ 16
tag_fits ctx (FileHeader doc) b r = lit< tt
tag_fits ctx (StreamHeader id doc) b r = lit< tt
tag_fits ctx (Samples id samples) b r = lit< tt
tag_fits ctx (ClockOffset id time offset) b r = lit< tt
tag_fits ctx Boundary b r = lit< tt
tag_fits ctx (StreamFooter id doc) b r = lit< tt
tag_fits ctx (Other tag body) b r = r.0

-- ---- A chunk's text is found, whatever follows it.

chunk_complete : (ctx : Context) (c : Chunk) (len content rest : List ℕ) → IsVarlen (2 + length content) len → 2 + length content ≤ length_limit → IsContentText ctx c content
    → standing_at ctx (len ++ (little_bytes 2 (tag_of c) ++ (content ++ rest))) ≡ whole c (length len + (2 + length content))
unfolding standing_at
chunk_complete ctx c len content rest num limit kind =
    let tag = little_bytes 2 (tag_of c) in
    let body = tag ++ (content ++ rest) in
    let tag_len : length tag ≡ 2 = length-little_bytes 2 (tag_of c) in
    let front : varlen_at (len ++ body) ≡ Read (2 + length content) (length len) = num_again (2 + length content) len body num in
    let behind : drop (length len) (len ++ body) ≡ body = drop_at len body (length len) refl in
    let one : ltb (2 + length content) 2 ≡ false = le-ltb _ _ (omega arith) in
    let two : ltb length_limit (2 + length content) ≡ false = le-ltb _ _ limit in
    let three : ltb (length body) (2 + length content) ≡ false = le-ltb _ _ (omega (arith, length-append tag (content ++ rest), length-append content rest)) in
    let size : 2 + length content - 2 ≡ length content = omega arith in
    let tag_is : little_number 2 body ≡ tag_of c = little_number-again 2 (tag_of c) (content ++ rest) (tag_fits ctx c content kind) in
    let inner : take (2 + length content - 2) (drop 2 body) ≡ content = rw (size, drop_at tag (content ++ rest) 2 tag_len) (take_at content rest (length content) refl) in
    let found : content_at ctx (little_number 2 body) (take (2 + length content - 2) (drop 2 body)) ≡ ok c = rw (tag_is, inner) (content_complete ctx c content kind) in
    rw (front, behind, one, two, three, found) refl

pub at_complete : (ctx : Context) (c : Chunk) (x rest : List ℕ) → IsChunkText ctx c x → standing_at ctx (x ++ rest) ≡ whole c (length x)
at_complete ctx c x rest r =
    let tag = little_bytes 2 (tag_of c) in
    let parts : x ++ rest ≡ r.len ++ (tag ++ (r.content ++ rest)) = ap (λ (t : List ℕ). t ++ rest) r.whole ∙ simp append_assoc in
    let size : length r.len + (2 + length r.content) ≡ length x = omega (arith, ap length r.whole, length-append r.len (tag ++ r.content), length-append (r.len ++ tag) r.content, length-append r.len tag, length-append tag r.content, length-little_bytes 2 (tag_of c)) in
    rw parts (chunk_complete ctx c r.len r.content rest r.number r.limit r.kind ∙ ap (whole c) size)

-- ---- What is found is a chunk's text.

answer_whole : (place : ℕ) (j : Judged) (c : Chunk) (u : ℕ) → answer_of place j ≡ whole c u → (j ≡ ok c) × (place ≡ u)
answer_whole place (Ok d) c u e = (cc, cc)
answer_whole place (Err outside) c u e = absurd cc
answer_whole place (Err (wrong left reason)) c u e = absurd cc

chunk_cases : (little much few : Bool) (place : ℕ) (j : Judged) (c : Chunk) (u : ℕ) → cond little (bad 0 why.LengthUnderTwo) (cond much (bad 0 why.TooLong) (cond few torn (answer_of place j))) ≡ whole c u
    → (little ≡ false) × (much ≡ false) × (few ≡ false) × (j ≡ ok c) × (place ≡ u)
chunk_cases true much few place j c u e = absurd cc
chunk_cases false true few place j c u e = absurd cc
chunk_cases false false true place j c u e = absurd cc
chunk_cases false false false place j c u e = let k = answer_whole place j c u e in (refl, refl, refl, k.0, k.1)

abbrev pub IsFound : Context → List ℕ → Chunk → ℕ → Type 0
IsFound ctx b c u = (x : List ℕ) × (y : List ℕ) × IsChunkText ctx c x × (b ≡ x ++ y) × (length x ≡ u)

-- the parts of a chunk, from the bytes behind its length
body_parts : (n : ℕ) (b : List ℕ) → 2 ≤ n → n ≤ length b → (length (take (n - 2) (drop 2 b)) ≡ n - 2) × (b ≡ take 2 b ++ (take (n - 2) (drop 2 b) ++ drop n b))
body_parts n b low high =
    let back : 2 + (n - 2) ≡ n = omega arith in
    let behind : drop (n - 2) (drop 2 b) ≡ drop n b = drop-drop (n - 2) 2 b ∙ ap (λ (k : ℕ). drop k b) back in (
      omega (arith, length-take (n - 2) (drop 2 b), length-drop 2 b),
      sym (take-append-drop 2 b) ∙ ap (λ (t : List ℕ). take 2 b ++ t) (sym (take-append-drop (n - 2) (drop 2 b)) ∙ ap (λ (t : List ℕ). take (n - 2) (drop 2 b) ++ t) behind),
    )

regroup : (a b c d : List ℕ) → a ++ (b ++ (c ++ d)) ≡ (a ++ b ++ c) ++ d
regroup a b c d = simp append_assoc

chunk_sound : (ctx : Context) (len b : List ℕ) (n : ℕ) (c : Chunk) (u : ℕ) → IsBytes b → IsVarlen n len → chunk_at ctx n (length len) b ≡ whole c u → IsFound ctx (len ++ b) c u
chunk_sound ctx len b n c u h num e =
    let content = take (n - 2) (drop 2 b) in
    let k = chunk_cases (ltb n 2) (ltb length_limit n) (ltb (length b) n) (length len + n) (content_at ctx (little_number 2 b) content) c u e in
    let low : 2 ≤ n = ltb-false _ _ k.0 in
    let high : n ≤ length_limit = ltb-false _ _ k.1 in
    let long : n ≤ length b = ltb-false _ _ k.2 in
    let parts = body_parts n b low long in
    let two : 2 ≤ length b = omega arith in
    let h2 : IsBytes content = IsBytes-take (n - 2) (drop 2 b) (IsBytes-drop 2 b h) in
    let stands = content_sound ctx (little_number 2 b) content c h2 (little_number-lt 2 b h) k.3 in
    let tag : take 2 b ≡ little_bytes 2 (tag_of c) = sym (little_bytes-little_number 2 b h two) ∙ ap (little_bytes 2) (sym stands.0) in
    let size : n ≡ 2 + length content = omega arith in
    let text : IsChunkText ctx c (len ++ little_bytes 2 (tag_of c) ++ content) = record {
      len = len;
      content = content;
      number = rw (← size) num;
      limit = omega arith;
      kind = stands.1;
      whole = refl;
    } in
    let all : len ++ b ≡ (len ++ little_bytes 2 (tag_of c) ++ content) ++ drop n b = ap (λ (t : List ℕ). len ++ t) (parts.1 ∙ ap (λ (t : List ℕ). t ++ (content ++ drop n b)) tag) ∙ regroup len (little_bytes 2 (tag_of c)) content (drop n b) in
    let sum : length (len ++ little_bytes 2 (tag_of c) ++ content) ≡ u = omega (arith, length-append (len ++ little_bytes 2 (tag_of c)) content, length-append len (little_bytes 2 (tag_of c)), length-little_bytes 2 (tag_of c)) in
    (len ++ little_bytes 2 (tag_of c) ++ content, drop n b, text, all, sum)

at_cases : (ctx : Context) (b : List ℕ) (r : NumRead) (c : Chunk) (u : ℕ) → standing_from ctx b r ≡ whole c u → (n : ℕ) × (used : ℕ) × (r ≡ Read n used) × (chunk_at ctx n used (drop used b) ≡ whole c u)
at_cases ctx b (Read n used) c u e = (n, used, refl, e)
at_cases ctx b Short c u e = absurd cc
at_cases ctx b (BadWidth w) c u e = absurd cc

pub at_sound : (ctx : Context) (b : List ℕ) (c : Chunk) (u : ℕ) → IsBytes b → standing_at ctx b ≡ whole c u → IsFound ctx b c u
unfolding standing_at
at_sound ctx b c u h e =
    let k = at_cases ctx b (varlen_at b) c u e in
    let num = num_sound b k.0 k.1 h k.2 in
    let rest : List ℕ = drop k.1 b in
    let found : IsFound ctx (num.0 ++ rest) c u = chunk_sound ctx num.0 rest k.0 c u (IsBytes-rest num.0 rest b h num.3) num.1 (rw num.2 k.3) in
    subst (λ (t : List ℕ). IsFound ctx t c u) (sym num.3) found

pub at_exact : (ctx : Context) (b : List ℕ) (c : Chunk) (u : ℕ) → IsBytes b
    → (standing_at ctx b ≡ whole c u → (u ≤ length b) × IsChunkText ctx c (take u b)) × ((u ≤ length b) × IsChunkText ctx c (take u b) → standing_at ctx b ≡ whole c u)
at_exact ctx b c u h = (
  (λ e.
      let k = at_sound ctx b c u h e in
      let front : take u b ≡ k.0 = ap (take u) k.3 ∙ take_at k.0 k.1 u k.4 in
      (omega (arith, ap length k.3, length-append k.0 k.1, k.4), rw front k.2)),
  (λ r.
      let size : length (take u b) ≡ u = omega (arith, length-take u b, r.0) in
      ap (standing_at ctx) (sym (take-append-drop u b)) ∙ at_complete ctx c (take u b) (drop u b) r.1 ∙ ap (whole c) size),
)

-- ---- A proper front of a chunk's text is torn.

abbrev pub IsSplit : List ℕ → List ℕ → List ℕ → List ℕ → Type 0
IsSplit a b p q = ((s : List ℕ) × (a ≡ p ++ s) × (q ≡ s ++ b) × (0 < length s)) ⊎ ((s : List ℕ) × (p ≡ a ++ s) × (b ≡ s ++ q))

-- two ways to cut a list in two
split_of : (a b p q : List ℕ) → a ++ b ≡ p ++ q → IsSplit a b p q
split_of [] b p q e = inr (p, refl, e)
split_of (x ∷ a) b [] q e = inl (x ∷ a, refl, sym e, omega arith)
split_of (x ∷ a) b (y ∷ p) q e =
    let head : x ≡ y = cc in
    let tail : a ++ b ≡ p ++ q = cc in
    elim (split_of a b p q tail) [
      | inl k ↦ inl (k.0, ap (λ (t : List ℕ). x ∷ t) k.1 ∙ ap (λ (n : ℕ). n ∷ p ++ k.0) head, k.2, k.3)
      | inr k ↦ inr (k.0, ap (λ (t : List ℕ). y ∷ t) k.1 ∙ ap (λ (n : ℕ). n ∷ a ++ k.0) (sym head), k.2)
    ]

few_torn : (ctx : Context) (n place : ℕ) (b : List ℕ) → 2 ≤ n → n ≤ length_limit → length b < n → chunk_at ctx n place b ≡ torn
few_torn ctx n place b low high few =
    let one : ltb n 2 ≡ false = le-ltb _ _ low in
    let two : ltb length_limit n ≡ false = le-ltb _ _ high in
    let three : ltb (length b) n ≡ true = lt-ltb _ _ few in
    rw (one, two, three) refl

pub at_torn : (ctx : Context) (c : Chunk) (p q : List ℕ) → IsChunkText ctx c (p ++ q) → 0 < length q → standing_at ctx p ≡ torn
unfolding standing_at
at_torn ctx c p q r more =
    let tag = little_bytes 2 (tag_of c) in
    let n = 2 + length r.content in
    let parts : r.len ++ (tag ++ r.content) ≡ p ++ q = sym (append_assoc r.len tag r.content) ∙ sym r.whole in
    elim (split_of r.len (tag ++ r.content) p q parts) [
      | inl k ↦
          let num : IsVarlen n (p ++ k.0) = subst (IsVarlen n) k.1 r.number in
          rw (num_torn n p k.0 num k.3) refl
      | inr k ↦
          let front : varlen_at (r.len ++ k.0) ≡ Read n (length r.len) = num_again n r.len k.0 r.number in
          let behind : drop (length r.len) (r.len ++ k.0) ≡ k.0 = drop_at r.len k.0 (length r.len) refl in
          let few : length k.0 < n = omega (arith, ap length k.2, length-append k.0 q, length-append tag r.content, length-little_bytes 2 (tag_of c)) in
          let cut : standing_from ctx (r.len ++ k.0) (varlen_at (r.len ++ k.0)) ≡ torn = rw (front, behind) (few_torn ctx n (length r.len) k.0 (omega arith) r.limit few) in
          subst (λ (t : List ℕ). standing_from ctx t (varlen_at t) ≡ torn) (sym k.1) cut
    ]

-- ---- No chunk's text begins another.

whole_is : (c d : Chunk) (m n : ℕ) → whole c m ≡ whole d n → (c ≡ d) × (m ≡ n)
whole_is c d m n e = (cc, cc)

pub one_reading : (ctx : Context) (c d : Chunk) (a b x y : List ℕ) → IsChunkText ctx c a → IsChunkText ctx d b → a ++ x ≡ b ++ y → (c ≡ d) × (a ≡ b)
one_reading ctx c d a b x y r s e =
    let k = whole_is c d (length a) (length b) (sym (at_complete ctx c a x r) ∙ ap (standing_at ctx) e ∙ at_complete ctx d b y s) in
    (k.0, sym (take_at a x (length a) refl) ∙ ap (take (length a)) e ∙ take_at b y (length a) (sym k.1))
