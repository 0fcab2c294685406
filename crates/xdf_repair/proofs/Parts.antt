-- The parts of a damaged file, one more at a time.
use Rattle.std.proofs.Common.{◌≡◌, ℕ, ◌+◌, ◌-◌, ◌<◌, Bool, false, true, IsTrue, List, [], ◌∷◌, ◌++◌, length, take, drop, inl, refl, sym, ap, ◌∙◌, subst, append_assoc, arith}
use Rattle.std.proofs.lemmas.List.{append-nil, length-append, take-append-drop}
use Rattle.chunk_grammar.specs.declared.chunk.Chunk.{Chunk}
use Rattle.chunk_grammar.specs.Chunk.{Context, boundary_bytes}
use Rattle.chunk_grammar.specs.Standing.{Standing, whole, torn, bad, standing_at, IsWhole}
use Rattle.chunk_laws.proofs.MoreBytes.{at_more}
use Rattle.boundary_search.proofs.Searching.{take_split}
use Rattle.boundary_search.specs.Parts.{Part, kept, skipped, part_bytes, context_behind, context_behind_all, EndsWithFirst, IsBad, IsPart, AreFirstParts, kept_bytes, kept_chunks, skipped_size}

-- ---- what is bad

bad_is_not_torn : (x : Standing) → IsBad x → x ≡ torn → ⊥
bad_is_not_torn (whole c used) h e = h
bad_is_not_torn torn h e = h
bad_is_not_torn (bad place why) h e = cc

bad_is_not_whole : (x : Standing) → IsBad x → IsWhole x → ⊥
bad_is_not_whole (whole c used) h w = h
bad_is_not_whole torn h w = h
bad_is_not_whole (bad place why) h w = w

-- what ends with a boundary's bytes has at least one byte
long_range : (range : List ℕ) → EndsWithFirst range → 0 < length range
long_range range e = omega (arith, ap length e.ends, length-append e.front boundary_bytes)

-- ---- more bytes behind

-- a part that is sure stays one
pub part_more : (ctx : Context) (p : Part) (behind more : List ℕ) → IsPart false ctx p behind → IsPart false ctx p (behind ++ more)
part_more ctx (kept c text) behind more h = h
part_more ctx (skipped range) behind more h = record {
  bad =
      let b = range ++ behind in
      let same : standing_at ctx (range ++ (behind ++ more)) ≡ standing_at ctx b =
      ap (standing_at ctx) (sym (append_assoc range behind more)) ∙ at_more ctx b more (bad_is_not_torn (standing_at ctx b) h.bad) in
      subst IsBad (sym same) h.bad;
  ends = h.ends;
}

-- and is one where nothing follows
pub part_sure : (ctx : Context) (p : Part) (behind : List ℕ) → IsPart false ctx p behind → IsPart true ctx p behind
part_sure ctx (kept c text) behind h = h
part_sure ctx (skipped range) behind h = record {
  some = long_range range h.ends;
  none_stands = bad_is_not_whole (standing_at ctx (range ++ behind)) h.bad;
  ends = inl h.ends;
}

-- one that is sure of the first bytes is one of all
pub part_of_first : (ctx : Context) (p : Part) (n : ℕ) (b : List ℕ) → IsPart false ctx p (take n b) → IsPart false ctx p b
part_of_first ctx p n b h = subst (λ (l : List ℕ). IsPart false ctx p l) (take-append-drop n b) (part_more ctx p (take n b) (drop n b) h)

pub part_by : (ended : Bool) (ctx : Context) (p : Part) (b : List ℕ) → (ended ≡ false → IsPart false ctx p b) → (IsTrue ended → IsPart true ctx p b) → IsPart ended ctx p b
part_by false ctx p b sure all = sure refl
part_by true ctx p b sure all = all refl

first_more : (ctx : Context) (ps : List Part) (b rest more : List ℕ) → AreFirstParts false ctx ps b rest → AreFirstParts false ctx ps (b ++ more) (rest ++ more)
first_more ctx [] b rest more h = ap (λ (l : List ℕ). l ++ more) h
first_more ctx (p ∷ ps) b rest more h = (
  h.0 ++ more,
  ap (λ (l : List ℕ). l ++ more) h.1 ∙ append_assoc (part_bytes p) h.0 more,
  part_more ctx p h.0 more h.2,
  first_more (context_behind ctx p) ps h.0 rest more h.3,
)

first_sure : (ctx : Context) (ps : List Part) (b rest : List ℕ) → AreFirstParts false ctx ps b rest → AreFirstParts true ctx ps b rest
first_sure ctx [] b rest h = h
first_sure ctx (p ∷ ps) b rest h = (h.0, h.1, part_sure ctx p h.0 h.2, first_sure (context_behind ctx p) ps h.0 rest h.3)

-- more bytes were taken, or it turned out that nothing follows
pub first_grow : (old new : Bool) (ctx : Context) (ps : List Part) (b rest more : List ℕ) → (IsTrue old → IsTrue new) → (IsTrue old → more ≡ []) → AreFirstParts old ctx ps b rest → AreFirstParts new ctx ps (b ++ more) (rest ++ more)
first_grow false false ctx ps b rest more still none h = first_more ctx ps b rest more h
first_grow false true ctx ps b rest more still none h = first_sure ctx ps (b ++ more) (rest ++ more) (first_more ctx ps b rest more h)
first_grow true false ctx ps b rest more still none h = let wrong = still refl in absurd cc
first_grow true true ctx ps b rest more still none h =
    let P : List ℕ → List ℕ → Type 0 = λ x y. AreFirstParts true ctx ps x y in
    let same : (l : List ℕ) → l ≡ l ++ more = λ l. sym (ap (λ (m : List ℕ). l ++ m) (none refl) ∙ append-nil l) in
    subst (λ (y : List ℕ). P (b ++ more) y) (same rest) (subst (λ (x : List ℕ). P x rest) (same b) h)

-- of the bytes that count, as many more were taken as count
pub first_counted : (ctx : Context) (ps : List Part) (n m : ℕ) (b rest more : List ℕ) → n - length b ≡ m - length rest → AreFirstParts false ctx ps (take n b) (take m rest) → AreFirstParts false ctx ps (take n (b ++ more)) (take m (rest ++ more))
first_counted ctx ps n m b rest more same h =
    let P : List ℕ → List ℕ → Type 0 = λ x y. AreFirstParts false ctx ps x y in
    let further : List ℕ = take (n - length b) more in
    let left : take n b ++ further ≡ take n (b ++ more) = sym (take_split n b more) in
    let right : take m rest ++ further ≡ take m (rest ++ more) = ap (λ (k : ℕ). take m rest ++ take k more) same ∙ sym (take_split m rest more) in
    subst (λ (y : List ℕ). P (take n (b ++ more)) y) right (subst (λ (x : List ℕ). P x (take m rest ++ further)) left (first_more ctx ps (take n b) (take m rest) further h))

-- ---- one part more

pub first_and_one : (ended : Bool) (ctx : Context) (ps : List Part) (p : Part) (b rest : List ℕ) → AreFirstParts ended ctx ps b (part_bytes p ++ rest) → IsPart ended (context_behind_all ctx ps) p rest → AreFirstParts ended ctx (ps ++ p ∷ []) b rest
first_and_one ended ctx [] p b rest h is = (rest, h, is, refl)
first_and_one ended ctx (q ∷ ps) p b rest h is = (h.0, h.1, h.2, first_and_one ended (context_behind ctx q) ps p h.0 rest h.3 is)

pub context_and_one : (ctx : Context) (ps : List Part) (p : Part) → context_behind_all ctx (ps ++ p ∷ []) ≡ context_behind (context_behind_all ctx ps) p
context_and_one ctx [] p = refl
context_and_one ctx (q ∷ ps) p = context_and_one (context_behind ctx q) ps p

pub kept_and_chunk : (ps : List Part) (c : Chunk) (text : List ℕ) → kept_bytes (ps ++ kept c text ∷ []) ≡ kept_bytes ps ++ text
kept_and_chunk [] c text = append-nil text
kept_and_chunk (kept d x ∷ ps) c text = ap (λ (l : List ℕ). x ++ l) (kept_and_chunk ps c text) ∙ sym (append_assoc x (kept_bytes ps) text)
kept_and_chunk (skipped range ∷ ps) c text = kept_and_chunk ps c text

pub kept_and_range : (ps : List Part) (range : List ℕ) → kept_bytes (ps ++ skipped range ∷ []) ≡ kept_bytes ps
kept_and_range [] range = refl
kept_and_range (kept d x ∷ ps) range = ap (λ (l : List ℕ). x ++ l) (kept_and_range ps range)
kept_and_range (skipped x ∷ ps) range = kept_and_range ps range

pub count_and_chunk : (ps : List Part) (c : Chunk) (text : List ℕ) → length (kept_chunks (ps ++ kept c text ∷ [])) ≡ length (kept_chunks ps) + 1
count_and_chunk [] c text = refl
count_and_chunk (kept d x ∷ ps) c text = omega (arith, count_and_chunk ps c text)
count_and_chunk (skipped range ∷ ps) c text = count_and_chunk ps c text

pub count_and_range : (ps : List Part) (range : List ℕ) → kept_chunks (ps ++ skipped range ∷ []) ≡ kept_chunks ps
count_and_range [] range = refl
count_and_range (kept d x ∷ ps) range = ap (λ (l : List Chunk). d ∷ l) (count_and_range ps range)
count_and_range (skipped x ∷ ps) range = count_and_range ps range

pub skipped_and_chunk : (ps : List Part) (c : Chunk) (text : List ℕ) → skipped_size (ps ++ kept c text ∷ []) ≡ skipped_size ps
skipped_and_chunk [] c text = refl
skipped_and_chunk (kept d x ∷ ps) c text = skipped_and_chunk ps c text
skipped_and_chunk (skipped range ∷ ps) c text = ap (λ (n : ℕ). length range + n) (skipped_and_chunk ps c text)

pub skipped_and_range : (ps : List Part) (range : List ℕ) → skipped_size (ps ++ skipped range ∷ []) ≡ skipped_size ps + length range
skipped_and_range [] range = omega arith
skipped_and_range (kept d x ∷ ps) range = skipped_and_range ps range
skipped_and_range (skipped x ∷ ps) range = omega (arith, skipped_and_range ps range)
