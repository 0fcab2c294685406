-- A file has parts, and only one list of them.
use Rattle.std.proofs.Common.{◌≡◌, ℕ, zero, suc, ◌+◌, ◌<◌, Bool, true, false, List, [], ◌∷◌, ◌++◌, length, take, drop, Some, refl, sym, ap, ◌∙◌, subst, arith, inl, inr, ◌⊎◌}
use Rattle.std.specs.Prelude.{slice_index}
use Rattle.std.proofs.lemmas.Bool.{cases_lt, cases_Bool, false≢true}
use Rattle.std.proofs.lemmas.List.{length-append, length-take-le, length-drop, take-append-drop, take_at, drop_at, append-nil}
use Rattle.memchr.specs.Find.{OccursAt, occurs_at}
use Rattle.memchr.proofs.lemmas.MatchLemmas.{OccursAt-true, occurs_at-true}
use Rattle.xdf_model_laws.proofs.Bytes.{IsBytes, IsBytes-rest}
use Rattle.chunk_grammar.specs.declared.chunk.Chunk.{Chunk}
use Rattle.chunk_grammar.specs.Chunk.{Context, context_after, IsChunkText, boundary_bytes, magic}
use Rattle.chunk_grammar.specs.Standing.{Standing, whole, torn, bad, standing_at, IsWhole}
use Rattle.chunk_laws.proofs.Places.{at_sound, at_complete, one_reading}
use Rattle.file_laws.proofs.Fronts.{not_whole, text_takes}
use Rattle.boundary_search.specs.Parts.{Part, kept, skipped, part_bytes, context_behind, context_behind_all, HasBoundary, HasNoBoundary, FindsBoundary, EndsWithFirst, IsBad, IsSkipped, IsPart, AreFirstParts, AreSalvageParts, IsStuck, AreCountedParts}
use Rattle.boundary_search.proofs.Found.{boundary_more, boundary_less, boundary_ahead, range_ends}

-- ---- Ranges.

boundary_itself : HasBoundary boundary_bytes 0
boundary_itself = record { fits = omega arith; reads = λ j lt. ap (slice_index boundary_bytes) (omega arith) }

range_size : (range : List ℕ) (h : EndsWithFirst range) → length range ≡ length h.front + 16
range_size range h = ap length h.ends ∙ length-append h.front boundary_bytes

-- a range's last bytes are a boundary's
ends_there : (range : List ℕ) (h : EndsWithFirst range) → HasBoundary range (length h.front)
ends_there range h =
    let place : length h.front + 0 ≡ length h.front = omega arith in
    let stands : HasBoundary (h.front ++ boundary_bytes) (length h.front + 0) = boundary_ahead h.front boundary_bytes 0 boundary_itself in
    subst (λ (t : List ℕ). HasBoundary t (length h.front)) (sym h.ends) (subst (HasBoundary (h.front ++ boundary_bytes)) place stands)

not_shorter : (x y r s : List ℕ) → EndsWithFirst x → EndsWithFirst y → x ++ r ≡ y ++ s → length x < length y → ⊥
not_shorter x y r s h k e lt =
    let n : ℕ = length h.front in
    let one = range_size x h in
    let two = range_size y k in
    let stands : HasBoundary (y ++ s) n = subst (λ (t : List ℕ). HasBoundary t n) e (boundary_more x r n (ends_there x h)) in
    k.first n (omega arith) (boundary_less y s n (omega arith) stands)

same_front : (x y r s : List ℕ) → x ++ r ≡ y ++ s → length x ≡ length y → x ≡ y
same_front x y r s e size = sym (take_at x r (length x) refl) ∙ ap (take (length x)) e ∙ take_at y s (length x) (sym size)

same_behind : (x y r s : List ℕ) → x ++ r ≡ y ++ s → x ≡ y → r ≡ s
same_behind x y r s e same = sym (drop_at x r (length x) refl) ∙ ap (drop (length x)) e ∙ drop_at y s (length x) (sym (ap length same))

-- two ranges that end with the first one, of the same bytes
one_range : (x y r s : List ℕ) → EndsWithFirst x → EndsWithFirst y → x ++ r ≡ y ++ s → x ≡ y
one_range x y r s h k e =
    elim (cases_lt (length x) (length y)) [
      | inl short ↦ absurd (not_shorter x y r s h k e short)
      | inr long ↦ elim (cases_lt (length y) (length x)) [
        | inl short ↦ absurd (not_shorter y x s r k h (sym e) short)
        | inr other ↦ same_front x y r s e (omega arith)
      ]
    ]

-- bytes that begin with such a range have a boundary's
none_in : (x r b : List ℕ) → EndsWithFirst x → b ≡ x ++ r → HasNoBoundary b → ⊥
none_in x r b h e none = none (length h.front) (subst (λ (t : List ℕ). HasBoundary t (length h.front)) (sym e) (boundary_more x r (length h.front) (ends_there x h)))

-- ---- A part is determined.

one_skipped : (ctx : Context) (x y r s : List ℕ) → IsSkipped ctx x r → IsSkipped ctx y s → x ++ r ≡ y ++ s → x ≡ y
one_skipped ctx x y r s h k e =
    elim h.ends [
      | inl a ↦ elim k.ends [
        | inl b ↦ one_range x y r s a b e
        | inr b ↦ absurd (none_in x r y a (sym (e ∙ ap (λ (t : List ℕ). y ++ t) b.0 ∙ append-nil y)) b.1)
      ]
      | inr a ↦ elim k.ends [
        | inl b ↦ absurd (none_in y s x b (sym (sym e ∙ ap (λ (t : List ℕ). x ++ t) a.0 ∙ append-nil x)) a.1)
        | inr b ↦ sym (append-nil x) ∙ ap (λ (t : List ℕ). x ++ t) (sym a.0) ∙ e ∙ ap (λ (t : List ℕ). y ++ t) b.0 ∙ append-nil y
      ]
    ]

text_stands : (ctx : Context) (c : Chunk) (x r b : List ℕ) → IsChunkText ctx c x → x ++ r ≡ b → standing_at ctx b ≡ whole c (length x)
text_stands ctx c x r b h e = ap (standing_at ctx) (sym e) ∙ at_complete ctx c x r h

-- no range is skipped where a chunk's text stands
not_skipped : (ended : Bool) (ctx : Context) (c : Chunk) (x y r s : List ℕ) → IsChunkText ctx c x → IsPart ended ctx (skipped y) s → x ++ r ≡ y ++ s → ⊥
not_skipped true ctx c x y r s h k e = k.none_stands (subst IsWhole (sym (text_stands ctx c x r (y ++ s) h e)) tt)
not_skipped false ctx c x y r s h k e = let q : IsBad (whole c (length x)) = subst IsBad (text_stands ctx c x r (y ++ s) h e) k.bad in q

one_part : (ended : Bool) (ctx : Context) (p q : Part) (r s : List ℕ) → IsPart ended ctx p r → IsPart ended ctx q s → part_bytes p ++ r ≡ part_bytes q ++ s → p ≡ q
one_part ended ctx (kept c x) (kept d y) r s h k e = let one = one_reading ctx c d x y r s h k e in cc
one_part ended ctx (kept c x) (skipped y) r s h k e = absurd (not_skipped ended ctx c x y r s h k e)
one_part ended ctx (skipped x) (kept d y) r s h k e = absurd (not_skipped ended ctx d y x s r k h (sym e))
one_part true ctx (skipped x) (skipped y) r s h k e = ap (λ (t : List ℕ). skipped t) (one_skipped ctx x y r s h k e)
one_part false ctx (skipped x) (skipped y) r s h k e = ap (λ (t : List ℕ). skipped t) (one_range x y r s h.ends k.ends e)

-- ---- A list of parts is determined by where it ends.

-- no part stands at the front
abbrev Stops : Bool → Context → List ℕ → Type 0
Stops ended ctx b = (p : Part) (behind : List ℕ) → IsPart ended ctx p behind → b ≡ part_bytes p ++ behind → ⊥

one_list : (ended : Bool) (ctx : Context) (x y : List Part) (b r s : List ℕ) → AreFirstParts ended ctx x b r → AreFirstParts ended ctx y b s
    → Stops ended (context_behind_all ctx x) r → Stops ended (context_behind_all ctx y) s → x ≡ y
one_list ended ctx [] [] b r s h k m n = refl
one_list ended ctx [] (q ∷ y) b r s h k m n = absurd (m q k.0 k.2 (sym h ∙ k.1))
one_list ended ctx (p ∷ x) [] b r s h k m n = absurd (n p h.0 h.2 (sym k ∙ h.1))
one_list ended ctx (p ∷ x) (q ∷ y) b r s h k m n =
    let parts : part_bytes p ++ h.0 ≡ part_bytes q ++ k.0 = sym h.1 ∙ k.1 in
    let one : p ≡ q = one_part ended ctx p q h.0 k.0 h.2 k.2 parts in
    let behind : h.0 ≡ k.0 = same_behind (part_bytes p) (part_bytes q) h.0 k.0 parts (ap part_bytes one) in
    let moved : AreFirstParts ended (context_behind ctx p) y k.0 s = subst (λ (t : Part). AreFirstParts ended (context_behind ctx t) y k.0 s) (sym one) k.3 in
    let more : AreFirstParts ended (context_behind ctx p) y h.0 s = subst (λ (t : List ℕ). AreFirstParts ended (context_behind ctx p) y t s) (sym behind) moved in
    let stops : Stops ended (context_behind_all (context_behind ctx p) y) s = subst (λ (t : Part). Stops ended (context_behind_all (context_behind ctx t) y) s) (sym one) n in
    let rest : x ≡ y = one_list ended (context_behind ctx p) x y h.0 r s h.3 more m stops in
    cc

part_takes : (ctx : Context) (p : Part) (behind : List ℕ) → IsPart true ctx p behind → 0 < length (part_bytes p)
part_takes ctx (kept c x) behind h = text_takes ctx c x h
part_takes ctx (skipped x) behind h = h.some

end_stops : (ctx : Context) → Stops true ctx []
end_stops ctx p behind h e = let some = part_takes ctx p behind h in absurd (omega (arith, ap length e, length-append (part_bytes p) behind))

stuck_stops : (ctx : Context) (b : List ℕ) → IsStuck ctx b → Stops false ctx b
stuck_stops ctx b stuck (kept c x) behind h e =
    let stands = text_stands ctx c x behind b h (sym e) in
    elim stuck [
      | inl is_torn ↦ not_whole (standing_at ctx b) is_torn (subst IsWhole (sym stands) tt)
      | inr is_bad ↦ let q : IsBad (whole c (length x)) = subst IsBad stands is_bad.0 in q
    ]
stuck_stops ctx b stuck (skipped x) behind h e =
    elim stuck [
      | inl is_torn ↦ let q : IsBad torn = subst IsBad (ap (standing_at ctx) (sym e) ∙ is_torn) h.bad in q
      | inr is_bad ↦ none_in x behind b h.ends e is_bad.1
    ]

same_rest : (b r s : List ℕ) → b ≡ magic ++ r → b ≡ magic ++ s → r ≡ s
same_rest b r s e f = same_behind magic magic r s (sym e ∙ f) refl

pub salvage_one : (b : List ℕ) (x y : List Part) → AreSalvageParts b x → AreSalvageParts b y → x ≡ y
salvage_one b x y h k =
    let same : h.rest ≡ k.rest = same_rest b h.rest k.rest h.begins k.begins in
    let all : AreFirstParts true [] y h.rest [] = subst (λ (t : List ℕ). AreFirstParts true [] y t []) (sym same) k.all in
    one_list true [] x y h.rest [] [] h.all all (end_stops (context_behind_all [] x)) (end_stops (context_behind_all [] y))

pub counted_one : (b : List ℕ) (limit : ℕ) (x y : List Part) → AreCountedParts b limit x → AreCountedParts b limit y → x ≡ y
counted_one b limit x y h k =
    let same : h.rest ≡ k.rest = same_rest (take limit b) h.rest k.rest h.begins k.begins in
    let first : AreFirstParts false [] y h.rest k.left = subst (λ (t : List ℕ). AreFirstParts false [] y t k.left) (sym same) k.first in
    one_list false [] x y h.rest h.left k.left h.first first (stuck_stops (context_behind_all [] x) h.left h.stuck) (stuck_stops (context_behind_all [] y) k.left k.stuck)

-- ---- Parts of any bytes.

-- the first occurrence at or past a place below which there is none
look : (hay needle : List ℕ) (n i : ℕ) → length hay < i + n → ((k : ℕ) → k < i → OccursAt hay needle k → ⊥)
    → ((k : ℕ) × OccursAt hay needle k × ((j : ℕ) → j < k → OccursAt hay needle j → ⊥)) ⊎ ((k : ℕ) → OccursAt hay needle k → ⊥)
look hay needle zero i far none = inr (λ k h. none k (omega (arith, h.fits)) h)
look hay needle (suc n) i far none =
    elim (cases_Bool (occurs_at hay needle i)) [
      | inl here ↦ inl (i, OccursAt-true hay needle i here, none)
      | inr not_here ↦ look hay needle n (i + 1) (omega arith) (λ k lt h. elim (cases_lt k i) [
        | inl before ↦ none k before h
        | inr past ↦
            let same : k ≡ i = omega arith in
            false≢true (sym not_here ∙ occurs_at-true hay needle i (subst (OccursAt hay needle) same h))
      ])
    ]

first_boundary : (b : List ℕ) → ((i : ℕ) × FindsBoundary b 0 (Some i)) ⊎ HasNoBoundary b
first_boundary b =
    elim (look b boundary_bytes (length b + 1) 0 (omega arith) (λ k lt h. absurd (omega arith))) [
      | inl k ↦ inl (k.0, (omega arith, k.1, (λ j low high h. k.2 j high h)))
      | inr none ↦ inr none
    ]

abbrev HasParts : Context → List ℕ → Type 0
HasParts ctx b = (parts : List Part) × AreFirstParts true ctx parts b []

skip_range : (ctx : Context) (b : List ℕ) (i : ℕ) → FindsBoundary b 0 (Some i) → (IsWhole (standing_at ctx b) → ⊥) → HasParts ctx (drop (i + 16) b) → HasParts ctx b
skip_range ctx b i found none more =
    let range : List ℕ = take (i + 16) b in
    let behind : List ℕ = drop (i + 16) b in
    let ends = range_ends b i found in
    let all : range ++ behind ≡ b = take-append-drop (i + 16) b in
    let is : IsSkipped ctx range behind = record {
      some = omega (arith, length-take-le (i + 16) b ends.1);
      none_stands = λ w. none (subst (λ (t : List ℕ). IsWhole (standing_at ctx t)) all w);
      ends = inl ends.0;
    } in
    (skipped range ∷ more.0, (behind, sym all, is, more.1))

skip_all : (ctx : Context) (x : ℕ) (b : List ℕ) → HasNoBoundary (x ∷ b) → (IsWhole (standing_at ctx (x ∷ b)) → ⊥) → HasParts ctx (x ∷ b)
skip_all ctx x b nowhere none =
    let all : (x ∷ b) ++ [] ≡ x ∷ b = append-nil (x ∷ b) in
    let is : IsSkipped ctx (x ∷ b) [] = record {
      some = omega arith;
      none_stands = λ w. none (subst (λ (t : List ℕ). IsWhole (standing_at ctx t)) all w);
      ends = inr (refl, nowhere);
    } in
    (skipped (x ∷ b) ∷ [], ([], sym all, is, refl))

skip_or_end : (n : ℕ) (ctx : Context) (b : List ℕ) → ((y : List ℕ) → IsBytes y → length y < n → HasParts ctx y) → IsBytes b → length b < suc n → (IsWhole (standing_at ctx b) → ⊥) → HasParts ctx b
skip_or_end n ctx [] more h lt none = ([], refl)
skip_or_end n ctx (x ∷ b) more h lt none =
    elim (first_boundary (x ∷ b)) [
      | inl k ↦
          let rest : List ℕ = drop (k.0 + 16) (x ∷ b) in
          let is : IsBytes rest = IsBytes-rest (take (k.0 + 16) (x ∷ b)) rest (x ∷ b) h (sym (take-append-drop (k.0 + 16) (x ∷ b))) in
          skip_range ctx (x ∷ b) k.0 k.1 none (more rest is (omega (arith, length-drop (k.0 + 16) (x ∷ b))))
      | inr nowhere ↦ skip_all ctx x b nowhere none
    ]

parts_of : (n : ℕ) (ctx : Context) (b : List ℕ) → IsBytes b → length b < n → HasParts ctx b
parts_of zero ctx b h lt = absurd (omega arith)
parts_of (suc n) ctx b h lt =
    let go : (s : Standing) → standing_at ctx b ≡ s → HasParts ctx b = λ s. elim s as (λ v. standing_at ctx b ≡ v → HasParts ctx b) [
      | whole c u ↦ λ e.
          let k = at_sound ctx b c u h e in
          let shorter : length k.1 < n = omega (arith, ap length k.3, length-append k.0 k.1, text_takes ctx c k.0 k.2) in
          let more = parts_of n (context_after ctx c) k.1 (IsBytes-rest k.0 k.1 b h k.3) shorter in
          (kept c k.0 ∷ more.0, (k.1, k.3, k.2, more.1))
      | torn ↦ λ e. skip_or_end n ctx b (parts_of n ctx) h lt (not_whole (standing_at ctx b) e)
      | bad place reason ↦ λ e. skip_or_end n ctx b (parts_of n ctx) h lt (λ w. let q : IsWhole (bad place reason) = subst IsWhole e w in q)
    ] in go (standing_at ctx b) refl

pub has_parts : (y : List ℕ) → IsBytes y → (parts : List Part) × AreSalvageParts (magic ++ y) parts
has_parts y h =
    let k = parts_of (length y + 1) [] y h (omega arith) in
    (k.0, record { rest = y; begins = refl; all = k.1 })
