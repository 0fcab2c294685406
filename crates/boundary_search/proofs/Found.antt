-- Where a boundary's bytes stand, in bytes that are gone past piece by piece.
use Rattle.std.proofs.Common.{◌≡◌, ℕ, ◌+◌, ◌-◌, ◌<◌, ◌≤◌, List, [], ◌++◌, length, take, drop, Some, None, refl, sym, ap, ◌∙◌, subst, append_assoc, arith, inl, inr, ◌⊎◌}
use Rattle.std.proofs.Math.ListN.{get_or-append}
use Rattle.std.proofs.lemmas.Bool.{cases_lt}
use Rattle.std.proofs.lemmas.List.{length-append, length-take-le, length-drop, take-append-drop, get_or-append-add, take_at, append-nil}
use Rattle.std.specs.Prelude.{slice_index}
use Rattle.memchr.specs.Find.{FindsNeedle}
use Rattle.memchr.proofs.lemmas.MatchLemmas.{OccursAt-split}
use Rattle.chunk_grammar.specs.Chunk.{boundary_bytes}
use Rattle.file_laws.proofs.Cuts.{take_all}
use Rattle.boundary_search.specs.Parts.{HasBoundary, HasNoBoundary, FindsBoundary, EndsWithFirst}

-- ---- A boundary's bytes in a part and in the whole.

pub boundary_more : (b more : List ℕ) (k : ℕ) → HasBoundary b k → HasBoundary (b ++ more) k
boundary_more b more k h = record {
  fits = omega (arith, h.fits, length-append b more);
  reads = λ j lt. get_or-append b more 0 (k + j) (omega (arith, h.fits)) ∙ h.reads j lt;
}

pub boundary_less : (b more : List ℕ) (k : ℕ) → k + 16 ≤ length b → HasBoundary (b ++ more) k → HasBoundary b k
boundary_less b more k within h = record {
  fits = within;
  reads = λ j lt. sym (get_or-append b more 0 (k + j) (omega arith)) ∙ h.reads j lt;
}

pub boundary_behind : (a b : List ℕ) (k : ℕ) → HasBoundary (a ++ b) (length a + k) → HasBoundary b k
boundary_behind a b k h = record {
  fits = omega (arith, h.fits, length-append a b);
  reads = λ j lt.
      let place : length a + k + j ≡ length a + (k + j) = omega arith in
      sym (get_or-append-add a b (k + j) 0) ∙ ap (λ (n : ℕ). slice_index (a ++ b) n) (sym place) ∙ h.reads j lt;
}

-- what stands behind the first bytes, by its place among all
pub boundary_past : (a b : List ℕ) (place : ℕ) → length a ≤ place → HasBoundary (a ++ b) place → HasBoundary b (place - length a)
boundary_past a b place past h =
    let same : place ≡ length a + (place - length a) = omega arith in
    boundary_behind a b (place - length a) (subst (HasBoundary (a ++ b)) same h)

-- ---- A search.

regroup : (a b c d : List ℕ) → (a ++ (b ++ c)) ++ d ≡ (a ++ b) ++ (c ++ d)
regroup a b c d = simp append_assoc

-- no boundary's bytes begin before a place
abbrev pub HasNoneBefore : List ℕ → ℕ → Type 0
HasNoneBefore b n = (place : ℕ) → place < n → HasBoundary b place → ⊥

pub start : (b : List ℕ) → HasNoneBefore b 0
start b place lt h = absurd (omega arith)

-- the bytes up to behind a boundary end with it
front_of : (b : List ℕ) (i : ℕ) → HasBoundary b i → take (i + 16) b ≡ take i b ++ boundary_bytes
front_of b i h =
    let fits = h.fits in
    let front : length (take i b) ≡ i = length-take-le i b (omega arith) in
    let parts : b ≡ (take i b ++ boundary_bytes) ++ drop (i + 16) b = sym (take-append-drop i b) ∙ ap (λ (t : List ℕ). take i b ++ t) (OccursAt-split b boundary_bytes i h) ∙ sym (append_assoc (take i b) boundary_bytes (drop (i + 16) b)) in
    let size : length (take i b ++ boundary_bytes) ≡ i + 16 = omega (arith, length-append (take i b) boundary_bytes) in
    ap (take (i + 16)) parts ∙ take_at (take i b ++ boundary_bytes) (drop (i + 16) b) (i + 16) size

-- a search that found a boundary behind what it went past before
pub found : (gone w : List ℕ) (i : ℕ) → HasNoneBefore (gone ++ w) (length gone) → FindsBoundary w 0 (Some i) → EndsWithFirst (gone ++ take (i + 16) w)
found gone w i none h =
    let fits = h.1.fits in
    let front : length (take i w) ≡ i = length-take-le i w (omega arith) in
    let size : length (gone ++ take i w) ≡ length gone + i = omega (arith, length-append gone (take i w)) in
    let all : (gone ++ take (i + 16) w) ++ drop (i + 16) w ≡ gone ++ w = append_assoc gone (take (i + 16) w) (drop (i + 16) w) ∙ ap (λ (t : List ℕ). gone ++ t) (take-append-drop (i + 16) w) in
    record {
      front = gone ++ take i w;
      ends = ap (λ (t : List ℕ). gone ++ t) (front_of w i h.1) ∙ sym (append_assoc gone (take i w) boundary_bytes);
      first = λ place lt b.
          let whole : HasBoundary (gone ++ w) place = subst (λ (t : List ℕ). HasBoundary t place) all (boundary_more (gone ++ take (i + 16) w) (drop (i + 16) w) place b) in
          elim (cases_lt place (length gone)) [
            | inl before ↦ none place before whole
            | inr past ↦ h.2 (place - length gone) (omega arith) (omega arith) (boundary_past gone w place past whole)
          ];
    }

-- a search that went past all
pub none_at_all : (gone w : List ℕ) → HasNoneBefore (gone ++ w) (length gone) → HasNoBoundary w → HasNoBoundary (gone ++ w)
none_at_all gone w none h place b =
    elim (cases_lt place (length gone)) [
      | inl before ↦ none place before b
      | inr past ↦ h (place - length gone) (boundary_past gone w place past b)
    ]

-- a search that goes past all but the last fifteen bytes of those at hand. At first these may be fewer; later ones never are.
pub went_on : (gone w more : List ℕ) → (gone ≡ []) ⊎ (15 ≤ length w) → HasNoneBefore (gone ++ w) (length gone) → HasNoBoundary w
    → HasNoneBefore ((gone ++ w) ++ more) (length gone + (length w - 15))
went_on gone w more enough none h place lt b =
    let both = length-append gone w in
    let within : place + 16 ≤ length (gone ++ w) = elim enough [
      | inl first ↦ let empty : length gone ≡ 0 = ap length first in omega arith
      | inr many ↦ omega arith
    ] in none_at_all gone w none h place (boundary_less (gone ++ w) more place within b)

-- a search from the first byte of all
pub range_ends : (b : List ℕ) (i : ℕ) → FindsBoundary b 0 (Some i) → EndsWithFirst (take (i + 16) b) × (i + 16 ≤ length b)
range_ends b i h = (found [] b i (start b) h, h.1.fits)

-- what stays true of a search while more bytes are taken: no boundary's bytes begin in those that it went past, whatever follows those at hand
pub record HasNoneGone (gone w : List ℕ) : Type 0 where
  pub none : HasNoneBefore (gone ++ w) (length gone)
  pub enough : (gone ≡ []) ⊎ (15 ≤ length w)

pub none_gone : (w : List ℕ) → HasNoneGone [] w
none_gone w = record { none = start w; enough = inl refl }

pub none_gone_on : (gone w more : List ℕ) → HasNoneGone gone w → HasNoBoundary w → HasNoneGone (gone ++ take (length w - 15) w) (drop (length w - 15) w ++ more)
none_gone_on gone w more h none =
    let n : ℕ = length w - 15 in
    let front : List ℕ = take n w in
    let behind : List ℕ = drop n w in
    let size : length (gone ++ front) ≡ length gone + n = omega (arith, length-append gone front, length-take-le n w (omega arith)) in
    let same : (gone ++ w) ++ more ≡ (gone ++ front) ++ (behind ++ more) = ap (λ (t : List ℕ). (gone ++ t) ++ more) (sym (take-append-drop n w)) ∙ regroup gone front behind more in
    let moved : HasNoneBefore ((gone ++ front) ++ (behind ++ more)) (length gone + n) = subst (λ (t : List ℕ). HasNoneBefore t (length gone + n)) same (went_on gone w more h.enough h.none none) in
    record {
      none = subst (HasNoneBefore ((gone ++ front) ++ (behind ++ more))) (sym size) moved;
      enough = elim (cases_lt (length w) 15) [
        | inl few ↦ elim h.enough [
          | inl first ↦ let nothing : n ≡ 0 = omega arith in inl (ap (λ (k : ℕ). gone ++ take k w) nothing ∙ append-nil gone ∙ first)
          | inr many ↦ absurd (omega arith)
        ]
        | inr many ↦ inr (omega (arith, length-append behind more, length-drop n w))
      ];
    }

-- ---- A search in the bytes from a place on.

pub boundary_ahead : (a b : List ℕ) (k : ℕ) → HasBoundary b k → HasBoundary (a ++ b) (length a + k)
boundary_ahead a b k h = record {
  fits = omega (arith, h.fits, length-append a b);
  reads = λ j lt.
      let place : length a + k + j ≡ length a + (k + j) = omega arith in
      ap (λ (n : ℕ). slice_index (a ++ b) n) place ∙ get_or-append-add a b (k + j) 0 ∙ h.reads j lt;
}

pub boundary_from : (b : List ℕ) (from k : ℕ) → from ≤ length b → HasBoundary (drop from b) k → HasBoundary b (from + k)
boundary_from b from k within h =
    let front : length (take from b) ≡ from = length-take-le from b within in
    let moved : HasBoundary (take from b ++ drop from b) (length (take from b) + k) = boundary_ahead (take from b) (drop from b) k h in
    let here : HasBoundary b (length (take from b) + k) = subst (λ (t : List ℕ). HasBoundary t (length (take from b) + k)) (take-append-drop from b) moved in
    subst (λ (n : ℕ). HasBoundary b (n + k)) front here

pub boundary_to : (b : List ℕ) (from place : ℕ) → from ≤ length b → from ≤ place → HasBoundary b place → HasBoundary (drop from b) (place - from)
boundary_to b from place within past h =
    let front : length (take from b) ≡ from = length-take-le from b within in
    let split : HasBoundary (take from b ++ drop from b) place = subst (λ (t : List ℕ). HasBoundary t place) (sym (take-append-drop from b)) h in
    let low : length (take from b) ≤ place = omega arith in
    subst (λ (n : ℕ). HasBoundary (drop from b) (place - n)) front (boundary_past (take from b) (drop from b) place low split)

-- a slice up to the end
all_behind : (b : List ℕ) (from : ℕ) → take (length b - from) (drop from b) ≡ drop from b
all_behind b from = take_all (length b - from) (drop from b) (omega (arith, length-drop from b))

pub found_from : (b : List ℕ) (from i : ℕ) → from ≤ length b → FindsNeedle (take (length b - from) (drop from b)) boundary_bytes 0 (Some i) → FindsBoundary b from (Some (from + i))
found_from b from i within h =
    let all : FindsNeedle (drop from b) boundary_bytes 0 (Some i) = subst (λ (t : List ℕ). FindsNeedle t boundary_bytes 0 (Some i)) (all_behind b from) h in (
      omega arith,
      boundary_from b from i within all.1,
      (λ k low high stands. all.0.before (k - from) (omega arith) (omega arith) (boundary_to b from k within low stands)),
    )

pub none_from : (b : List ℕ) (from : ℕ) → from ≤ length b → FindsNeedle (take (length b - from) (drop from b)) boundary_bytes 0 None → FindsBoundary b from None
none_from b from within h k low stands =
    let all : FindsNeedle (drop from b) boundary_bytes 0 None = subst (λ (t : List ℕ). FindsNeedle t boundary_bytes 0 None) (all_behind b from) h in
    let moved = boundary_to b from k within low stands in
    all (k - from) (omega arith) (omega (arith, moved.fits)) moved
