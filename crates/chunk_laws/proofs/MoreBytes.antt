-- More bytes behind an answer other than torn do not change it.
use Rattle.std.proofs.Common.{◌≡◌, ℕ, ◌+◌, ◌-◌, ◌≤◌, Bool, true, false, cond, ltb, List, [], ◌∷◌, ◌++◌, length, take, drop, refl, ap, ◌∙◌, arith, inl, inr}
use Rattle.std.proofs.lemmas.Bool.{cases_lt, le-ltb, lt-ltb}
use Rattle.std.proofs.lemmas.List.{length-append, length-drop, take-append-le, drop-append-le}
use Rattle.byteorder.specs.Endian.{little_number}
use Rattle.byteorder.specs.Numbers.{little_from-append}
use Rattle.xdf_model.specs.declared.types.NumRead.{NumRead}
use Rattle.xdf_model.specs.declared.types.NumRead.TheVariants.{Read, Short, BadWidth}
use Rattle.xdf_model.specs.Varlen.{is_width, varlen_at}
use Rattle.chunk_grammar.specs.Chunk.{Context, length_limit}
use Rattle.chunk_grammar.specs.Standing.{torn, chunk_at, standing_from, standing_at}

-- the front of some bytes as a number, where the width byte is good or not
abbrev num_of : Bool → ℕ → List ℕ → NumRead
num_of good w b = cond good (cond (ltb (length b) w) Short (Read (little_number w b) (w + 1))) (BadWidth w)

num_of_more : (good : Bool) (w : ℕ) (b more : List ℕ) → (num_of good w b ≡ Short → ⊥) → num_of good w (b ++ more) ≡ num_of good w b
num_of_more false w b more h = refl
num_of_more true w b more h =
    elim (cases_lt (length b) w) [
      | inl few ↦ let t : ltb (length b) w ≡ true = lt-ltb _ _ few in absurd (h (rw t refl))
      | inr enough ↦
          let t : ltb (length b) w ≡ false = le-ltb _ _ enough in
          let u : ltb (length (b ++ more)) w ≡ false = le-ltb _ _ (omega (arith, length-append b more)) in
          let n : little_number w (b ++ more) ≡ little_number w b = little_from-append w b more enough in
          rw (t, u, n) refl
    ]

num_more : (b more : List ℕ) → (varlen_at b ≡ Short → ⊥) → varlen_at (b ++ more) ≡ varlen_at b
unfolding varlen_at
num_more [] more h = absurd (h refl)
num_more (w ∷ b) more h = num_of_more (is_width w) w b more h

num_of_within : (good : Bool) (w : ℕ) (b : List ℕ) (n used : ℕ) → num_of good w b ≡ Read n used → used ≤ length b + 1
num_of_within false w b n used e = absurd cc
num_of_within true w b n used e =
    elim (cases_lt (length b) w) [
      | inl few ↦ let t : ltb (length b) w ≡ true = lt-ltb _ _ few in absurd (let f : Short ≡ Read n used = rw t at e in cc)
      | inr enough ↦
          let t : ltb (length b) w ≡ false = le-ltb _ _ enough in
          let f : Read (little_number w b) (w + 1) ≡ Read n used = rw t at e in
          let u : w + 1 ≡ used = cc in omega arith
    ]

num_within : (b : List ℕ) (n used : ℕ) → varlen_at b ≡ Read n used → used ≤ length b
unfolding varlen_at
num_within [] n used e = absurd cc
num_within (w ∷ b) n used e = let k = num_of_within (is_width w) w b n used e in omega arith

chunk_more : (ctx : Context) (n place : ℕ) (b more : List ℕ) → (chunk_at ctx n place b ≡ torn → ⊥) → chunk_at ctx n place (b ++ more) ≡ chunk_at ctx n place b
chunk_more ctx n place b more h =
    elim (cases_lt n 2) [
      | inl little ↦ let t : ltb n 2 ≡ true = lt-ltb _ _ little in rw t refl
      | inr low ↦ elim (cases_lt length_limit n) [
        | inl much ↦ let t : ltb n 2 ≡ false = le-ltb _ _ low in let u : ltb length_limit n ≡ true = lt-ltb _ _ much in rw (t, u) refl
        | inr high ↦ elim (cases_lt (length b) n) [
          | inl few ↦
              let t : ltb n 2 ≡ false = le-ltb _ _ low in let u : ltb length_limit n ≡ false = le-ltb _ _ high in let v : ltb (length b) n ≡ true = lt-ltb _ _ few in
              absurd (h (rw (t, u, v) refl))
          | inr enough ↦
              let v : ltb (length b) n ≡ false = le-ltb _ _ enough in
              let w : ltb (length (b ++ more)) n ≡ false = le-ltb _ _ (omega (arith, length-append b more)) in
              let tag : little_number 2 (b ++ more) ≡ little_number 2 b = little_from-append 2 b more (omega arith) in
              let inner : take (n - 2) (drop 2 (b ++ more)) ≡ take (n - 2) (drop 2 b) = ap (take (n - 2)) (drop-append-le 2 b more (omega arith)) ∙ take-append-le (n - 2) (drop 2 b) more (omega (arith, length-drop 2 b)) in
              rw (v, w, tag, inner) refl
        ]
      ]
    ]

from_more : (ctx : Context) (b more : List ℕ) (r : NumRead) → varlen_at b ≡ r → (standing_from ctx b r ≡ torn → ⊥) → standing_from ctx (b ++ more) r ≡ standing_from ctx b r
from_more ctx b more (Read n used) e h =
    rw (drop-append-le used b more (num_within b n used e)) (chunk_more ctx n used (drop used b) more h)
from_more ctx b more Short e h = absurd (h refl)
from_more ctx b more (BadWidth w) e h = refl

pub at_more : (ctx : Context) (b more : List ℕ) → (standing_at ctx b ≡ torn → ⊥) → standing_at ctx (b ++ more) ≡ standing_at ctx b
unfolding standing_at
at_more ctx b more h =
    let front : varlen_at (b ++ more) ≡ varlen_at b = num_more b more (λ e. h (rw e refl)) in
    rw front (from_more ctx b more (varlen_at b) refl h)
