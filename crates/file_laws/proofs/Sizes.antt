-- A whole chunk takes some bytes, and no more than there are; a fault stands within them or at their end.
use Rattle.std.proofs.Common.{◌≡◌, ℕ, ◌+◌, ◌-◌, ◌<◌, ◌≤◌, Bool, true, false, cond, ltb, List, length, take, drop, Ok, Err, refl, sym, ap, arith, inl, inr, ◌⊎◌}
use Rattle.std.proofs.lemmas.Bool.{ltb-false}
use Rattle.std.proofs.lemmas.List.{length-append, length-take, length-drop}
use Rattle.byteorder.specs.Endian.{little_number}
use Rattle.xdf_model.specs.declared.types.Why.{Why}
use Rattle.xdf_model.specs.declared.types.Why.TheVariants as kind
use Rattle.xdf_model.specs.declared.types.NumRead.{NumRead}
use Rattle.xdf_model.specs.declared.types.NumRead.TheVariants.{Read, Short, BadWidth}
use Rattle.xdf_model.specs.Varlen.{varlen_at}
use Rattle.xdf_model.specs.Reading.{outside, wrong}
use Rattle.xdf_model_laws.proofs.Bytes.{IsBytes}
use Rattle.xdf_model_laws.proofs.Readers.{num_sound}
use Rattle.chunk_grammar.specs.declared.chunk.Chunk.{Chunk}
use Rattle.chunk_grammar.specs.Chunk.{Context, length_limit}
use Rattle.chunk_grammar.specs.Standing.{Judged, content_at, whole, torn, bad, answer_of, standing_from, standing_at}
use Rattle.chunk_laws.proofs.Places.{at_exact}
use Rattle.file_laws.proofs.Fronts.{text_takes}

num_within : (b : List ℕ) (n used : ℕ) → IsBytes b → varlen_at b ≡ Read n used → used ≤ length b
num_within b n used h e = let k = num_sound b n used h e in omega (arith, k.2, ap length k.3, length-append k.0 (drop used b))

bad_is : (place off : ℕ) (reason why : Why) → bad place reason ≡ bad off why → place ≡ off
bad_is place off reason why e = cc

answer_place : (place : ℕ) (j : Judged) (off : ℕ) (why : Why) → answer_of place j ≡ bad off why → off ≤ place
answer_place place (Ok d) off why e = absurd cc
answer_place place (Err outside) off why e = absurd cc
answer_place place (Err (wrong left reason)) off why e = let same : place - left ≡ off = cc in omega arith

places : (little much few : Bool) (place : ℕ) (j : Judged) (off : ℕ) (why : Why) → cond little (bad 0 kind.LengthUnderTwo) (cond much (bad 0 kind.TooLong) (cond few torn (answer_of place j))) ≡ bad off why
    → (off ≡ 0) ⊎ ((few ≡ false) × (off ≤ place))
places true much few place j off why e = inl (sym (bad_is 0 off kind.LengthUnderTwo why e))
places false true few place j off why e = inl (sym (bad_is 0 off kind.TooLong why e))
places false false true place j off why e = absurd cc
places false false false place j off why e = inr (refl, answer_place place j off why e)

from_place : (ctx : Context) (b : List ℕ) (r : NumRead) (off : ℕ) (why : Why) → IsBytes b → varlen_at b ≡ r → standing_from ctx b r ≡ bad off why → off ≤ length b
from_place ctx b (Read n used) off why h f e =
    let rest : List ℕ = drop used b in
    let within = num_within b n used h f in
    elim (places (ltb n 2) (ltb length_limit n) (ltb (length rest) n) (used + n) (content_at ctx (little_number 2 rest) (take (n - 2) (drop 2 rest))) off why e) [
      | inl none ↦ omega arith
      | inr k ↦ let long : n ≤ length rest = ltb-false _ _ k.0 in omega (arith, length-drop used b, k.1, within)
    ]
from_place ctx b Short off why h f e = absurd cc
from_place ctx b (BadWidth w) off why h f e = let k = bad_is 0 off kind.BadWidth why e in omega arith

pub bad_within : (ctx : Context) (b : List ℕ) (off : ℕ) (why : Why) → IsBytes b → standing_at ctx b ≡ bad off why → off ≤ length b
unfolding standing_at
bad_within ctx b off why h e = from_place ctx b (varlen_at b) off why h refl e

pub whole_within : (ctx : Context) (b : List ℕ) (c : Chunk) (u : ℕ) → IsBytes b → standing_at ctx b ≡ whole c u → (0 < u) × (u ≤ length b)
whole_within ctx b c u h e =
    let k = (at_exact ctx b c u h).0 e in
    let some = text_takes ctx c (take u b) k.1 in
    (omega (arith, some, length-take u b), k.0)
