-- The rules of a file are steady.
use Rattle.std.proofs.Common.{◌≡◌, ℕ, ◌+◌, ◌-◌, ◌<◌, ◌≤◌, Bool, true, false, cond, ltb, List, [], ◌∷◌, ◌++◌, length, drop, take, Option, Ok, Err, refl, sym, ap, arith}
use Rattle.std.proofs.lemmas.Bool.{ltb-false}
use Rattle.std.proofs.lemmas.List.{length-drop}
use Rattle.byteorder.specs.Endian.{little_number}
use Rattle.reading_model.specs.Outlook.{ended, final, at_end}
use Rattle.reading_model.specs.Rules.{short, last, AreSteady}
use Rattle.reading_model.specs.Rules as front
use Rattle.xdf_model.specs.declared.types.Why.TheVariants as why
use Rattle.xdf_model.specs.declared.types.NumRead.{NumRead}
use Rattle.xdf_model.specs.declared.types.NumRead.TheVariants.{Read, Short, BadWidth}
use Rattle.xdf_model.specs.Varlen.{varlen_at}
use Rattle.xdf_model.specs.Reading.{outside, wrong}
use Rattle.chunk_grammar.specs.declared.chunk.Chunk.{Chunk}
use Rattle.chunk_grammar.specs.Chunk.{Context, length_limit}
use Rattle.chunk_grammar.specs.Standing.{Judged, Standing, whole, torn, bad, answer_of, content_at, standing_from, standing_at}
use Rattle.chunk_laws.proofs.MoreBytes.{at_more}
use Rattle.file_model.specs.declared.end.FileEnd.{FileEnd}
use Rattle.file_model.specs.declared.end.FileEnd.TheVariants as end
use Rattle.file_model.specs.Reader.{FileState, ChunkAt, by_standing, file_front, file_end, file_kind, file_rules}

-- ---- a whole chunk takes a byte at least, and bytes that are there

answer_size : (place : ℕ) (j : Judged) (c : Chunk) (u : ℕ) → answer_of place j ≡ whole c u → place ≡ u
answer_size place (Ok d) c u e = cc
answer_size place (Err outside) c u e = absurd cc
answer_size place (Err (wrong left reason)) c u e = absurd cc

-- the length is two at least, the bytes are there, and it takes them all
framed_size : (little much few : Bool) (place : ℕ) (j : Judged) (c : Chunk) (u : ℕ) → cond little (bad 0 why.LengthUnderTwo) (cond much (bad 0 why.TooLong) (cond few torn (answer_of place j))) ≡ whole c u
    → (little ≡ false) × (few ≡ false) × (place ≡ u)
framed_size true much few place j c u e = absurd cc
framed_size false true few place j c u e = absurd cc
framed_size false false true place j c u e = absurd cc
framed_size false false false place j c u e = (refl, refl, answer_size place j c u e)

from_size : (ctx : Context) (b : List ℕ) (r : NumRead) (c : Chunk) (u : ℕ) → standing_from ctx b r ≡ whole c u → (0 < u) × (u ≤ length b)
from_size ctx b (Read n used) c u e =
    let rest : List ℕ = drop used b in
    let k = framed_size (ltb n 2) (ltb length_limit n) (ltb (length rest) n) (used + n) (content_at ctx (little_number 2 rest) (take (n - 2) (drop 2 rest))) c u e in
    let two : 2 ≤ n = ltb-false _ _ k.0 in
    let there : n ≤ length rest = ltb-false _ _ k.1 in
    (omega (arith, two, k.2), omega (arith, two, there, k.2, length-drop used b))
from_size ctx b Short c u e = absurd cc
from_size ctx b (BadWidth w) c u e = absurd cc

pub chunk_size : (ctx : Context) (b : List ℕ) (c : Chunk) (u : ℕ) → standing_at ctx b ≡ whole c u → (0 < u) × (u ≤ length b)
unfolding standing_at
chunk_size ctx b c u e = from_size ctx b (varlen_at b) c u e

-- ---- the rules

by_size : (s : FileState) (b : List ℕ) (x : Standing) (i : Option ChunkAt) (u : ℕ) (t : FileState) → standing_at s.context b ≡ x → by_standing s x ≡ front.whole i u t → (0 < u) × (u ≤ length b)
by_size s b (whole c used) i u t is e =
    let same : used ≡ u = cc in
    let size = chunk_size s.context b c used is in
    (omega (arith, size.0, same), omega (arith, size.1, same))
by_size s b torn i u t is e = absurd cc
by_size s b (bad place reason) i u t is e = absurd cc

front_stays : (s : FileState) (b more : List ℕ) → (file_front s b ≡ short → ⊥) → file_front s (b ++ more) ≡ file_front s b
front_stays s b more h = ap (by_standing s) (at_more s.context b more (λ e. h (ap (by_standing s) e)))

by_final : (s : FileState) (x : Standing) (e : FileEnd) → by_standing s x ≡ last e → file_kind e ≡ final
by_final s (whole c used) e h = absurd cc
by_final s torn e h = absurd cc
by_final s (bad place reason) e h = let is : end.Bad (s.place + place) reason ≡ e = cc in ap file_kind (sym is)

end_is_at_end : (s : FileState) (b : List ℕ) → file_kind (file_end s b ended) ≡ at_end
end_is_at_end s [] = refl
end_is_at_end s (x ∷ b) = refl

pub steady_file : AreSteady file_rules
steady_file = record {
  within = λ s b i u t e. by_size s b (standing_at s.context b) i u t refl e;
  stays = λ s b more h. front_stays s b more h;
  last_is_final = λ s b e h. by_final s (standing_at s.context b) e h;
  ended_is_at_end = end_is_at_end;
  failed_is_at_fault = λ s b. refl;
  over_is_at_limit = λ s b. refl;
}
