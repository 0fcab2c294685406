-- How many bytes a torn chunk has at most.
use Rattle.std.proofs.Common.{◌≡◌, ℕ, zero, suc, ◌+◌, ◌-◌, ◌<◌, ◌≤◌, Bool, true, false, cond, eqb, ltb, ◌||◌, List, [], ◌∷◌, length, drop, take, Option, None, Some, Result, Ok, Err, refl, sym, ap, ◌∙◌, arith}
use Rattle.std.proofs.lemmas.Bool.{ltb-false, ltb-true, le-ltb, eqb-true}
use Rattle.std.proofs.lemmas.List.{length-drop}
use Rattle.byteorder.specs.Endian.{little_number}
use Rattle.xdf_model.specs.declared.types.Why.{Why}
use Rattle.xdf_model.specs.declared.types.Why.TheVariants as why
use Rattle.xdf_model.specs.declared.types.Shape.{Shape}
use Rattle.xdf_model.specs.declared.types.NoShape.{NoShape}
use Rattle.xdf_model.specs.declared.types.NumRead.{NumRead}
use Rattle.xdf_model.specs.declared.types.NumRead.TheVariants.{Read, Short, BadWidth}
use Rattle.xdf_model.specs.Varlen.{is_width, varlen_at}
use Rattle.xdf_model.specs.Shape.{shape_in}
use Rattle.xdf_model.specs.Reading.{Fault, outside, wrong, Found, ◌>>=◌, front_at, number_at, length_at, many_at, told}
use Rattle.xdf_model.specs.Sample.{sample_at, samples_at}
use Rattle.chunk_grammar.specs.declared.chunk.Chunk.{Chunk}
use Rattle.chunk_grammar.specs.declared.chunk.Chunk.TheVariants.{FileHeader, StreamHeader, Samples, ClockOffset, StreamFooter, Other}
use Rattle.chunk_grammar.specs.Chunk.{Context, shape_of, length_limit, boundary_bytes}
use Rattle.chunk_grammar.specs.Standing.{Judged, torn, bad, answer_of, known, new_stream, has_shape, ended, sized, same_bytes, stream_header_at, samples_chunk_at, clock_offset_at, boundary_at, stream_footer_at, content_at, standing_from, standing_at}

-- ---- no content that is there needs a byte outside it

bind_in : {A B : Type 0} (r : Result A Fault) (f : A → Result B Fault) → (r ≡ Err outside → ⊥) → ((x : A) → r ≡ Ok x → f x ≡ Err outside → ⊥) → (r >>= f) ≡ Err outside → ⊥
bind_in (Ok x) f h k e = k x refl e
bind_in (Err outside) f h k e = h refl
bind_in (Err (wrong left reason)) f h k e = absurd cc

told_in : {A : Type 0} (left : ℕ) (reason : Why) (r : Result A Fault) → told left reason r ≡ Err outside → ⊥
told_in left reason (Ok x) e = absurd cc
told_in left reason (Err outside) e = absurd cc
told_in left reason (Err (wrong at other)) e = absurd cc

many_in : {A : Type 0} (read : List ℕ → Found A) → ((b : List ℕ) → read b ≡ Err outside → ⊥) → (n : ℕ) (b : List ℕ) → many_at read n b ≡ Err outside → ⊥
unfolding many_at
many_in read h zero b e = absurd cc
many_in {A = A} read h (suc n) b e =
    bind_in (read b) (λ x. many_at read n x.1 >>= λ xs. Ok (x.0 ∷ xs.0, xs.1)) (h b)
    (λ x is. bind_in (many_at read n x.1) (λ xs. Ok (x.0 ∷ xs.0, xs.1)) (many_in read h n x.1) (λ xs there f. absurd cc)) e

ended_in : (c : Chunk) (b : List ℕ) → ended c b ≡ Err outside → ⊥
ended_in c [] e = absurd cc
ended_in c (x ∷ b) e = absurd cc

known_in : (left : ℕ) (s : Option Shape) → known left s ≡ Err outside → ⊥
known_in left None e = absurd cc
known_in left (Some s) e = absurd cc

new_in : (left : ℕ) (s : Option Shape) → new_stream left s ≡ Err outside → ⊥
new_in left None e = absurd cc
new_in left (Some s) e = absurd cc

shape_is_in : (left : ℕ) (s : Result Shape NoShape) → has_shape left s ≡ Err outside → ⊥
shape_is_in left (Ok s) e = absurd cc
shape_is_in left (Err reason) e = absurd cc

either_in : (c : Bool) (x y : Judged) → (x ≡ Err outside → ⊥) → (y ≡ Err outside → ⊥) → cond c x y ≡ Err outside → ⊥
either_in true x y h k e = h e
either_in false x y h k e = k e

same_in : (ws b : List ℕ) → same_bytes ws b ≡ Err outside → ⊥
same_in [] b e = absurd cc
same_in (w ∷ ws) [] e = absurd cc
same_in (w ∷ ws) (x ∷ b) e = either_in (eqb w x) (same_bytes ws b) (Err (wrong (length b + 1) why.BadBoundary)) (same_in ws b) (λ f. absurd cc) e

sized_by : (few much : Bool) (m n : ℕ) (v w : Why) (j : Judged) → (few ≡ false → much ≡ false → j ≡ Err outside → ⊥) → cond few (Err (wrong m v)) (cond much (Err (wrong n w)) j) ≡ Err outside → ⊥
sized_by true much m n v w j h e = absurd cc
sized_by false true m n v w j h e = absurd cc
sized_by false false m n v w j h e = h refl refl e

sized_in : (size : ℕ) (b : List ℕ) (j : Judged) → (length b ≡ size → j ≡ Err outside → ⊥) → sized size b j ≡ Err outside → ⊥
sized_in size b j h e =
    sized_by (ltb (length b) size) (ltb size (length b)) (length b) (length b - size) why.ShortContent why.ExtraBytes j
    (λ few much. let low : size ≤ length b = ltb-false _ _ few in let high : length b ≤ size = ltb-false _ _ much in h (omega (arith, low, high))) e

number_is : (n : ℕ) (b : List ℕ) → n ≤ length b → number_at n b ≡ Ok (little_number n (take n b), drop n b)
unfolding number_at front_at
number_is n b le = let t : ltb (length b) n ≡ false = le-ltb _ _ le in rw t refl

number_in : (n : ℕ) (b : List ℕ) → n ≤ length b → number_at n b ≡ Err outside → ⊥
number_in n b le e = let k = sym (number_is n b le) ∙ e in cc

number_rest : (n : ℕ) (b : List ℕ) (x : ℕ × List ℕ) → n ≤ length b → number_at n b ≡ Ok x → length x.1 ≡ length b - n
number_rest n b x le e =
    let same : (little_number n (take n b), drop n b) ≡ x = let k = sym (number_is n b le) ∙ e in cc in
    ap (λ (p : ℕ × List ℕ). length p.1) (sym same) ∙ length-drop n b

clock_in : (b : List ℕ) → clock_offset_at b ≡ Err outside → ⊥
unfolding clock_offset_at
clock_in b e =
    sized_in 20 b (number_at 4 b >>= λ id. number_at 8 id.1 >>= λ time. number_at 8 time.1 >>= λ offset. ended (ClockOffset id.0 time.0 offset.0) offset.1)
    (λ size. bind_in (number_at 4 b) (λ id. number_at 8 id.1 >>= λ time. number_at 8 time.1 >>= λ offset. ended (ClockOffset id.0 time.0 offset.0) offset.1) (number_in 4 b (omega arith))
    (λ id one. let first = number_rest 4 b id (omega arith) one in
    bind_in (number_at 8 id.1) (λ time. number_at 8 time.1 >>= λ offset. ended (ClockOffset id.0 time.0 offset.0) offset.1) (number_in 8 id.1 (omega (arith, first, size)))
    (λ time two. let second = number_rest 8 id.1 time (omega (arith, first, size)) two in
    bind_in (number_at 8 time.1) (λ offset. ended (ClockOffset id.0 time.0 offset.0) offset.1) (number_in 8 time.1 (omega (arith, first, second, size)))
    (λ offset three. ended_in (ClockOffset id.0 time.0 offset.0) offset.1)))) e

boundary_in : (b : List ℕ) → boundary_at b ≡ Err outside → ⊥
unfolding boundary_at
boundary_in b e = sized_in 16 b (same_bytes boundary_bytes b) (λ size. same_in boundary_bytes b) e

header_in : (ctx : Context) (b : List ℕ) → stream_header_at ctx b ≡ Err outside → ⊥
unfolding stream_header_at
header_in ctx b e =
    bind_in (told (length b) why.ShortContent (number_at 4 b)) (λ id. new_stream (length b) (shape_of ctx id.0) >>= λ first. has_shape (length id.1) (shape_in id.1) >>= λ shape. Ok (StreamHeader id.0 id.1))
    (told_in (length b) why.ShortContent (number_at 4 b))
    (λ id one. bind_in (new_stream (length b) (shape_of ctx id.0)) (λ first. has_shape (length id.1) (shape_in id.1) >>= λ shape. Ok (StreamHeader id.0 id.1)) (new_in (length b) (shape_of ctx id.0))
    (λ first two. bind_in (has_shape (length id.1) (shape_in id.1)) (λ shape. Ok (StreamHeader id.0 id.1)) (shape_is_in (length id.1) (shape_in id.1)) (λ shape three f. absurd cc))) e

footer_in : (ctx : Context) (b : List ℕ) → stream_footer_at ctx b ≡ Err outside → ⊥
unfolding stream_footer_at
footer_in ctx b e =
    bind_in (told (length b) why.ShortContent (number_at 4 b)) (λ id. known (length b) (shape_of ctx id.0) >>= λ shape. Ok (StreamFooter id.0 id.1)) (told_in (length b) why.ShortContent (number_at 4 b))
    (λ id one. bind_in (known (length b) (shape_of ctx id.0)) (λ shape. Ok (StreamFooter id.0 id.1)) (known_in (length b) (shape_of ctx id.0)) (λ shape two f. absurd cc)) e

all_samples_in : (shape : Shape) (n : ℕ) (b : List ℕ) → samples_at shape n b ≡ Err outside → ⊥
unfolding samples_at
all_samples_in shape n b e = many_in (λ rest. told (length rest) why.SamplesShort (sample_at shape rest)) (λ rest. told_in (length rest) why.SamplesShort (sample_at shape rest)) n b e

samples_in : (ctx : Context) (b : List ℕ) → samples_chunk_at ctx b ≡ Err outside → ⊥
unfolding samples_chunk_at
samples_in ctx b e =
    bind_in (told (length b) why.ShortContent (number_at 4 b))
    (λ id. known (length b) (shape_of ctx id.0) >>= λ shape. told (length id.1) why.ShortContent (length_at id.1) >>= λ count. samples_at shape count.0 count.1 >>= λ samples. ended (Samples id.0 samples.0) samples.1)
    (told_in (length b) why.ShortContent (number_at 4 b))
    (λ id one. bind_in (known (length b) (shape_of ctx id.0))
    (λ shape. told (length id.1) why.ShortContent (length_at id.1) >>= λ count. samples_at shape count.0 count.1 >>= λ samples. ended (Samples id.0 samples.0) samples.1) (known_in (length b) (shape_of ctx id.0))
    (λ shape two. bind_in (told (length id.1) why.ShortContent (length_at id.1)) (λ count. samples_at shape count.0 count.1 >>= λ samples. ended (Samples id.0 samples.0) samples.1)
    (told_in (length id.1) why.ShortContent (length_at id.1))
    (λ count three. bind_in (samples_at shape count.0 count.1) (λ samples. ended (Samples id.0 samples.0) samples.1) (all_samples_in shape count.0 count.1) (λ samples four. ended_in (Samples id.0 samples.0) samples.1)))) e

content_in : (ctx : Context) (tag : ℕ) (b : List ℕ) → content_at ctx tag b ≡ Err outside → ⊥
unfolding content_at
content_in ctx tag b e =
    either_in (eqb tag 1) (Ok (FileHeader b)) _ (λ f. absurd cc)
    (either_in (eqb tag 2) (stream_header_at ctx b) _ (header_in ctx b)
    (either_in (eqb tag 3) (samples_chunk_at ctx b) _ (samples_in ctx b)
    (either_in (eqb tag 4) (clock_offset_at b) _ (clock_in b)
    (either_in (eqb tag 5) (boundary_at b) _ (boundary_in b)
    (either_in (eqb tag 6) (stream_footer_at ctx b) (Ok (Other tag b)) (footer_in ctx b) (λ f. absurd cc)))))) e

-- ---- so a torn chunk has fewer bytes than its length tells, or its length is torn

widths : (p q r : Bool) (w : ℕ) → (p ≡ true → w ≤ 8) → (q ≡ true → w ≤ 8) → (r ≡ true → w ≤ 8) → (p || q || r) ≡ true → w ≤ 8
widths true q r w f g h e = f refl
widths false true r w f g h e = g refl
widths false false true w f g h e = h refl
widths false false false w f g h e = absurd cc

width_within : (w : ℕ) → is_width w ≡ true → w ≤ 8
width_within w e = widths (eqb w 1) (eqb w 4) (eqb w 8) w (λ f. omega (arith, eqb-true w 1 f)) (λ f. omega (arith, eqb-true w 4 f)) (λ f. omega (arith, eqb-true w 8 f)) e

record IsNum (b : List ℕ) (r : NumRead) : Type 0 where
  pub short : r ≡ Short → length b ≤ 8
  pub read : (n used : ℕ) → r ≡ Read n used → used ≤ 9

num_of : (good few : Bool) (w n : ℕ) (b : List ℕ) → (good ≡ true → w ≤ 8) → (few ≡ true → length b < w) → IsNum (w ∷ b) (cond good (cond few Short (Read n (w + 1))) (BadWidth w))
num_of true true w n b wide short = record { short = λ e. let a = wide refl in let d = short refl in omega (arith, a, d); read = λ m used e. absurd cc }
num_of true false w n b wide short = record { short = λ e. absurd cc; read = λ m used e. let a = wide refl in let is : w + 1 ≡ used = cc in omega (arith, a, is) }
num_of false few w n b wide short = record { short = λ e. absurd cc; read = λ m used e. absurd cc }

num_is : (b : List ℕ) → IsNum b (varlen_at b)
unfolding varlen_at
num_is [] = record { short = λ e. omega arith; read = λ n used e. absurd cc }
num_is (w ∷ b) = num_of (is_width w) (ltb (length b) w) w (little_number w b) b (width_within w) (λ e. ltb-true _ _ e)

answer_torn : (place : ℕ) (j : Judged) → answer_of place j ≡ torn → j ≡ Err outside
answer_torn place (Ok c) e = absurd cc
answer_torn place (Err outside) e = refl
answer_torn place (Err (wrong left reason)) e = absurd cc

framed_torn : (little much few : Bool) (place : ℕ) (j : Judged) → (j ≡ Err outside → ⊥) → cond little (bad 0 why.LengthUnderTwo) (cond much (bad 0 why.TooLong) (cond few torn (answer_of place j))) ≡ torn
    → (much ≡ false) × (few ≡ true)
framed_torn true much few place j h e = absurd cc
framed_torn false true few place j h e = absurd cc
framed_torn false false true place j h e = (refl, refl)
framed_torn false false false place j h e = absurd (h (answer_torn place j e))

from_torn : (ctx : Context) (b : List ℕ) (r : NumRead) → IsNum b r → standing_from ctx b r ≡ torn → length b < 67_108_873
from_torn ctx b (Read n used) is e =
    let rest : List ℕ = drop used b in
    let k = framed_torn (ltb n 2) (ltb length_limit n) (ltb (length rest) n) (used + n) (content_at ctx (little_number 2 rest) (take (n - 2) (drop 2 rest))) (content_in ctx (little_number 2 rest) (take (n - 2) (drop 2 rest))) e in
    let high : n ≤ length_limit = ltb-false _ _ k.0 in
    let fewer : length rest < n = ltb-true _ _ k.1 in
    omega (arith, high, fewer, length-drop used b, is.read n used refl)
from_torn ctx b Short is e = omega (arith, is.short refl)
from_torn ctx b (BadWidth w) is e = absurd cc

pub torn_size : (ctx : Context) (b : List ℕ) → standing_at ctx b ≡ torn → length b < 67_108_873
unfolding standing_at
torn_size ctx b e = from_torn ctx b (varlen_at b) (num_is b) e
