-- Twenty bytes are an id, a time and an offset, and nothing more.
use Rattle.std.proofs.Common.{◌≡◌, ℕ, suc, ◌+◌, ◌≤◌, ltb, false, List, [], ◌∷◌, length, refl, ap, arith}
use Rattle.std.proofs.lemmas.Bool.{le-ltb}
use Rattle.std.proofs.lemmas.List.{length-append}
use Rattle.xdf_model.specs.Reading.{number_at}
use Rattle.xdf_model_laws.proofs.Bytes.{IsBytes, IsBytes-rest, length-little_bytes}
use Rattle.xdf_model_laws.proofs.Readers.{found, ok, reads_number}
use Rattle.chunk_grammar.specs.declared.chunk.Chunk.{Chunk}
use Rattle.chunk_grammar.specs.declared.chunk.Chunk.TheVariants.{ClockOffset}
use Rattle.chunk_grammar.specs.Standing.{ended, clock_offset_at}

number_rest : (size : ℕ) (b : List ℕ) (n : ℕ) (rest : List ℕ) → IsBytes b → number_at size b ≡ found n rest → IsBytes rest × (length b ≡ size + length rest)
number_rest size b n rest h e =
    let k = (reads_number size).sound b n rest h e in
    (IsBytes-rest k.0 rest b h k.2, omega (arith, ap length k.2, length-append k.0 rest, ap length k.1.1, length-little_bytes size n))

ended_empty : (c : Chunk) (b : List ℕ) → length b ≡ 0 → ended c b ≡ ok c
ended_empty c [] none = refl
ended_empty c (x ∷ b) none = let more : suc (length b) ≡ 0 = none in absurd (omega arith)

pub clock_offset_is : (b : List ℕ) (id time offset : ℕ) (x y z : List ℕ) → IsBytes b → 20 ≤ length b → length b ≤ 20
    → number_at 4 b ≡ found id x → number_at 8 x ≡ found time y → number_at 8 y ≡ found offset z → clock_offset_at b ≡ ok (ClockOffset id time offset)
unfolding clock_offset_at
clock_offset_is b id time offset x y z h low high first second third =
    let a = number_rest 4 b id x h first in
    let d = number_rest 8 x time y a.0 second in
    let f = number_rest 8 y offset z d.0 third in
    let none : length z ≡ 0 = omega arith in
    let long : ltb (length b) 20 ≡ false = le-ltb _ _ low in
    let short : ltb 20 (length b) ≡ false = le-ltb _ _ high in
    rw (long, short, first, second, third) (ended_empty (ClockOffset id time offset) z none)
