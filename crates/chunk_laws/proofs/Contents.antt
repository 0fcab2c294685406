-- The content of a chunk is read exactly.
use Rattle.std.proofs.Common.{◌≡◌, ℕ, ◌+◌, ◌-◌, ◌^◌, ◌<◌, ◌≤◌, Bool, true, false, cond, ltb, eqb, List, [], ◌∷◌, ◌++◌, length, Option, Some, None, Result, Ok, Err, refl, sym, ap, ◌∙◌, subst, append_assoc, arith, inl, inr, ◌⊎◌, lit≤}
use Rattle.std.specs.Prelude.{IsTrue}
use Rattle.std.proofs.lemmas.Bool.{eqb-true, ltb-false, le-ltb}
use Rattle.std.proofs.lemmas.Bool.Decides.{nat_tests}
use Rattle.std.proofs.lemmas.List.{append-nil}
use Rattle.byteorder.specs.Endian.{little_bytes}
use Rattle.xdf_model.specs.declared.types.Shape.{Shape}
use Rattle.xdf_model.specs.declared.types.NoShape.{NoShape}
use Rattle.xdf_model.specs.declared.types.Why.{Why}
use Rattle.xdf_model.specs.declared.types.Why.TheVariants as why
use Rattle.xdf_model.specs.Varlen.{IsVarlen}
use Rattle.xdf_model.specs.Shape.{shape_in}
use Rattle.xdf_model.specs.Reading.{Fault, wrong, ◌>>=◌, number_at, length_at, told}
use Rattle.xdf_model.specs.Sample.{samples_at}
use Rattle.xdf_model_laws.proofs.Bytes.{IsBytes, IsBytes-rest}
use Rattle.xdf_model_laws.proofs.Readers.{found, ok, ok_is, bind_ok, reads_number, reads_length, told_ok}
use Rattle.xdf_model_laws.proofs.Samples.{reads_samples}
use Rattle.chunk_grammar.specs.declared.chunk.Chunk.{Chunk}
use Rattle.chunk_grammar.specs.declared.chunk.Chunk.TheVariants.{FileHeader, StreamHeader, Samples, ClockOffset, Boundary, StreamFooter, Other}
use Rattle.chunk_grammar.specs.Chunk.{Context, shape_of, boundary_bytes, tag_of, is_other, IsContentText}
use Rattle.chunk_grammar.specs.Standing.{Judged, known, new_stream, has_shape, ended, sized, same_bytes, stream_header_at, samples_chunk_at, clock_offset_at, boundary_at, stream_footer_at, content_at}

known_ok : (left : ℕ) (o : Option Shape) (s : Shape) → known left o ≡ ok s → o ≡ Some s
known_ok left None s e = absurd cc
known_ok left (Some t) s e = ap (λ (x : Shape). Some x) (ok_is t s e)

new_ok : (left : ℕ) (o : Option Shape) (n : ℕ) → new_stream left o ≡ ok n → o ≡ None
new_ok left None n e = refl
new_ok left (Some t) n e = absurd cc

has_ok : (left : ℕ) (r : Result Shape NoShape) (s : Shape) → has_shape left r ≡ ok s → r ≡ Ok s
has_ok left (Ok t) s e = ap (λ (x : Shape). ok x) (ok_is t s e)
has_ok left (Err d) s e = absurd cc

ended_ok : (c d : Chunk) (b : List ℕ) → ended c b ≡ ok d → (b ≡ []) × (c ≡ d)
ended_ok c d [] e = (refl, ok_is c d e)
ended_ok c d (x ∷ b) e = absurd cc

sized_cases : (short long : Bool) (d f : Fault) (j : Judged) (c : Chunk) → cond short (Err d) (cond long (Err f) j) ≡ ok c → (short ≡ false) × (long ≡ false) × (j ≡ ok c)
sized_cases true long d f j c e = absurd cc
sized_cases false true d f j c e = absurd cc
sized_cases false false d f j c e = (refl, refl, e)

sized_ok : (size : ℕ) (b : List ℕ) (j : Judged) (c : Chunk) → sized size b j ≡ ok c → (length b ≡ size) × (j ≡ ok c)
sized_ok size b j c e =
    let k = sized_cases (ltb (length b) size) (ltb size (length b)) (wrong (length b) why.ShortContent) (wrong (length b - size) why.ExtraBytes) j c e in
    let least_varlen : size ≤ length b = ltb-false _ _ k.0 in
    let most : length b ≤ size = ltb-false _ _ k.1 in
    (omega arith, k.2)

sized_is : (size : ℕ) (b : List ℕ) (j : Judged) → length b ≡ size → sized size b j ≡ j
sized_is size b j e =
    let one : ltb (length b) size ≡ false = le-ltb _ _ (omega arith) in
    let two : ltb size (length b) ≡ false = le-ltb _ _ (omega arith) in
    rw (one, two) refl

same_cases : (same : Bool) (j : Judged) (d : Fault) (c : Chunk) → cond same j (Err d) ≡ ok c → (same ≡ true) × (j ≡ ok c)
same_cases true j d c e = (refl, e)
same_cases false j d c e = absurd cc

same_ok : (ws b : List ℕ) (c : Chunk) → length b ≡ length ws → same_bytes ws b ≡ ok c → (b ≡ ws) × (Boundary ≡ c)
same_ok [] [] c len e = (refl, ok_is Boundary c e)
same_ok [] (x ∷ b) c len e = absurd (omega arith)
same_ok (w ∷ ws) [] c len e = absurd (omega arith)
same_ok (w ∷ ws) (x ∷ b) c len e =
    let k = same_cases (eqb w x) (same_bytes ws b) (wrong (length b + 1) why.BadBoundary) c e in
    let w-is : w ≡ x = eqb-true w x k.0 in
    let shorter : length b ≡ length ws = omega arith in
    let r = same_ok ws b c shorter k.1 in
    (ap (λ (t : List ℕ). x ∷ t) r.0 ∙ ap (λ (n : ℕ). n ∷ ws) (sym w-is), r.1)

-- ---- what is found in a content stands there

abbrev pub Stands : Context → ℕ → List ℕ → Chunk → Type 0
Stands ctx tag b c = (tag_of c ≡ tag) × IsContentText ctx c b

number_sound : (k : ℕ) (b : List ℕ) (n : ℕ) (rest : List ℕ) → IsBytes b → number_at k b ≡ found n rest → (n < 256 ^ k) × (b ≡ little_bytes k n ++ rest)
number_sound k b n rest h e =
    let r = (reads_number k).sound b n rest h e in
    (r.1.0, r.2 ∙ ap (λ (t : List ℕ). t ++ rest) r.1.1)

three_parts : (b x t y u z v : List ℕ) → b ≡ x ++ t → t ≡ y ++ u → u ≡ z ++ v → v ≡ [] → b ≡ x ++ y ++ z
three_parts b x t y u z v p q r s = p ∙ ap (λ (w : List ℕ). x ++ w) (q ∙ ap (λ (w : List ℕ). y ++ w) (r ∙ ap (λ (w : List ℕ). z ++ w) s ∙ append-nil z)) ∙ sym (append_assoc x y z)

-- four bytes of an id
id_sound : (b : List ℕ) (reason : Why) (id : ℕ) (rest : List ℕ) → IsBytes b → told (length b) reason (number_at 4 b) ≡ found id rest → (id < 2 ^ 32) × (b ≡ little_bytes 4 id ++ rest)
id_sound b reason id rest h e =
    let r = (reads_number 4).sound b id rest h (told_ok (length b) reason (number_at 4 b) (id, rest) e) in
    (r.1.0, r.2 ∙ ap (λ (t : List ℕ). t ++ rest) r.1.1)

id_again : (id : ℕ) (rest : List ℕ) (left : ℕ) (reason : Why) → id < 2 ^ 32 → told left reason (number_at 4 (little_bytes 4 id ++ rest)) ≡ found id rest
id_again id rest left reason lt = rw ((reads_number 4).complete id (little_bytes 4 id) rest (lt, refl)) refl

stream_header_sound : (ctx : Context) (b : List ℕ) (c : Chunk) → IsBytes b → stream_header_at ctx b ≡ ok c → Stands ctx 2 b c
unfolding stream_header_at
stream_header_sound ctx b c h e =
    let g = bind_ok (told (length b) why.ShortContent (number_at 4 b)) (λ id. new_stream (length b) (shape_of ctx id.0) >>= λ first. has_shape (length id.1) (shape_in id.1) >>= λ shape. Ok (StreamHeader id.0 id.1)) c e in
    let k = bind_ok (new_stream (length b) (shape_of ctx g.0.0)) (λ first. has_shape (length g.0.1) (shape_in g.0.1) >>= λ shape. Ok (StreamHeader g.0.0 g.0.1)) c g.2 in
    let l = bind_ok (has_shape (length g.0.1) (shape_in g.0.1)) (λ shape. Ok (StreamHeader g.0.0 g.0.1)) c k.2 in
    let id = id_sound b why.ShortContent g.0.0 g.0.1 h g.1 in
    subst (Stands ctx 2 b) (ok_is (StreamHeader g.0.0 g.0.1) c l.2) (refl, (id.0, new_ok _ _ _ k.1, l.0, has_ok _ _ _ l.1, id.1))

stream_footer_sound : (ctx : Context) (b : List ℕ) (c : Chunk) → IsBytes b → stream_footer_at ctx b ≡ ok c → Stands ctx 6 b c
unfolding stream_footer_at
stream_footer_sound ctx b c h e =
    let g = bind_ok (told (length b) why.ShortContent (number_at 4 b)) (λ id. known (length b) (shape_of ctx id.0) >>= λ shape. Ok (StreamFooter id.0 id.1)) c e in
    let k = bind_ok (known (length b) (shape_of ctx g.0.0)) (λ shape. Ok (StreamFooter g.0.0 g.0.1)) c g.2 in
    let id = id_sound b why.ShortContent g.0.0 g.0.1 h g.1 in
    subst (Stands ctx 6 b) (ok_is (StreamFooter g.0.0 g.0.1) c k.2) (refl, (id.0, k.0, known_ok _ _ _ k.1, id.1))

samples_sound : (ctx : Context) (b : List ℕ) (c : Chunk) → IsBytes b → samples_chunk_at ctx b ≡ ok c → Stands ctx 3 b c
unfolding samples_chunk_at
samples_sound ctx b c h e =
    let g = bind_ok (told (length b) why.ShortContent (number_at 4 b)) (λ id. known (length b) (shape_of ctx id.0) >>= λ shape. told (length id.1) why.ShortContent (length_at id.1) >>= λ count. samples_at shape count.0 count.1 >>= λ samples. ended (Samples id.0 samples.0) samples.1) c e in
    let k = bind_ok (known (length b) (shape_of ctx g.0.0)) (λ shape. told (length g.0.1) why.ShortContent (length_at g.0.1) >>= λ count. samples_at shape count.0 count.1 >>= λ samples. ended (Samples g.0.0 samples.0) samples.1) c g.2 in
    let l = bind_ok (told (length g.0.1) why.ShortContent (length_at g.0.1)) (λ count. samples_at k.0 count.0 count.1 >>= λ samples. ended (Samples g.0.0 samples.0) samples.1) c k.2 in
    let m = bind_ok (samples_at k.0 l.0.0 l.0.1) (λ samples. ended (Samples g.0.0 samples.0) samples.1) c l.2 in
    let n = ended_ok (Samples g.0.0 m.0.0) c m.0.1 m.2 in
    let id = id_sound b why.ShortContent g.0.0 g.0.1 h g.1 in
    let h1 = IsBytes-rest (little_bytes 4 g.0.0) g.0.1 b h id.1 in
    let count = reads_length.sound g.0.1 l.0.0 l.0.1 h1 (told_ok (length g.0.1) why.ShortContent (length_at g.0.1) l.0 l.1) in
    let h2 = IsBytes-rest count.0 l.0.1 g.0.1 h1 count.2 in
    let samples = (reads_samples k.0 l.0.0).sound l.0.1 m.0.0 m.0.1 h2 m.1 in
    let num : IsVarlen (length m.0.0) count.0 = rw samples.1.0 count.1 in
    let last : l.0.1 ≡ samples.0 = samples.2 ∙ ap (λ (t : List ℕ). samples.0 ++ t) n.0 ∙ append-nil samples.0 in
    let parts : b ≡ little_bytes 4 g.0.0 ++ count.0 ++ samples.0 = id.1 ∙ ap (λ (t : List ℕ). little_bytes 4 g.0.0 ++ t) (count.2 ∙ ap (λ (t : List ℕ). count.0 ++ t) last) ∙ sym (append_assoc (little_bytes 4 g.0.0) count.0 samples.0) in
    subst (Stands ctx 3 b) n.1 (refl, (id.0, k.0, known_ok _ _ _ k.1, count.0, samples.0, num, samples.1.1, parts))

clock_offset_sound : (ctx : Context) (b : List ℕ) (c : Chunk) → IsBytes b → clock_offset_at b ≡ ok c → Stands ctx 4 b c
unfolding clock_offset_at
clock_offset_sound ctx b c h e =
    let s = sized_ok 20 b (number_at 4 b >>= λ id. number_at 8 id.1 >>= λ time. number_at 8 time.1 >>= λ offset. ended (ClockOffset id.0 time.0 offset.0) offset.1) c e in
    let g = bind_ok (number_at 4 b) (λ id. number_at 8 id.1 >>= λ time. number_at 8 time.1 >>= λ offset. ended (ClockOffset id.0 time.0 offset.0) offset.1) c s.1 in
    let k = bind_ok (number_at 8 g.0.1) (λ time. number_at 8 time.1 >>= λ offset. ended (ClockOffset g.0.0 time.0 offset.0) offset.1) c g.2 in
    let l = bind_ok (number_at 8 k.0.1) (λ offset. ended (ClockOffset g.0.0 k.0.0 offset.0) offset.1) c k.2 in
    let n = ended_ok (ClockOffset g.0.0 k.0.0 l.0.0) c l.0.1 l.2 in
    let id = number_sound 4 b g.0.0 g.0.1 h g.1 in
    let h1 = IsBytes-rest (little_bytes 4 g.0.0) g.0.1 b h id.1 in
    let time = number_sound 8 g.0.1 k.0.0 k.0.1 h1 k.1 in
    let h2 = IsBytes-rest (little_bytes 8 k.0.0) k.0.1 g.0.1 h1 time.1 in
    let offset = number_sound 8 k.0.1 l.0.0 l.0.1 h2 l.1 in
    let parts = three_parts b (little_bytes 4 g.0.0) g.0.1 (little_bytes 8 k.0.0) k.0.1 (little_bytes 8 l.0.0) l.0.1 id.1 time.1 offset.1 n.0 in
    subst (Stands ctx 4 b) n.1 (refl, (id.0, time.0, offset.0, parts))

boundary_sound : (ctx : Context) (b : List ℕ) (c : Chunk) → boundary_at b ≡ ok c → Stands ctx 5 b c
unfolding boundary_at
boundary_sound ctx b c e =
    let s = sized_ok 16 b (same_bytes boundary_bytes b) c e in
    let r = same_ok boundary_bytes b c s.0 s.1 in
    subst (Stands ctx 5 b) r.1 (refl, r.0)

pub if_cases : {A : Type 0} (t : Bool) (x y z : A) → cond t x y ≡ z → ((t ≡ true) × (x ≡ z)) ⊎ ((t ≡ false) × (y ≡ z))
if_cases true x y z e = inl (refl, e)
if_cases false x y z e = inr (refl, e)

other_tag : (tag : ℕ) → eqb tag 1 ≡ false → eqb tag 2 ≡ false → eqb tag 3 ≡ false → eqb tag 4 ≡ false → eqb tag 5 ≡ false → eqb tag 6 ≡ false → IsTrue (is_other tag)
other_tag tag a b c d e f = grind (arith, nat_tests)

pub content_sound : (ctx : Context) (tag : ℕ) (b : List ℕ) (c : Chunk) → IsBytes b → tag < 2 ^ 16 → content_at ctx tag b ≡ ok c → Stands ctx tag b c
unfolding content_at
content_sound ctx tag b c h small e =
    let at_tag : (n : ℕ) → eqb tag n ≡ true → Stands ctx n b c → Stands ctx tag b c = λ n t s. subst (λ (m : ℕ). Stands ctx m b c) (sym (eqb-true tag n t)) s in
    elim (if_cases (eqb tag 1) _ _ _ e) [
      | inl k ↦ at_tag 1 k.0 (subst (Stands ctx 1 b) (ok_is (FileHeader b) c k.1) (refl, refl))
      | inr k1 ↦ elim (if_cases (eqb tag 2) _ _ _ k1.1) [
        | inl k ↦ at_tag 2 k.0 (stream_header_sound ctx b c h k.1)
        | inr k2 ↦ elim (if_cases (eqb tag 3) _ _ _ k2.1) [
          | inl k ↦ at_tag 3 k.0 (samples_sound ctx b c h k.1)
          | inr k3 ↦ elim (if_cases (eqb tag 4) _ _ _ k3.1) [
            | inl k ↦ at_tag 4 k.0 (clock_offset_sound ctx b c h k.1)
            | inr k4 ↦ elim (if_cases (eqb tag 5) _ _ _ k4.1) [
              | inl k ↦ at_tag 5 k.0 (boundary_sound ctx b c k.1)
              | inr k5 ↦ elim (if_cases (eqb tag 6) _ _ _ k5.1) [
                | inl k ↦ at_tag 6 k.0 (stream_footer_sound ctx b c h k.1)
                | inr k ↦ subst (Stands ctx tag b) (ok_is (Other tag b) c k.1) (refl, (small, other_tag tag k1.0 k2.0 k3.0 k4.0 k5.0 k.0, refl))
              ]
            ]
          ]
        ]
      ]
    ]

-- ---- what stands in a content is found

other_skips : (tag n : ℕ) → IsTrue (is_other tag) → 1 ≤ n → n ≤ 6 → eqb tag n ≡ false
other_skips tag n h low high = grind (arith, nat_tests)

pub content_complete : (ctx : Context) (c : Chunk) (b : List ℕ) → IsContentText ctx c b → content_at ctx (tag_of c) b ≡ ok c
unfolding content_at stream_header_at samples_chunk_at clock_offset_at boundary_at stream_footer_at
content_complete ctx (FileHeader doc) b r = rw r refl
content_complete ctx (StreamHeader id doc) b r =
    rw r.4 (rw (id_again id doc (length (little_bytes 4 id ++ doc)) why.ShortContent r.0) (rw (r.1, r.3) refl))
content_complete ctx (Samples id samples) b r =
    let parts : b ≡ little_bytes 4 id ++ (r.3 ++ (r.4 ++ [])) = r.7 ∙ simp (append_assoc, append-nil) in
    let count = reads_length.complete (length samples) r.3 (r.4 ++ []) r.5 in
    let texts = (reads_samples r.1 (length samples)).complete samples r.4 [] (refl, r.6) in
    rw parts (rw (id_again id (r.3 ++ (r.4 ++ [])) (length (little_bytes 4 id ++ (r.3 ++ (r.4 ++ [])))) why.ShortContent r.0) (rw (r.2, count, texts) refl))
content_complete ctx (ClockOffset id time offset) b r =
    let parts : b ≡ little_bytes 4 id ++ (little_bytes 8 time ++ (little_bytes 8 offset ++ [])) = r.3 ∙ simp (append_assoc, append-nil) in
    let one = (reads_number 4).complete id (little_bytes 4 id) (little_bytes 8 time ++ (little_bytes 8 offset ++ [])) (r.0, refl) in
    let two = (reads_number 8).complete time (little_bytes 8 time) (little_bytes 8 offset ++ []) (r.1, refl) in
    let three = (reads_number 8).complete offset (little_bytes 8 offset) [] (r.2, refl) in
    rw (parts, one) (rw two (rw three refl))
content_complete ctx Boundary b r = rw r refl
content_complete ctx (StreamFooter id doc) b r =
    rw r.3 (rw (id_again id doc (length (little_bytes 4 id ++ doc)) why.ShortContent r.0) (rw r.2 refl))
content_complete ctx (Other tag body) b r =
    rw (other_skips tag 1 r.1 (lit≤ tt) (lit≤ tt), other_skips tag 2 r.1 (lit≤ tt) (lit≤ tt), other_skips tag 3 r.1 (lit≤ tt) (lit≤ tt), other_skips tag 4 r.1 (lit≤ tt) (lit≤ tt), other_skips tag 5 r.1 (lit≤ tt) (lit≤ tt), other_skips tag 6 r.1 (lit≤ tt) (lit≤ tt), r.2) refl
