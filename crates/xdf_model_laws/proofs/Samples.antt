-- The readers of samples fit their texts.
use Rattle.std.proofs.Common.{◌≡◌, ℕ, zero, suc, ◌+◌, ◌<◌, Bool, true, false, cond, eqb, List, [], ◌∷◌, ◌++◌, length, Err, refl, sym, ap, ◌∙◌, subst, append_assoc, arith, inl, inr, ◌⊎◌}
use Rattle.std.specs.List.{AllByRecursion}
use Rattle.std.proofs.lemmas.Bool.{eqb-true}
use Rattle.byteorder.specs.Endian.{little_bytes}
use Rattle.xdf_model.specs.declared.types.Shape.{Shape}
use Rattle.xdf_model.specs.declared.types.Stamp.{Stamp}
use Rattle.xdf_model.specs.declared.types.Stamp.TheVariants.{None, Bits}
use Rattle.xdf_model.specs.declared.types.Why.TheVariants.{BadStampWidth, SamplesShort}
use Rattle.xdf_model.specs.Varlen.{IsVarlen}
use Rattle.xdf_model.specs.Reading.{wrong, ◌>>=◌, front_at, number_at, length_at, many_at, told}
use Rattle.xdf_model.specs.Sample.{Value, number, text, Sample, size_of, FitsValue, FitsStamp, FitsShape, Joined, stamp_text, IsValueText, IsSampleText, stamp_at, text_at, bits_at, value_at, sample_at, samples_at}
use Rattle.xdf_model_laws.proofs.Bytes.{IsBytes, IsBytes-rest, IsBytes-tail}
use Rattle.xdf_model_laws.proofs.Readers.{found, one_reading, IsReader, bind_ok, pair_0, pair_1, reads_front, reads_number, reads_length, IsJoined, reads_many, reads_told}

-- ---- stamps

abbrev pub IsStamp : Stamp → List ℕ → Type 0
IsStamp s b = FitsStamp s × (b ≡ stamp_text s)

stamp_cases : (is_none is_bits : Bool) (b : List ℕ) (left : ℕ) (s : Stamp) (rest : List ℕ) → cond is_none (found None b) (cond is_bits (number_at 8 b >>= λ n. found (Bits n.0) n.1) (Err (wrong left BadStampWidth))) ≡ found s rest
    → ((is_none ≡ true) × (None ≡ s) × (b ≡ rest)) ⊎ ((is_bits ≡ true) × (n : ℕ) × (number_at 8 b ≡ found n rest) × (Bits n ≡ s))
stamp_cases true is_bits b left s rest e = inl (refl, pair_0 e, pair_1 e)
stamp_cases false true b left s rest e =
    let g = bind_ok (number_at 8 b) (λ n. found (Bits n.0) n.1) (s, rest) e in
    inr (refl, g.0.0, g.1 ∙ ap (λ (t : List ℕ). found g.0.0 t) (pair_1 g.2), pair_0 g.2)
stamp_cases false false b left s rest e = absurd cc

stamp_sound : (b : List ℕ) (s : Stamp) (rest : List ℕ) → IsBytes b → stamp_at b ≡ found s rest → (x : List ℕ) × IsStamp s x × (b ≡ x ++ rest)
unfolding stamp_at
stamp_sound [] s rest h e = absurd cc
stamp_sound (w ∷ b) s rest h e =
    elim (stamp_cases (eqb w 0) (eqb w 8) b (length b + 1) s rest e) [
      | inl k ↦ (0 ∷ [], subst (λ (t : Stamp). IsStamp t (0 ∷ [])) k.1 (tt, refl), ap (λ (c : ℕ). c ∷ b) (eqb-true w 0 k.0) ∙ ap (λ (t : List ℕ). 0 ∷ t) k.2)
      | inr k ↦
          let one = (reads_number 8).sound b k.1 rest (IsBytes-tail w b h) k.2 in
          let w-is : w ≡ 8 = eqb-true w 8 k.0 in
          let body : one.0 ≡ little_bytes 8 k.1 = one.1.1 in
          (8 ∷ one.0, subst (λ (t : Stamp). IsStamp t (8 ∷ one.0)) k.3 (one.1.0, ap (λ (t : List ℕ). 8 ∷ t) body), ap (λ (c : ℕ). c ∷ b) w-is ∙ ap (λ (t : List ℕ). 8 ∷ t) one.2)
    ]

stamp_complete : (s : Stamp) (x rest : List ℕ) → IsStamp s x → stamp_at (x ++ rest) ≡ found s rest
unfolding stamp_at
stamp_complete None x rest r = rw r.1 refl
stamp_complete (Bits n) x rest r = rw (r.1, (reads_number 8).complete n (little_bytes 8 n) rest (r.0, refl)) refl

pub reads_stamp : IsReader IsStamp stamp_at
reads_stamp = record { sound = stamp_sound; complete = stamp_complete }

-- ---- values

text_sound : (b : List ℕ) (v : Value) (rest : List ℕ) → IsBytes b → text_at b ≡ found v rest → (x : List ℕ) × IsValueText 0 v x × (b ≡ x ++ rest)
unfolding text_at
text_sound b v rest h e =
    let g = bind_ok (length_at b) (λ len. front_at len.0 len.1 >>= λ t. found (text t.0) t.1) (v, rest) e in
    let k = bind_ok (front_at g.0.0 g.0.1) (λ t. found (text t.0) t.1) (v, rest) g.2 in
    let len = reads_length.sound b g.0.0 g.0.1 h g.1 in
    let body = (reads_front g.0.0).sound g.0.1 k.0.0 k.0.1 (IsBytes-rest len.0 g.0.1 b h len.2) k.1 in
    let num : IsVarlen (length k.0.0) len.0 = rw body.1.0 len.1 in
    let v-text : IsValueText 0 (text k.0.0) (len.0 ++ body.0) = (refl, len.0, num, ap (λ (t : List ℕ). len.0 ++ t) body.1.1) in
    let parts : b ≡ (len.0 ++ body.0) ++ rest = len.2 ∙ ap (λ (t : List ℕ). len.0 ++ t) (body.2 ∙ ap (λ (t : List ℕ). body.0 ++ t) (pair_1 k.2)) ∙ sym (append_assoc len.0 body.0 rest) in
    (len.0 ++ body.0, subst (λ (t : Value). IsValueText 0 t (len.0 ++ body.0)) (pair_0 k.2) v-text, parts)

bits_sound : (size : ℕ) (b : List ℕ) (v : Value) (rest : List ℕ) → IsBytes b → bits_at (suc size) b ≡ found v rest → (x : List ℕ) × IsValueText (suc size) v x × (b ≡ x ++ rest)
unfolding bits_at
bits_sound size b v rest h e =
    let g = bind_ok (number_at (suc size) b) (λ n. found (number n.0) n.1) (v, rest) e in
    let one = (reads_number (suc size)).sound b g.0.0 g.0.1 h g.1 in
    (one.0, subst (λ (t : Value). IsValueText (suc size) t one.0) (pair_0 g.2) (omega arith, one.1.0, one.1.1), one.2 ∙ ap (λ (t : List ℕ). one.0 ++ t) (pair_1 g.2))

value_complete : (size : ℕ) (v : Value) (x rest : List ℕ) → IsValueText size v x → value_at size (x ++ rest) ≡ found v rest
unfolding text_at bits_at
value_complete zero (number n) x rest r = absurd (omega arith)
value_complete zero (text t) x rest r =
    let parts : x ++ rest ≡ r.1 ++ (t ++ rest) = ap (λ (y : List ℕ). y ++ rest) r.3 ∙ append_assoc r.1 t rest in
    rw (parts, reads_length.complete (length t) r.1 (t ++ rest) r.2, (reads_front (length t)).complete t t rest (refl, refl)) refl
value_complete (suc size) (number n) x rest r = rw ((reads_number (suc size)).complete n x rest (r.1, r.2)) refl
value_complete (suc size) (text t) x rest r = absurd (omega arith)

value_sound : (size : ℕ) (b : List ℕ) (v : Value) (rest : List ℕ) → IsBytes b → value_at size b ≡ found v rest → (x : List ℕ) × IsValueText size v x × (b ≡ x ++ rest)
value_sound zero = text_sound
value_sound (suc size) = bits_sound size

pub value_at-bits : (size : ℕ) (b : List ℕ) → 0 < size → value_at size b ≡ bits_at size b
value_at-bits zero b lt = absurd (omega arith)
value_at-bits (suc k) b lt = refl

pub value_at-text : (size : ℕ) (b : List ℕ) → size ≡ 0 → value_at size b ≡ text_at b
value_at-text zero b e = refl
value_at-text (suc k) b e = absurd (omega arith)

pub reads_value : (size : ℕ) → IsReader (IsValueText size) (value_at size)
reads_value size = record { sound = value_sound size; complete = value_complete size }

-- ---- samples

-- values that have a text fit
value_fits : (size : ℕ) (v : Value) (x : List ℕ) → IsValueText size v x → FitsValue size v
value_fits size (number n) x r = (r.0, r.1)
value_fits size (text t) x r = r.0

values_fit : (size : ℕ) (vs : List Value) (x : List ℕ) → Joined (IsValueText size) vs x → AllByRecursion (FitsValue size) vs
values_fit size [] x r = tt
values_fit size (v ∷ vs) x r = (value_fits size v r.0 r.2, values_fit size vs r.1 r.3)

sample_sound : (shape : Shape) (b : List ℕ) (s : Sample) (rest : List ℕ) → IsBytes b → sample_at shape b ≡ found s rest → (x : List ℕ) × IsSampleText shape s x × (b ≡ x ++ rest)
unfolding sample_at
sample_sound shape b s rest h e =
    let size = size_of shape.format in
    let g = bind_ok (stamp_at b) (λ stamp. many_at (value_at size) shape.count stamp.1 >>= λ values. found (record { stamp = stamp.0; values = values.0 }) values.1) (s, rest) e in
    let k = bind_ok (many_at (value_at size) shape.count g.0.1) (λ values. found (record { stamp = g.0.0; values = values.0 }) values.1) (s, rest) g.2 in
    let stamp = reads_stamp.sound b g.0.0 g.0.1 h g.1 in
    let values = (reads_many (IsValueText size) (value_at size) (reads_value size) shape.count).sound g.0.1 k.0.0 k.0.1 (IsBytes-rest stamp.0 g.0.1 b h stamp.2) k.1 in
    let made : Sample = record { stamp = g.0.0; values = k.0.0 } in
    let fits : FitsShape shape made = record { count = values.1.0; values = values_fit size k.0.0 values.0 values.1.1; stamp = stamp.1.0 } in
    let t : IsSampleText shape made (stamp.0 ++ values.0) = record { fits = fits; values = values.0; each = values.1.1; whole = ap (λ (y : List ℕ). y ++ values.0) stamp.1.1 } in
    let parts : b ≡ (stamp.0 ++ values.0) ++ rest = stamp.2 ∙ ap (λ (y : List ℕ). stamp.0 ++ y) (values.2 ∙ ap (λ (y : List ℕ). values.0 ++ y) (pair_1 k.2)) ∙ sym (append_assoc stamp.0 values.0 rest) in
    (stamp.0 ++ values.0, subst (λ (y : Sample). IsSampleText shape y (stamp.0 ++ values.0)) (pair_0 k.2) t, parts)

sample_complete : (shape : Shape) (s : Sample) (x rest : List ℕ) → IsSampleText shape s x → sample_at shape (x ++ rest) ≡ found s rest
unfolding sample_at
sample_complete shape s x rest r =
    let size = size_of shape.format in
    let parts : x ++ rest ≡ stamp_text s.stamp ++ (r.values ++ rest) = ap (λ (y : List ℕ). y ++ rest) r.whole ∙ append_assoc (stamp_text s.stamp) r.values rest in
    let stamp = reads_stamp.complete s.stamp (stamp_text s.stamp) (r.values ++ rest) (r.fits.stamp, refl) in
    let values = (reads_many (IsValueText size) (value_at size) (reads_value size) shape.count).complete s.values r.values rest (r.fits.count, r.each) in
    rw (parts, stamp, values) refl

pub reads_sample : (shape : Shape) → IsReader (IsSampleText shape) (sample_at shape)
reads_sample shape = record { sound = sample_sound shape; complete = sample_complete shape }

pub reads_samples : (shape : Shape) (n : ℕ) → IsReader (IsJoined (IsSampleText shape) n) (samples_at shape n)
unfolding samples_at
reads_samples shape n =
    let one = reads_told (IsSampleText shape) (sample_at shape) (λ rest. length rest) SamplesShort (reads_sample shape) in
    let many = reads_many (IsSampleText shape) (λ rest. told (length rest) SamplesShort (sample_at shape rest)) one n in
    record { sound = many.sound; complete = many.complete }

pub one_sample : (shape : Shape) (s t : Sample) (a b x y : List ℕ) → IsSampleText shape s a → IsSampleText shape t b → a ++ x ≡ b ++ y → (s ≡ t) × (a ≡ b)
one_sample shape s t a b x y r q e = one_reading (IsSampleText shape) (sample_at shape) (reads_sample shape) s t a b x y r q e
