-- Numbers alone, the shape, and the least text of a sample that is read.
use Rattle.std.proofs.Common.{◌≡◌, ℕ, zero, suc, ◌-◌, ◌<◌, ◌≤◌, Bool, false, List, [], ◌∷◌, ◌++◌, length, Ok, Err, refl, sym, ap, ◌∙◌, subst, arith}
use Rattle.std.specs.List.{flat_map, list_any}
use Rattle.std.proofs.lemmas.List.{append-nil, length-append}
use Rattle.std.proofs.lemmas.List.Concat.{flat_map-cons}
use Rattle.byteorder.specs.Endian.{little_bytes}
use Rattle.xdf_model.specs.declared.types.Shape.{Shape}
use Rattle.xdf_model.specs.declared.types.Stamp.{Stamp}
use Rattle.xdf_model.specs.declared.types.Stamp.TheVariants.{None, Bits}
use Rattle.xdf_model.specs.declared.types.Why.TheVariants.{SamplesShort}
use Rattle.xdf_model.specs.Reading.{Found, ◌>>=◌, number_at, many_at}
use Rattle.xdf_model.specs.Sample.{Value, number, text, Sample, size_of, FitsShape, Joined, stamp_text, IsValueText, IsSampleText, least_value_text, least_sample_text, stamp_at, bits_at, value_at, sample_at, samples_at}
use Rattle.xdf_model_laws.proofs.Bytes.{IsBytes}
use Rattle.xdf_model_laws.proofs.Readers.{found, told_ok, ok_is}
use Rattle.xdf_model_laws.proofs.Samples.{reads_sample, reads_samples}
use Rattle.sample_values.specs.Raw.{listed, found_in, IsAll}
use Rattle.sample_values.specs.Rest.{whole_sample_at}
use Rattle.sample_values.specs.View.{is_text}
use Rattle.sample_values.proofs.Cuts.{first_then, rest_found}

-- ---- no item that is read passes a test

more_pass : {A : Type 0} (p : A → Bool) (a : A) (r : Found (List A)) → p a ≡ false → list_any p (listed r) ≡ false → list_any p (listed (r >>= λ xs. found (a ∷ xs.0) xs.1)) ≡ false
more_pass p a (Ok x) one rest = rw (one, rest) refl
more_pass p a (Err e) one rest = refl

first_passes : {A : Type 0} (p : A → Bool) (read : List ℕ → Found A) (n : ℕ) (r : Found A) → ((a : A) (rest : List ℕ) → r ≡ found a rest → p a ≡ false)
    → ((b : List ℕ) → list_any p (listed (many_at read n b)) ≡ false) → list_any p (listed (first_then read n r)) ≡ false
first_passes p read n (Ok x) one rest = more_pass p x.0 (many_at read n x.1) (one x.0 x.1 refl) (rest x.1)
first_passes p read n (Err e) one rest = refl

none_passes : {A : Type 0} (p : A → Bool) (read : List ℕ → Found A) → ((b : List ℕ) (a : A) (rest : List ℕ) → read b ≡ found a rest → p a ≡ false) → (n : ℕ) (b : List ℕ) → list_any p (listed (many_at read n b)) ≡ false
unfolding many_at
none_passes p read one zero b = refl
none_passes p read one (suc n) b = first_passes p read n (read b) (one b) (λ rest. none_passes p read one n rest)

-- ---- numbers

number_of : (r : Found ℕ) (v : Value) (rest : List ℕ) → (r >>= λ n. found (number n.0) n.1) ≡ found v rest → is_text v ≡ false
number_of (Ok x) v rest e =
    let same : number x.0 ≡ v = ap (λ (p : Value × List ℕ). p.0) (ok_is (number x.0, x.1) (v, rest) e) in
    ap is_text (sym same)
number_of (Err f) v rest e = absurd cc

value_is_number : (k : ℕ) (b : List ℕ) (v : Value) (rest : List ℕ) → value_at (suc k) b ≡ found v rest → is_text v ≡ false
unfolding bits_at
value_is_number k b v rest e = number_of (number_at (suc k) b) v rest e

abbrev made : Stamp → List Value → Sample
made stamp values = record { stamp = stamp; values = values }

abbrev has_text : Sample → Bool
has_text s = list_any is_text s.values

values_are : (stamp : Stamp) (r : Found (List Value)) (s : Sample) (rest : List ℕ) → (r >>= λ values. found (made stamp values.0) values.1) ≡ found s rest → list_any is_text (listed r) ≡ false → has_text s ≡ false
values_are stamp (Ok x) s rest e none =
    let same : made stamp x.0 ≡ s = ap (λ (p : Sample × List ℕ). p.0) (ok_is (made stamp x.0, x.1) (s, rest) e) in
    ap has_text (sym same) ∙ none
values_are stamp (Err f) s rest e none = absurd cc

sample_are : (k n : ℕ) (r : Found Stamp) (s : Sample) (rest : List ℕ) → (r >>= λ stamp. many_at (value_at (suc k)) n stamp.1 >>= λ values. found (made stamp.0 values.0) values.1) ≡ found s rest → has_text s ≡ false
sample_are k n (Ok x) s rest e = values_are x.0 (many_at (value_at (suc k)) n x.1) s rest e (none_passes is_text (value_at (suc k)) (value_is_number k) n x.1)
sample_are k n (Err f) s rest e = absurd cc

sample_has_none : (shape : Shape) (k : ℕ) (b : List ℕ) (s : Sample) (rest : List ℕ) → size_of shape.format ≡ suc k → sample_at shape b ≡ found s rest → has_text s ≡ false
unfolding sample_at
sample_has_none shape k b s rest size e = sample_are k shape.count (stamp_at b) s rest (rw size at e)

pub no_texts : (shape : Shape) (n : ℕ) (b : List ℕ) → 0 < size_of shape.format → list_any (λ s. list_any is_text s.values) (listed (samples_at shape n b)) ≡ false
unfolding samples_at
no_texts shape n b some =
    let size : size_of shape.format ≡ suc (size_of shape.format - 1) = omega arith in
    none_passes has_text (whole_sample_at shape) (λ rest s after e. sample_has_none shape (size_of shape.format - 1) rest s after size (told_ok (length rest) SamplesShort (sample_at shape rest) (s, after) e)) n b

-- ---- a sample that takes all the bytes

text_is : (shape : Shape) (b : List ℕ) → IsBytes b → IsAll (sample_at shape b) → IsSampleText shape (found_in (sample_at shape b)) b
text_is shape b h all =
    let w = rest_found (sample_at shape b) [] all in
    let s = (reads_sample shape).sound b w.0 [] h w.1 in
    let same : found_in (sample_at shape b) ≡ w.0 = ap found_in w.1 in
    let whole : b ≡ s.0 = s.2 ∙ append-nil s.0 in
    subst (λ (x : Sample). IsSampleText shape x b) (sym same) (subst (λ (x : List ℕ). IsSampleText shape w.0 x) (sym whole) s.1)

pub has_the_shape : (shape : Shape) (b : List ℕ) → IsBytes b → IsAll (sample_at shape b) → FitsShape shape (found_in (sample_at shape b))
has_the_shape shape b h all = (text_is shape b h all).fits

numbers_least : (size : ℕ) → 0 < size → (vs : List Value) (x : List ℕ) → Joined (IsValueText size) vs x → x ≡ flat_map (least_value_text size) vs
numbers_least size some [] x r = r
numbers_least size some (number n ∷ vs) x r =
    r.4 ∙ ap (λ (t : List ℕ). t ++ r.1) r.2.2 ∙ ap (λ (t : List ℕ). little_bytes size n ++ t) (numbers_least size some vs r.1 r.3) ∙ sym (flat_map-cons (least_value_text size) (number n) vs)
numbers_least size some (text t ∷ vs) x r =
    let none : size ≡ 0 = r.2.0 in
    absurd (omega (arith, none, some))

pub is_the_least : (shape : Shape) (b : List ℕ) → IsBytes b → 0 < size_of shape.format → IsAll (sample_at shape b) → b ≡ least_sample_text shape (found_in (sample_at shape b))
is_the_least shape b h some all =
    let t = text_is shape b h all in
    t.whole ∙ ap (λ (x : List ℕ). stamp_text (found_in (sample_at shape b)).stamp ++ x) (numbers_least (size_of shape.format) some (found_in (sample_at shape b)).values t.values t.each)

-- ---- each sample takes a byte at least

stamp_some : (stamp : Stamp) → 1 ≤ length (stamp_text stamp)
stamp_some None = omega arith
stamp_some (Bits n) = omega arith

joined_few : (shape : Shape) (ss : List Sample) (x : List ℕ) → Joined (IsSampleText shape) ss x → length ss ≤ length x
joined_few shape [] x r = omega arith
joined_few shape (s ∷ ss) x r =
    let t = r.2 in
    omega (arith, ap length r.4, length-append r.0 r.1, ap length t.whole, length-append (stamp_text s.stamp) t.values, stamp_some s.stamp, joined_few shape ss r.1 r.3)

pub count_few : (shape : Shape) (n : ℕ) (b : List ℕ) → IsBytes b → IsAll (samples_at shape n b) → n ≤ length b
count_few shape n b h all =
    let w = rest_found (samples_at shape n b) [] all in
    let s = (reads_samples shape n).sound b w.0 [] h w.1 in
    omega (arith, s.1.0, joined_few shape w.0 s.0 s.1.1, ap length s.2, length-append s.0 [])
