-- A sample cut out of bytes, and lists of samples by their first ones.
use Rattle.std.proofs.Common.{◌≡◌, ℕ, zero, suc, ◌+◌, ◌-◌, ◌*◌, ◌<◌, ◌≤◌, ltb, false, List, [], ◌∷◌, ◌++◌, length, take, drop, slice_get, Some, None, inl, inr, Ok, Err, refl, sym, ap, ◌∙◌, subst, arith}
use Rattle.std.proofs.lemmas.Bool.{le-ltb, cases_lt}
use Rattle.std.proofs.lemmas.List.{take_at, append-nil, length-append, length-drop, drop-drop}
use Rattle.byteorder.specs.Endian.{little_number}
use Rattle.xdf_model.specs.declared.types.Shape.{Shape}
use Rattle.xdf_model.specs.declared.types.Stamp.{Stamp}
use Rattle.xdf_model.specs.declared.types.Why.TheVariants.{SamplesShort}
use Rattle.xdf_model.specs.Reading.{Fault, outside, Found, ◌>>=◌, front_at, number_at, length_at, many_at}
use Rattle.xdf_model.specs.Sample.{Value, number, text, Sample, size_of, stamp_at, text_at, bits_at, value_at, sample_at, samples_at}
use Rattle.xdf_model_laws.proofs.Bytes.{IsBytes, little_number-take}
use Rattle.xdf_model_laws.proofs.Readers.{found, told_ok, ok_is}
use Rattle.xdf_model_laws.proofs.Samples.{reads_sample, reads_samples}
use Rattle.sample_values.specs.View.{bits_in}
use Rattle.sample_values.specs.Rest.{rest_of, whole_sample_at}
use Rattle.sample_values.specs.Raw.{listed, found_in, IsAll}
use Rattle.sample_values.proofs.Rests.{left_is, gone, values_short}

pub rest_found : {A : Type 0} (r : Found A) (rest : List ℕ) → rest_of r ≡ left_is rest → (a : A) × (r ≡ found a rest)
rest_found {A} (Ok x) rest h =
    let same : x.1 ≡ rest = cc in
    (x.0, ap (λ (t : List ℕ). found x.0 t) same)
rest_found (Err e) rest h = absurd cc

pub cut_is : (shape : Shape) (b rest : List ℕ) → IsBytes b → rest_of (whole_sample_at shape b) ≡ left_is rest
    → (length rest ≤ length b) × IsAll (sample_at shape (take (length b - length rest) b)) × (whole_sample_at shape b ≡ found (found_in (sample_at shape (take (length b - length rest) b))) rest)
cut_is shape b rest h e =
    let w = rest_found (whole_sample_at shape b) rest e in
    let one = told_ok (length b) SamplesShort (sample_at shape b) (w.0, rest) w.1 in
    let s = (reads_sample shape).sound b w.0 rest h one in
    let long : length b ≡ length s.0 + length rest = ap length s.2 ∙ length-append s.0 rest in
    let own : take (length b - length rest) b ≡ s.0 ++ [] = ap (take (length b - length rest)) s.2 ∙ take_at s.0 rest (length b - length rest) (omega arith) ∙ sym (append-nil s.0) in
    let again : sample_at shape (take (length b - length rest) b) ≡ found w.0 [] = ap (sample_at shape) own ∙ (reads_sample shape).complete w.0 s.0 [] s.1 in
    (omega arith, ap (rest_of {A = Sample}) again, w.1 ∙ ap (λ (r : Found Sample). found (found_in r) rest) (sym again))

-- ---- items by the first one

abbrev pub first_then : {A : Type 0} → (List ℕ → Found A) → ℕ → Found A → Found (List A)
first_then read n r = r >>= λ x. many_at read n x.1 >>= λ xs. found (x.0 ∷ xs.0) xs.1

first_all_of : {A : Type 0} (s : A) (r : Found (List A)) → IsAll (r >>= λ xs. found (s ∷ xs.0) xs.1) → IsAll r × (listed (r >>= λ xs. found (s ∷ xs.0) xs.1) ≡ s ∷ listed r)
first_all_of s (Ok x) h = (h, refl)
first_all_of s (Err e) h = absurd cc

pub many_first : {A : Type 0} (read : List ℕ → Found A) (n : ℕ) (b rest : List ℕ) (s : A) → read b ≡ found s rest → IsAll (many_at read (suc n) b)
    → IsAll (many_at read n rest) × (listed (many_at read (suc n) b) ≡ s ∷ listed (many_at read n rest))
unfolding many_at
many_first {A} read n b rest s one all =
    let step : many_at read (suc n) b ≡ (many_at read n rest >>= λ xs. found (s ∷ xs.0) xs.1) = ap (first_then read n) one in
    let more = first_all_of s (many_at read n rest) (ap (rest_of {A = List A}) (sym step) ∙ all) in
    (more.0, ap (listed {A = A}) step ∙ more.1)

pub many_some : {A : Type 0} (read : List ℕ → Found A) (n : ℕ) (b : List ℕ) (f : Fault) → read b ≡ Err f → IsAll (many_at read (suc n) b) → ⊥
unfolding many_at
many_some {A} read n b f one all =
    let step : many_at read (suc n) b ≡ Err f = ap (first_then read n) one in
    let never : gone f ≡ left_is [] = ap (rest_of {A = List A}) (sym step) ∙ all in
    absurd cc

pub many_none : {A : Type 0} (read : List ℕ → Found A) (b : List ℕ) → listed (many_at read 0 b) ≡ []
unfolding many_at
many_none read b = refl

many_one : {A : Type 0} (read : List ℕ → Found A) (n : ℕ) (b : List ℕ) (r : Found A) → read b ≡ r → IsAll (many_at read (suc n) b) → (s : A) × (rest : List ℕ) × (read b ≡ found s rest)
many_one read n b (Ok x) e all = (x.0, x.1, e)
many_one read n b (Err f) e all = absurd (many_some read n b f e all)

-- how many there are
pub many_count : {A : Type 0} (read : List ℕ → Found A) (n : ℕ) (b : List ℕ) → IsAll (many_at read n b) → length (listed (many_at read n b)) ≡ n
many_count {A} read zero b all = ap (length {A = A}) (many_none read b)
many_count {A} read (suc n) b all =
    let w = many_one read n b (read b) refl all in
    let k = many_first read n b w.1 w.0 w.2 all in
    ap (length {A = A}) k.1 ∙ ap suc (many_count read n w.1 k.0)

-- ---- samples

pub first_all : (shape : Shape) (n : ℕ) (b rest : List ℕ) (s : Sample) → whole_sample_at shape b ≡ found s rest → IsAll (samples_at shape (suc n) b)
    → IsAll (samples_at shape n rest) × (listed (samples_at shape (suc n) b) ≡ s ∷ listed (samples_at shape n rest))
unfolding samples_at
first_all shape n b rest s one all = many_first (whole_sample_at shape) n b rest s one all

pub first_some : (shape : Shape) (n : ℕ) (b : List ℕ) (f : Fault) → whole_sample_at shape b ≡ Err f → IsAll (samples_at shape (suc n) b) → ⊥
unfolding samples_at
first_some shape n b f one all = many_some (whole_sample_at shape) n b f one all

pub none_left : (shape : Shape) (n : ℕ) (b : List ℕ) → n ≡ 0 → listed (samples_at shape n b) ≡ []
unfolding samples_at
none_left shape n b none = ap (λ (m : ℕ). listed (many_at (whole_sample_at shape) m b)) none ∙ many_none (whole_sample_at shape) b

pub all_count : (shape : Shape) (n : ℕ) (b : List ℕ) → IsAll (samples_at shape n b) → length (listed (samples_at shape n b)) ≡ n
unfolding samples_at
all_count shape n b all = many_count (whole_sample_at shape) n b all

-- ---- the parts of a sample that takes all the bytes

abbrev made : Stamp → List Value → Sample
made stamp values = record { stamp = stamp; values = values }

parts_more : (stamp : Stamp) (r : Found (List Value)) → IsAll (r >>= λ values. found (made stamp values.0) values.1)
    → ((found_in (r >>= λ values. found (made stamp values.0) values.1)).stamp ≡ stamp) × (r ≡ found ((found_in (r >>= λ values. found (made stamp values.0) values.1)).values) [])
parts_more stamp (Ok x) all =
    let none : x.1 ≡ [] = cc in
    (refl, ap (λ (t : List ℕ). found x.0 t) none)
parts_more stamp (Err e) all = absurd cc

pub parts_ok : (shape : Shape) (b t : List ℕ) (stamp : Stamp) → stamp_at b ≡ found stamp t → IsAll (sample_at shape b)
    → ((found_in (sample_at shape b)).stamp ≡ stamp) × (many_at (value_at (size_of shape.format)) shape.count t ≡ found ((found_in (sample_at shape b)).values) [])
unfolding sample_at
parts_ok shape b t stamp one all = rw one (parts_more stamp (many_at (value_at (size_of shape.format)) shape.count t) (rw one at all))

pub parts_some : (shape : Shape) (b : List ℕ) (f : Fault) → stamp_at b ≡ Err f → IsAll (sample_at shape b) → ⊥
unfolding sample_at
parts_some shape b f one all =
    let never : gone f ≡ left_is [] = rw one at all in
    absurd cc

-- ---- numbers

pub one_number : (k : ℕ) (b : List ℕ) → suc k ≤ length b → value_at (suc k) b ≡ found (number (little_number (suc k) b)) (drop (suc k) b)
unfolding bits_at number_at front_at
one_number k b h =
    let test : ltb (length b) (suc k) ≡ false = le-ltb _ _ h in
    rw test (ap (λ (n : ℕ). found (number n) (drop (suc k) b)) (little_number-take (suc k) b h))

pub values_long : (k n : ℕ) (b : List ℕ) → IsAll (many_at (value_at (suc k)) n b) → n * suc k ≤ length b
values_long k n b all = elim (cases_lt (length b) (n * suc k)) [
  | inl short ↦
      let never : gone outside ≡ left_is [] = sym (values_short k n b short) ∙ all in
      absurd cc
  | inr long ↦ long
]

pub nth_number : (k n i : ℕ) (b : List ℕ) → IsAll (many_at (value_at (suc k)) n b) → i < n → slice_get (listed (many_at (value_at (suc k)) n b)) i ≡ Some (number (little_number (suc k) (drop (i * suc k) b)))
nth_number k zero i b all lt = absurd (omega arith)
nth_number k (suc n) zero b all lt =
    let long : suc n * suc k ≤ length b = values_long k (suc n) b all in
    let k1 = many_first (value_at (suc k)) n b (drop (suc k) b) (number (little_number (suc k) b)) (one_number k b (omega arith)) all in
    let none : zero * suc k ≡ 0 = omega arith in
    ap (λ (l : List Value). slice_get l 0) k1.1 ∙ ap (λ (m : ℕ). Some (number (little_number (suc k) (drop m b)))) (sym none)
nth_number k (suc n) (suc i) b all lt =
    let long : suc n * suc k ≤ length b = values_long k (suc n) b all in
    let k1 = many_first (value_at (suc k)) n b (drop (suc k) b) (number (little_number (suc k) b)) (one_number k b (omega arith)) all in
    let place : suc k + i * suc k ≡ suc i * suc k = omega arith in
    ap (λ (l : List Value). slice_get l (suc i)) k1.1 ∙ nth_number k n i (drop (suc k) b) k1.0 (omega arith)
    ∙ ap (λ (l : List ℕ). Some (number (little_number (suc k) l))) (drop-drop (i * suc k) (suc k) b ∙ ap (λ (m : ℕ). drop m b) place)

pub room_at : (k n i : ℕ) (b : List ℕ) → IsAll (many_at (value_at (suc k)) n b) → i < n → i * suc k + suc k ≤ length b
room_at k zero i b all lt = absurd (omega arith)
room_at k (suc n) zero b all lt =
    let long : suc n * suc k ≤ length b = values_long k (suc n) b all in
    omega arith
room_at k (suc n) (suc i) b all lt =
    let long : suc n * suc k ≤ length b = values_long k (suc n) b all in
    let k1 = many_first (value_at (suc k)) n b (drop (suc k) b) (number (little_number (suc k) b)) (one_number k b (omega arith)) all in
    let rest : i * suc k + suc k ≤ length (drop (suc k) b) = room_at k n i (drop (suc k) b) k1.0 (omega arith) in
    omega (arith, length-drop (suc k) b)

pub room_of : (size n i : ℕ) (b : List ℕ) → 0 < size → IsAll (many_at (value_at size) n b) → i < n → i * size + size ≤ length b
room_of zero n i b some all lt = absurd (omega arith)
room_of (suc k) n i b some all lt = room_at k n i b all lt

pub number_of_place : (size n i : ℕ) (b : List ℕ) → 0 < size → IsAll (many_at (value_at size) n b) → i < n
    → slice_get (listed (many_at (value_at size) n b)) i ≡ Some (number (little_number size (drop (i * size) b)))
number_of_place zero n i b some all lt = absurd (omega arith)
number_of_place (suc k) n i b some all lt = nth_number k n i b all lt

-- ---- texts have no bits

text_no_bits_of : (r : Found (List ℕ)) (v : Value) (rest : List ℕ) → (r >>= λ t. found (text t.0) t.1) ≡ found v rest → bits_in (Some v) ≡ None
text_no_bits_of (Ok x) v rest e =
    let same : text x.0 ≡ v = ap (λ (p : Value × List ℕ). p.0) (ok_is (text x.0, x.1) (v, rest) e) in
    ap (λ (u : Value). bits_in (Some u)) (sym same)
text_no_bits_of (Err f) v rest e = absurd cc

text_no_bits_from : (r : Found ℕ) (v : Value) (rest : List ℕ) → (r >>= λ len. front_at len.0 len.1 >>= λ t. found (text t.0) t.1) ≡ found v rest → bits_in (Some v) ≡ None
text_no_bits_from (Ok x) v rest e = text_no_bits_of (front_at x.0 x.1) v rest e
text_no_bits_from (Err f) v rest e = absurd cc

text_no_bits : (b : List ℕ) (v : Value) (rest : List ℕ) → text_at b ≡ found v rest → bits_in (Some v) ≡ None
unfolding text_at
text_no_bits b v rest e = text_no_bits_from (length_at b) v rest e

no_bits_at : (i : ℕ) (v : Value) (l : List Value) → bits_in (Some v) ≡ None → ((j : ℕ) → bits_in (slice_get l j) ≡ None) → bits_in (slice_get (v ∷ l) i) ≡ None
no_bits_at zero v l first more = first
no_bits_at (suc i) v l first more = more i

pub past_bits : (l : List Value) (i : ℕ) → length l ≤ i → bits_in (slice_get l i) ≡ None
past_bits [] i h = refl
past_bits (v ∷ l) zero h = absurd (omega arith)
past_bits (v ∷ l) (suc i) h = past_bits l i (omega arith)

pub no_bits : (n i : ℕ) (b : List ℕ) → IsAll (many_at text_at n b) → bits_in (slice_get (listed (many_at text_at n b)) i) ≡ None
no_bits zero i b all = ap (λ (l : List Value). bits_in (slice_get l i)) (many_none text_at b)
no_bits (suc n) i b all =
    let w = many_one text_at n b (text_at b) refl all in
    let k = many_first text_at n b w.1 w.0 w.2 all in
    ap (λ (l : List Value). bits_in (slice_get l i)) k.1 ∙ no_bits_at i w.0 (listed (many_at text_at n w.1)) (text_no_bits b w.0 w.1 w.2) (λ j. no_bits n j w.1 k.0)

-- ---- the values of a sample that takes all the bytes

stamp_found : (shape : Shape) (b : List ℕ) (r : Found Stamp) → stamp_at b ≡ r → IsAll (sample_at shape b) → (s : Stamp) × (t : List ℕ) × (stamp_at b ≡ found s t)
stamp_found shape b (Ok x) e all = (x.0, x.1, e)
stamp_found shape b (Err f) e all = absurd (parts_some shape b f e all)

-- what is found is what `listed` gives
found_listed : {A : Type 0} (r : Found (List A)) (xs : List A) → r ≡ found xs [] → (listed r ≡ xs) × IsAll r
found_listed {A} r xs e = (ap (listed {A = A}) e, ap (rest_of {A = List A}) e)

pub sample_count : (shape : Shape) (b : List ℕ) → IsAll (sample_at shape b) → length ((found_in (sample_at shape b)).values) ≡ shape.count
sample_count shape b all =
    let s = stamp_found shape b (stamp_at b) refl all in
    let p = parts_ok shape b s.1 s.0 s.2 all in
    let l = found_listed (many_at (value_at (size_of shape.format)) shape.count s.1) ((found_in (sample_at shape b)).values) p.1 in
    ap (length {A = Value}) (sym l.0) ∙ many_count (value_at (size_of shape.format)) shape.count s.1 l.1

pub sample_no_bits : (shape : Shape) (b : List ℕ) (i : ℕ) → size_of shape.format ≡ 0 → IsAll (sample_at shape b) → bits_in (slice_get ((found_in (sample_at shape b)).values) i) ≡ None
sample_no_bits shape b i size all =
    let s = stamp_found shape b (stamp_at b) refl all in
    let p = parts_ok shape b s.1 s.0 s.2 all in
    let l = found_listed (many_at (value_at (size_of shape.format)) shape.count s.1) ((found_in (sample_at shape b)).values) p.1 in
    let texts : IsAll (many_at text_at shape.count s.1) = subst (λ (n : ℕ). IsAll (many_at (value_at n) shape.count s.1)) size l.1 in
    ap (λ (vs : List Value). bits_in (slice_get vs i)) (sym l.0) ∙ ap (λ (n : ℕ). bits_in (slice_get (listed (many_at (value_at n) shape.count s.1)) i)) size ∙ no_bits shape.count i s.1 texts

pub many_left : {A : Type 0} (read : List ℕ → Found A) (n : ℕ) (b : List ℕ) → n ≡ 0 → listed (many_at read n b) ≡ []
many_left read n b none = ap (λ (m : ℕ). listed (many_at read m b)) none ∙ many_none read b

-- ---- many samples cut out of bytes

pub all_cut : (shape : Shape) (n : ℕ) (b rest : List ℕ) → IsBytes b → rest_of (samples_at shape n b) ≡ left_is rest
    → (length rest ≤ length b) × IsAll (samples_at shape n (take (length b - length rest) b)) × (samples_at shape n b ≡ found (listed (samples_at shape n (take (length b - length rest) b))) rest)
all_cut shape n b rest h e =
    let w = rest_found (samples_at shape n b) rest e in
    let s = (reads_samples shape n).sound b w.0 rest h w.1 in
    let long : length b ≡ length s.0 + length rest = ap length s.2 ∙ length-append s.0 rest in
    let own : take (length b - length rest) b ≡ s.0 ++ [] = ap (take (length b - length rest)) s.2 ∙ take_at s.0 rest (length b - length rest) (omega arith) ∙ sym (append-nil s.0) in
    let again : samples_at shape n (take (length b - length rest) b) ≡ found w.0 [] = ap (samples_at shape n) own ∙ (reads_samples shape n).complete w.0 s.0 [] s.1 in
    (omega arith, ap (rest_of {A = List Sample}) again, w.1 ∙ ap (λ (r : Found (List Sample)). found (listed r) rest) (sym again))
