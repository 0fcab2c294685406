-- What is left behind values, samples and several of them.
use Rattle.std.proofs.Common.{◌≡◌, ℕ, zero, suc, ◌+◌, ◌-◌, ◌*◌, ◌<◌, ◌≤◌, Bool, true, false, cond, ltb, eqb, List, [], ◌∷◌, length, take, drop, Result, Ok, Err, refl, sym, ap, ◌∙◌, get_or, arith, ne_eqb, ◌⊎◌, inl, inr}
use Rattle.std.proofs.lemmas.Bool.{le-ltb, lt-ltb, cases_lt, cases_eq}
use Rattle.std.proofs.lemmas.List.{length-drop, drop-drop, take_rest}
use Rattle.xdf_model.specs.declared.types.Shape.{Shape}
use Rattle.xdf_model.specs.declared.types.Stamp.{Stamp}
use Rattle.xdf_model.specs.declared.types.Stamp.TheVariants as stamp
use Rattle.xdf_model.specs.declared.types.Why.{Why}
use Rattle.xdf_model.specs.declared.types.Why.TheVariants.{SamplesShort, BadStampWidth}
use Rattle.xdf_model.specs.Varlen.{varlen_at}
use Rattle.xdf_model.specs.Reading.{Fault, outside, wrong, Found, ◌>>=◌, front_at, number_at, length_at, many_at, told}
use Rattle.xdf_model.specs.Sample.{Value, text, Sample, size_of, stamp_at, text_at, bits_at, value_at, sample_at}
use Rattle.xdf_model_laws.proofs.Readers.{found}
use Rattle.sample_values.specs.Rest.{rest_of, whole_sample_at, stamp_width}

abbrev pub gone : Fault → Result (List ℕ) Fault
gone f = Err f

abbrev pub left_is : List ℕ → Result (List ℕ) Fault
left_is b = Ok b

rest_kept : {A B : Type 0} (r : Found A) (g : A → B) → rest_of (r >>= λ x. Ok (g x.0, x.1)) ≡ rest_of r
rest_kept (Ok x) g = refl
rest_kept (Err e) g = refl

rest_told : {A : Type 0} (left : ℕ) (why : Why) (r : Found A) → rest_of (told left why r) ≡ told left why (rest_of r)
rest_told left why (Ok x) = refl
rest_told left why (Err outside) = refl
rest_told left why (Err (wrong at other)) = refl

-- ---- one after the other

many_rest_of : {A : Type 0} (read : List ℕ → Found A) (n : ℕ) (r : Found A) (rest : List ℕ) → rest_of r ≡ left_is rest
    → rest_of (r >>= λ x. many_at read n x.1 >>= λ xs. Ok (x.0 ∷ xs.0, xs.1)) ≡ rest_of (many_at read n rest)
many_rest_of {A} read n (Ok x) rest h =
    let same : x.1 ≡ rest = cc in
    rest_kept (many_at read n x.1) (λ (xs : List A). x.0 ∷ xs) ∙ ap (λ (t : List ℕ). rest_of (many_at read n t)) same
many_rest_of read n (Err e) rest h = absurd cc

pub many_rest : {A : Type 0} (read : List ℕ → Found A) (n : ℕ) (b rest : List ℕ) → rest_of (read b) ≡ left_is rest → rest_of (many_at read (suc n) b) ≡ rest_of (many_at read n rest)
unfolding many_at
many_rest read n b rest h = many_rest_of read n (read b) rest h

many_fails_of : {A : Type 0} (read : List ℕ → Found A) (n : ℕ) (r : Found A) (f : Fault) → rest_of r ≡ gone f
    → rest_of (r >>= λ x. many_at read n x.1 >>= λ xs. Ok (x.0 ∷ xs.0, xs.1)) ≡ gone f
many_fails_of read n (Ok x) f h = absurd cc
many_fails_of read n (Err e) f h = h

pub many_fails : {A : Type 0} (read : List ℕ → Found A) (n : ℕ) (b : List ℕ) (f : Fault) → rest_of (read b) ≡ gone f → rest_of (many_at read (suc n) b) ≡ gone f
unfolding many_at
many_fails read n b f h = many_fails_of read n (read b) f h

-- a loop's step, its end by a fault, and its end
pub walks_on : {A : Type 0} (read : List ℕ → Found A) (count i : ℕ) (b rest : List ℕ) (total : Result (List ℕ) Fault) → i < count → rest_of (read b) ≡ left_is rest
    → total ≡ rest_of (many_at read (count - i) b) → total ≡ rest_of (many_at read (count - (i + 1)) rest)
walks_on read count i b rest total lt h so_far =
    let k : count - i ≡ suc (count - (i + 1)) = omega arith in
    let first : total ≡ rest_of (many_at read (suc (count - (i + 1))) b) = so_far ∙ ap (λ (n : ℕ). rest_of (many_at read n b)) k in
    first ∙ many_rest read (count - (i + 1)) b rest h

pub walk_fails : {A : Type 0} (read : List ℕ → Found A) (count i : ℕ) (b : List ℕ) (f : Fault) (total : Result (List ℕ) Fault) → i < count → rest_of (read b) ≡ gone f
    → total ≡ rest_of (many_at read (count - i) b) → total ≡ gone f
walk_fails read count i b f total lt h so_far =
    let k : count - i ≡ suc (count - (i + 1)) = omega arith in
    let first : total ≡ rest_of (many_at read (suc (count - (i + 1))) b) = so_far ∙ ap (λ (n : ℕ). rest_of (many_at read n b)) k in
    first ∙ many_fails read (count - (i + 1)) b f h

pub walk_ends : {A : Type 0} (read : List ℕ → Found A) (count i : ℕ) (b : List ℕ) (total : Result (List ℕ) Fault) → count ≤ i
    → total ≡ rest_of (many_at read (count - i) b) → total ≡ left_is b
unfolding many_at
walk_ends read count i b total le so_far =
    let k : count - i ≡ 0 = omega arith in
    so_far ∙ ap (λ (n : ℕ). rest_of (many_at read n b)) k

-- ---- numbers

abbrev numbers_left : ℕ → List ℕ → Result (List ℕ) Fault
numbers_left size b = cond (ltb (length b) size) (gone outside) (left_is (drop size b))

abbrev front_by : Bool → ℕ → List ℕ → List ℕ → Found (List ℕ)
front_by short size b x = cond short (Err outside) (Ok (x, drop size b))

value_by : {A B : Type 0} (short : Bool) (size : ℕ) (b x : List ℕ) (f : List ℕ → A) (g : A → B)
    → rest_of ((front_by short size b x >>= λ y. found (f y.0) y.1) >>= λ y. found (g y.0) y.1) ≡ cond short (gone outside) (left_is (drop size b))
value_by true size b x f g = refl
value_by false size b x f g = refl

value_rest : (k : ℕ) (b : List ℕ) → rest_of (value_at (suc k) b) ≡ numbers_left (suc k) b
unfolding bits_at number_at front_at
value_rest k b = value_by (ltb (length b) (suc k)) (suc k) b _ _ _

value_short : (k : ℕ) (b : List ℕ) → length b < suc k → rest_of (value_at (suc k) b) ≡ gone outside
value_short k b h =
    let test : ltb (length b) (suc k) ≡ true = lt-ltb _ _ h in
    value_rest k b ∙ rw test refl

value_left : (k : ℕ) (b : List ℕ) → suc k ≤ length b → rest_of (value_at (suc k) b) ≡ left_is (drop (suc k) b)
value_left k b h =
    let test : ltb (length b) (suc k) ≡ false = le-ltb _ _ h in
    value_rest k b ∙ rw test refl

pub values_left : (k n : ℕ) (b : List ℕ) → n * suc k ≤ length b → rest_of (many_at (value_at (suc k)) n b) ≡ left_is (drop (n * suc k) b)
unfolding many_at
values_left k zero b h =
    let none : 0 ≡ zero * suc k = omega arith in
    ap (λ (m : ℕ). left_is (drop m b)) none
values_left k (suc n) b h =
    let first : suc k ≤ length b = omega arith in
    let rest : n * suc k ≤ length (drop (suc k) b) = omega (arith, length-drop (suc k) b) in
    let all : suc k + n * suc k ≡ suc n * suc k = omega arith in
    many_rest (value_at (suc k)) n b (drop (suc k) b) (value_left k b first) ∙ values_left k n (drop (suc k) b) rest
    ∙ ap left_is (drop-drop (n * suc k) (suc k) b ∙ ap (λ (m : ℕ). drop m b) all)

pub values_short : (k n : ℕ) (b : List ℕ) → length b < n * suc k → rest_of (many_at (value_at (suc k)) n b) ≡ gone outside
values_short k zero b h = absurd (omega arith)
values_short k (suc n) b h =
    elim (cases_lt (length b) (suc k)) [
      | inl short ↦ many_fails (value_at (suc k)) n b outside (value_short k b short)
      | inr first ↦
          let rest : length (drop (suc k) b) < n * suc k = omega (arith, length-drop (suc k) b) in
          many_rest (value_at (suc k)) n b (drop (suc k) b) (value_left k b first) ∙ values_short k n (drop (suc k) b) rest
    ]

-- ---- a stamp

stamp_rest : (zero eight : Bool) (t : List ℕ) (left : ℕ) → rest_of (cond zero (Ok (stamp.None, t)) (cond eight (number_at 8 t >>= λ n. Ok (stamp.Bits n.0, n.1)) (Err (wrong left BadStampWidth))))
    ≡ cond zero (left_is t) (cond eight (numbers_left 8 t) (gone (wrong left BadStampWidth)))
unfolding number_at front_at
stamp_rest true eight t left = refl
stamp_rest false true t left = value_by (ltb (length t) 8) 8 t _ _ _
stamp_rest false false t left = refl

abbrev tag_by : Bool → Bool → ℕ
tag_by none eight = cond none 1 (cond eight 9 0)

by_tests : (zero eight : Bool) (left : ℕ) (t : List ℕ) → tag_by zero eight ≡ 0 → cond zero (left_is t) (cond eight (numbers_left 8 t) (gone (wrong left BadStampWidth))) ≡ gone (wrong left BadStampWidth)
by_tests true eight left t h = absurd (omega arith)
by_tests false true left t h = absurd (omega arith)
by_tests false false left t h = refl

-- ---- a sample

abbrev sample_from : Shape → Found Stamp → Found Sample
sample_from shape r = r >>= λ stamp. many_at (value_at (size_of shape.format)) shape.count stamp.1 >>= λ values. Ok (record { stamp = stamp.0; values = values.0 }, values.1)

sample_rest_of : (shape : Shape) (r : Found Stamp) → rest_of (sample_from shape r) ≡ (rest_of r >>= λ t. rest_of (many_at (value_at (size_of shape.format)) shape.count t))
sample_rest_of shape (Ok x) = rest_kept (many_at (value_at (size_of shape.format)) shape.count x.1) (λ (values : List Value). record { stamp = x.0; values = values })
sample_rest_of shape (Err e) = refl

-- what a whole sample leaves, by what its stamp leaves
pub whole_rest : (shape : Shape) (tag : ℕ) (t : List ℕ) (r : Result (List ℕ) Fault) → rest_of (stamp_at (tag ∷ t)) ≡ r
    → rest_of (whole_sample_at shape (tag ∷ t)) ≡ told (suc (length t)) SamplesShort (r >>= λ b. rest_of (many_at (value_at (size_of shape.format)) shape.count b))
unfolding sample_at
whole_rest shape tag t r h =
    rest_told (suc (length t)) SamplesShort (sample_from shape (stamp_at (tag ∷ t))) ∙ ap (told (suc (length t)) SamplesShort) (sample_rest_of shape (stamp_at (tag ∷ t)) ∙ ap (λ (x : Result (List ℕ) Fault). x >>= λ b. rest_of (many_at (value_at (size_of shape.format)) shape.count b)) h)

pub tag_none : (t : List ℕ) → rest_of (stamp_at (0 ∷ t)) ≡ left_is t
unfolding stamp_at
tag_none t = refl

pub tag_eight : (t : List ℕ) → rest_of (stamp_at (8 ∷ t)) ≡ numbers_left 8 t
unfolding stamp_at
tag_eight t = stamp_rest false true t (length t + 1)

pub tag_bad : (tag : ℕ) (t : List ℕ) → stamp_width tag ≡ 0 → rest_of (stamp_at (tag ∷ t)) ≡ gone (wrong (length t + 1) BadStampWidth)
unfolding stamp_at
tag_bad tag t h = stamp_rest (eqb tag 0) (eqb tag 8) t (length t + 1) ∙ by_tests (eqb tag 0) (eqb tag 8) (length t + 1) t h

-- the first byte of a stamp
pub width_tag : (tag : ℕ) → (stamp_width tag ≡ 0) ⊎ ((tag ≡ 0) × (stamp_width tag ≡ 1)) ⊎ ((tag ≡ 8) × (stamp_width tag ≡ 9))
width_tag tag = elim (cases_eq tag 0) [
  | inl none ↦ inr (inl (none, rw none refl))
  | inr some ↦ elim (cases_eq tag 8) [
    | inl eight ↦ inr (inr (eight, rw eight refl))
    | inr other ↦ inl (rw (ne_eqb _ _ some, ne_eqb _ _ other) refl)
  ]
]

-- ---- a sample of numbers

pub bad_tag : (shape : Shape) (tag : ℕ) (t : List ℕ) → stamp_width tag ≡ 0 → rest_of (whole_sample_at shape (tag ∷ t)) ≡ gone (wrong (length (tag ∷ t)) BadStampWidth)
bad_tag shape tag t h = whole_rest shape tag t _ (tag_bad tag t h) ∙ ap (λ (n : ℕ). gone (wrong n BadStampWidth)) (omega arith)

short_behind : (shape : Shape) (k : ℕ) (tag : ℕ) (t b : List ℕ) → size_of shape.format ≡ suc k → rest_of (stamp_at (tag ∷ t)) ≡ left_is b → length b < shape.count * suc k
    → rest_of (whole_sample_at shape (tag ∷ t)) ≡ gone (wrong (length (tag ∷ t)) SamplesShort)
short_behind shape k tag t b size h short =
    let values : rest_of (many_at (value_at (suc k)) shape.count b) ≡ gone outside = values_short k shape.count b short in
    whole_rest shape tag t _ h ∙ rw (size, values) refl

left_behind : (shape : Shape) (k : ℕ) (tag : ℕ) (t b : List ℕ) → size_of shape.format ≡ suc k → rest_of (stamp_at (tag ∷ t)) ≡ left_is b → shape.count * suc k ≤ length b
    → rest_of (whole_sample_at shape (tag ∷ t)) ≡ left_is (drop (shape.count * suc k) b)
left_behind shape k tag t b size h long =
    let values : rest_of (many_at (value_at (suc k)) shape.count b) ≡ left_is (drop (shape.count * suc k) b) = values_left k shape.count b long in
    whole_rest shape tag t _ h ∙ rw (size, values) refl

eight_short : (t : List ℕ) → length t < 8 → rest_of (stamp_at (8 ∷ t)) ≡ gone outside
eight_short t h =
    let test : ltb (length t) 8 ≡ true = lt-ltb _ _ h in
    tag_eight t ∙ rw test refl

eight_left : (t : List ℕ) → 8 ≤ length t → rest_of (stamp_at (8 ∷ t)) ≡ left_is (drop 8 t)
eight_left t h =
    let test : ltb (length t) 8 ≡ false = le-ltb _ _ h in
    tag_eight t ∙ rw test refl

pub numbers_short : (shape : Shape) (k : ℕ) (tag : ℕ) (t : List ℕ) → size_of shape.format ≡ suc k → (stamp_width tag ≡ 0 → ⊥) → length (tag ∷ t) < stamp_width tag + shape.count * suc k
    → rest_of (whole_sample_at shape (tag ∷ t)) ≡ gone (wrong (length (tag ∷ t)) SamplesShort)
numbers_short shape k tag t size some short = elim (width_tag tag) [
  | inl none ↦ absurd (some none)
  | inr (inl w) ↦
      let less : length t < shape.count * suc k = omega (arith, w.1) in
      short_behind shape k tag t t size (ap (λ (n : ℕ). rest_of (stamp_at (n ∷ t))) w.0 ∙ tag_none t) less
  | inr (inr w) ↦ elim (cases_lt (length t) 8) [
    | inl few ↦ whole_rest shape tag t _ (ap (λ (n : ℕ). rest_of (stamp_at (n ∷ t))) w.0 ∙ eight_short t few)
    | inr many ↦
        let less : length (drop 8 t) < shape.count * suc k = omega (arith, w.1, length-drop 8 t) in
        short_behind shape k tag t (drop 8 t) size (ap (λ (n : ℕ). rest_of (stamp_at (n ∷ t))) w.0 ∙ eight_left t many) less
  ]
]

pub numbers_behind : (shape : Shape) (k : ℕ) (tag : ℕ) (t : List ℕ) → size_of shape.format ≡ suc k → (stamp_width tag ≡ 0 → ⊥) → stamp_width tag + shape.count * suc k ≤ length (tag ∷ t)
    → rest_of (whole_sample_at shape (tag ∷ t)) ≡ left_is (drop (stamp_width tag + shape.count * suc k) (tag ∷ t))
numbers_behind shape k tag t size some long = elim (width_tag tag) [
  | inl none ↦ absurd (some none)
  | inr (inl w) ↦
      let more : shape.count * suc k ≤ length t = omega (arith, w.1) in
      let all : stamp_width tag + shape.count * suc k ≡ suc (shape.count * suc k) = omega (arith, w.1) in
      left_behind shape k tag t t size (ap (λ (n : ℕ). rest_of (stamp_at (n ∷ t))) w.0 ∙ tag_none t) more ∙ ap (λ (n : ℕ). left_is (drop n (tag ∷ t))) (sym all)
  | inr (inr w) ↦
      let eight : 8 ≤ length t = omega (arith, w.1) in
      let more : shape.count * suc k ≤ length (drop 8 t) = omega (arith, w.1, length-drop 8 t) in
      let all : stamp_width tag + shape.count * suc k ≡ suc (8 + shape.count * suc k) = omega (arith, w.1) in
      left_behind shape k tag t (drop 8 t) size (ap (λ (n : ℕ). rest_of (stamp_at (n ∷ t))) w.0 ∙ eight_left t eight) more
      ∙ ap left_is (drop-drop (shape.count * suc k) 8 t) ∙ ap (λ (n : ℕ). left_is (drop n (tag ∷ t))) (sym all)
]

-- ---- as the walk has them

pub numbers_fault : (shape : Shape) (b : List ℕ) → length b ≡ 0 → rest_of (whole_sample_at shape b) ≡ gone (wrong (length b) SamplesShort)
unfolding sample_at stamp_at
numbers_fault shape [] h = refl
numbers_fault shape (x ∷ b) h = absurd (omega arith)

pub tag_fault : (shape : Shape) (b : List ℕ) → 0 < length b → stamp_width (get_or b 0 0) ≡ 0 → rest_of (whole_sample_at shape b) ≡ gone (wrong (length b) BadStampWidth)
tag_fault shape [] some h = absurd (omega arith)
tag_fault shape (tag ∷ t) some h = bad_tag shape tag t h

pub short_fault : (shape : Shape) (b : List ℕ) (width : ℕ) → 0 < size_of shape.format → width ≡ shape.count * size_of shape.format → 0 < length b → (stamp_width (get_or b 0 0) ≡ 0 → ⊥)
    → length b < stamp_width (get_or b 0 0) + width → rest_of (whole_sample_at shape b) ≡ gone (wrong (length b) SamplesShort)
short_fault shape [] width size e some tag short = absurd (omega arith)
short_fault shape (x ∷ t) width size e some tag short =
    let k : size_of shape.format ≡ suc (size_of shape.format - 1) = omega arith in
    let w : width ≡ shape.count * suc (size_of shape.format - 1) = e ∙ ap (λ (n : ℕ). shape.count * n) k in
    numbers_short shape (size_of shape.format - 1) x t k tag (rw (← w) short)

pub behind_is : (shape : Shape) (b : List ℕ) (width : ℕ) → 0 < size_of shape.format → width ≡ shape.count * size_of shape.format → 0 < length b → (stamp_width (get_or b 0 0) ≡ 0 → ⊥)
    → stamp_width (get_or b 0 0) + width ≤ length b → rest_of (whole_sample_at shape b) ≡ left_is (drop (stamp_width (get_or b 0 0) + width) b)
behind_is shape [] width size e some tag long = absurd (omega arith)
behind_is shape (x ∷ t) width size e some tag long =
    let k : size_of shape.format ≡ suc (size_of shape.format - 1) = omega arith in
    let w : width ≡ shape.count * suc (size_of shape.format - 1) = e ∙ ap (λ (n : ℕ). shape.count * n) k in
    rw w (numbers_behind shape (size_of shape.format - 1) x t k tag (rw (← w) long))

-- ---- a stamp, as the walk has it

pub stamp_none : (b : List ℕ) → length b ≡ 0 → rest_of (stamp_at b) ≡ gone outside
unfolding stamp_at
stamp_none [] h = refl
stamp_none (x ∷ b) h = absurd (omega arith)

pub stamp_fault : (b : List ℕ) → 0 < length b → stamp_width (get_or b 0 0) ≡ 0 → rest_of (stamp_at b) ≡ gone (wrong (length b) BadStampWidth)
stamp_fault [] some h = absurd (omega arith)
stamp_fault (tag ∷ t) some h = tag_bad tag t h ∙ ap (λ (n : ℕ). gone (wrong n BadStampWidth)) (omega arith)

pub stamp_short : (b : List ℕ) → 0 < length b → (stamp_width (get_or b 0 0) ≡ 0 → ⊥) → length b < stamp_width (get_or b 0 0) → rest_of (stamp_at b) ≡ gone outside
stamp_short [] some good short = absurd (omega arith)
stamp_short (tag ∷ t) some good short = elim (width_tag tag) [
  | inl none ↦ absurd (good none)
  | inr (inl w) ↦ absurd (omega (arith, w.1))
  | inr (inr w) ↦
      let few : length t < 8 = omega (arith, w.1) in
      ap (λ (n : ℕ). rest_of (stamp_at (n ∷ t))) w.0 ∙ eight_short t few
]

pub stamp_left : (b : List ℕ) → 0 < length b → (stamp_width (get_or b 0 0) ≡ 0 → ⊥) → stamp_width (get_or b 0 0) ≤ length b → rest_of (stamp_at b) ≡ left_is (drop (stamp_width (get_or b 0 0)) b)
stamp_left [] some good long = absurd (omega arith)
stamp_left (tag ∷ t) some good long = elim (width_tag tag) [
  | inl none ↦ absurd (good none)
  | inr (inl w) ↦ ap (λ (n : ℕ). rest_of (stamp_at (n ∷ t))) w.0 ∙ tag_none t ∙ ap (λ (n : ℕ). left_is (drop n (tag ∷ t))) (sym w.1)
  | inr (inr w) ↦
      let many : 8 ≤ length t = omega (arith, w.1) in
      ap (λ (n : ℕ). rest_of (stamp_at (n ∷ t))) w.0 ∙ eight_left t many ∙ ap (λ (n : ℕ). left_is (drop n (tag ∷ t))) (sym w.1)
]

-- ---- a text

pub text_fails : (b : List ℕ) (f : Fault) → length_at b ≡ Err f → rest_of (text_at b) ≡ gone f
unfolding text_at
text_fails b f h = rw h refl

text_by : (short : Bool) (len : ℕ) (rest : List ℕ) → rest_of (front_by short len rest (take len rest) >>= λ t. found (text t.0) t.1) ≡ cond short (gone outside) (left_is (drop len rest))
text_by true len rest = refl
text_by false len rest = refl

text_rest : (b : List ℕ) (len : ℕ) (rest : List ℕ) → length_at b ≡ found len rest → rest_of (text_at b) ≡ numbers_left len rest
unfolding text_at front_at
text_rest b len rest h = rw h (text_by (ltb (length rest) len) len rest)

pub text_short : (b : List ℕ) (len : ℕ) (rest : List ℕ) → length_at b ≡ found len rest → length rest < len → rest_of (text_at b) ≡ gone outside
text_short b len rest h less =
    let test : ltb (length rest) len ≡ true = lt-ltb _ _ less in
    text_rest b len rest h ∙ rw test refl

pub text_left : (b : List ℕ) (len : ℕ) (rest : List ℕ) → length_at b ≡ found len rest → len ≤ length rest → rest_of (text_at b) ≡ left_is (drop len rest)
text_left b len rest h less =
    let test : ltb (length rest) len ≡ false = le-ltb _ _ less in
    text_rest b len rest h ∙ rw test refl

-- ---- a sample of texts

pub sample_fails : (shape : Shape) (b : List ℕ) (f : Fault) → rest_of (stamp_at b) ≡ gone f → rest_of (sample_at shape b) ≡ gone f
unfolding sample_at
sample_fails shape b f h = sample_rest_of shape (stamp_at b) ∙ rw h refl

pub sample_left : (shape : Shape) (b rest : List ℕ) → size_of shape.format ≡ 0 → rest_of (stamp_at b) ≡ left_is rest → rest_of (sample_at shape b) ≡ rest_of (many_at text_at shape.count rest)
unfolding sample_at
sample_left shape b rest size h = sample_rest_of shape (stamp_at b) ∙ rw (h, size) refl

-- ---- runs of samples with no stamp

pub plain_behind : (shape : Shape) (b : List ℕ) (width : ℕ) → 0 < size_of shape.format → width ≡ shape.count * size_of shape.format → width < length b → get_or b 0 0 ≡ 0
    → rest_of (whole_sample_at shape b) ≡ left_is (take (length b - (1 + width)) (drop (1 + width) b))
plain_behind shape b width size e long none =
    let one : stamp_width (get_or b 0 0) ≡ 1 = rw none refl in
    behind_is shape b width size e (omega arith) (λ z. absurd (omega (arith, one, z))) (omega (arith, one))
    ∙ ap (λ (n : ℕ). left_is (drop (n + width) b)) one ∙ ap left_is (sym (take_rest b (1 + width)))

pub steps_on : {A : Type 0} (read : List ℕ → Found A) (n : ℕ) (b rest : List ℕ) (total : Result (List ℕ) Fault) → 0 < n → rest_of (read b) ≡ left_is rest
    → total ≡ rest_of (many_at read n b) → total ≡ rest_of (many_at read (n - 1) rest)
steps_on read n b rest total some h so_far =
    let k : n ≡ suc (n - 1) = omega arith in
    so_far ∙ ap (λ (m : ℕ). rest_of (many_at read m b)) k ∙ many_rest read (n - 1) b rest h

pub step_fails : {A : Type 0} (read : List ℕ → Found A) (n : ℕ) (b : List ℕ) (f : Fault) (total : Result (List ℕ) Fault) → 0 < n → rest_of (read b) ≡ gone f
    → total ≡ rest_of (many_at read n b) → total ≡ gone f
step_fails read n b f total some h so_far =
    let k : n ≡ suc (n - 1) = omega arith in
    so_far ∙ ap (λ (m : ℕ). rest_of (many_at read m b)) k ∙ many_fails read (n - 1) b f h

pub steps_end : {A : Type 0} (read : List ℕ → Found A) (n : ℕ) (b : List ℕ) (total : Result (List ℕ) Fault) → n ≤ 0 → total ≡ rest_of (many_at read n b) → total ≡ left_is b
unfolding many_at
steps_end read n b total none so_far =
    let k : n ≡ 0 = omega arith in
    so_far ∙ ap (λ (m : ℕ). rest_of (many_at read m b)) k

-- ---- a text whose length has the width 1

pub short_length : (len : ℕ) (rest : List ℕ) → length_at (1 ∷ len ∷ rest) ≡ found len rest
unfolding length_at varlen_at
short_length len rest =
    let same : len + 0 ≡ len = omega arith in
    let test : ltb (length (len ∷ rest)) 1 ≡ false = le-ltb _ _ (omega arith) in
    rw test (ap (λ (n : ℕ). found n rest) same)

pub short_text : (b : List ℕ) → 2 ≤ length b → get_or b 0 0 ≡ 1 → 2 + get_or b 1 0 ≤ length b → rest_of (text_at b) ≡ left_is (drop (2 + get_or b 1 0) b)
short_text [] some one long = absurd (omega arith)
short_text (w ∷ []) some one long = absurd (omega arith)
short_text (w ∷ len ∷ rest) some one long =
    let same : w ∷ len ∷ rest ≡ 1 ∷ len ∷ rest = ap (λ (n : ℕ). n ∷ len ∷ rest) one in
    let place : 2 + len ≡ suc (suc len) = omega arith in
    text_left (w ∷ len ∷ rest) len rest (ap length_at same ∙ short_length len rest) (omega arith) ∙ ap (λ (n : ℕ). left_is (drop n (w ∷ len ∷ rest))) (sym place)
