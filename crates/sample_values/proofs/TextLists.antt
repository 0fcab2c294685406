-- Texts that are kept one behind the other.
use Rattle.std.proofs.Common.{◌≡◌, ℕ, zero, suc, ◌+◌, ◌<◌, ◌^◌, ◌≤◌, List, [], ◌∷◌, ◌++◌, length, slice_get, None, refl, sym, ap, ◌∙◌, subst, append_assoc, arith}
use Rattle.std.specs.List.{flat_map, AllByRecursion}
use Rattle.std.proofs.lemmas.List.{append-nil, length-append}
use Rattle.std.proofs.lemmas.List.Concat.{flat_map-cons, flat_map-append}
use Rattle.xdf_model.specs.Varlen.{least_varlen}
use Rattle.xdf_model.specs.Reading.{many_at}
use Rattle.xdf_model.specs.Sample.{Value, number, text, FitsValue, Joined, IsValueText, value_at, least_value_text}
use Rattle.xdf_model_laws.proofs.Readers.{found, reads_many}
use Rattle.xdf_model_laws.proofs.Samples.{reads_value}
use Rattle.xdf_model_laws.proofs.LeastTexts.{least_is}
use Rattle.sample_values.specs.Raw.{listed, IsAll}
use Rattle.sample_values.specs.Rest.{rest_of}
use Rattle.sample_values.specs.View.{bits_in}
use Rattle.sample_values.specs.Texts.{texts_in, AreTexts}

-- ---- any values and their bytes

reads_back : (n : ℕ) (vs : List Value) (b : List ℕ) → length vs ≡ n → Joined (IsValueText 0) vs b → many_at (value_at 0) n b ≡ found vs []
reads_back n vs b count each =
    ap (many_at (value_at 0) n) (sym (append-nil b)) ∙ (reads_many (IsValueText 0) (value_at 0) (reads_value 0) n).complete vs b [] (count, each)

are_texts : (n : ℕ) (vs : List Value) (b : List ℕ) → length vs ≡ n → Joined (IsValueText 0) vs b → b ≡ flat_map (least_value_text 0) vs → (texts_in n b ≡ vs) × AreTexts n b
are_texts n vs b count each least =
    let same : texts_in n b ≡ vs = ap (listed {A = Value}) (reads_back n vs b count each) in (
      same,
      record {
        count = ap (length {A = Value}) same ∙ count;
        each = subst (λ (l : List Value). Joined (IsValueText 0) l b) (sym same) each;
        least = subst (λ (l : List Value). b ≡ flat_map (least_value_text 0) l) (sym same) least;
      },
    )

pub all_of : (n : ℕ) (b : List ℕ) → AreTexts n b → IsAll (many_at (value_at 0) n b)
all_of n b t = ap (rest_of {A = List Value}) (reads_back n (texts_in n b) b t.count t.each)

pub none_yet : (texts_in 0 [] ≡ []) × AreTexts 0 []
none_yet = are_texts 0 [] [] refl refl refl

-- ---- one more

joined_more : (vs : List Value) (b : List ℕ) (v : Value) (x : List ℕ) → Joined (IsValueText 0) vs b → IsValueText 0 v x → Joined (IsValueText 0) (vs ++ v ∷ []) (b ++ x)
joined_more [] b v x each one = (x, [], one, refl, ap (λ (t : List ℕ). t ++ x) each ∙ sym (append-nil x))
joined_more (u ∷ vs) b v x each one =
    (each.0, each.1 ++ x, each.2, joined_more vs each.1 v x each.3 one, ap (λ (t : List ℕ). t ++ x) each.4 ∙ append_assoc each.0 each.1 x)

pub one_text_more : (n : ℕ) (b t : List ℕ) → length t < 2 ^ 64 → AreTexts n b
    → (texts_in (n + 1) (b ++ least_value_text 0 (text t)) ≡ texts_in n b ++ text t ∷ []) × AreTexts (n + 1) (b ++ least_value_text 0 (text t))
one_text_more n b t small r =
    let vs = texts_in n b in
    let x = least_value_text 0 (text t) in
    let one : IsValueText 0 (text t) x = (refl, least_varlen (length t), least_is (length t) small, refl) in
    let count : length (vs ++ text t ∷ []) ≡ n + 1 = omega (arith, length-append vs (text t ∷ []), r.count) in
    let alone : flat_map (least_value_text 0) (text t ∷ []) ≡ x = flat_map-cons (least_value_text 0) (text t) [] ∙ append-nil x in
    let least : b ++ x ≡ flat_map (least_value_text 0) (vs ++ text t ∷ []) =
    ap (λ (y : List ℕ). y ++ x) r.least ∙ ap (λ (y : List ℕ). flat_map (least_value_text 0) vs ++ y) (sym alone) ∙ sym (flat_map-append (least_value_text 0) vs (text t ∷ [])) in
    are_texts (n + 1) (vs ++ text t ∷ []) (b ++ x) count (joined_more vs b (text t) x r.each one) least

-- ---- what they are

one_byte : (v : Value) (x : List ℕ) → IsValueText 0 v x → 1 ≤ length x
one_byte (number n) x r = absurd (omega arith)
one_byte (text t) x r = omega (arith, ap length r.3, length-append r.1 t, ap length r.2.text)

joined_few : (vs : List Value) (b : List ℕ) → Joined (IsValueText 0) vs b → length vs ≤ length b
joined_few [] b r = omega arith
joined_few (v ∷ vs) b r = omega (arith, ap length r.4, length-append r.0 r.1, one_byte v r.0 r.2, joined_few vs r.1 r.3)

pub texts_few : (n : ℕ) (b : List ℕ) → AreTexts n b → n ≤ length b
texts_few n b t = omega (arith, t.count, joined_few (texts_in n b) b t.each)

text_fits : (v : Value) (x : List ℕ) → IsValueText 0 v x → FitsValue 0 v
text_fits (number n) x r = absurd (omega arith)
text_fits (text t) x r = refl

joined_fit : (vs : List Value) (b : List ℕ) → Joined (IsValueText 0) vs b → AllByRecursion (FitsValue 0) vs
joined_fit [] b r = tt
joined_fit (v ∷ vs) b r = (text_fits v r.0 r.2, joined_fit vs r.1 r.3)

pub texts_fit : (n : ℕ) (b : List ℕ) → AreTexts n b → AllByRecursion (FitsValue 0) (texts_in n b)
texts_fit n b t = joined_fit (texts_in n b) b t.each

pub texts_no_bits : (vs : List Value) (i : ℕ) → AllByRecursion (FitsValue 0) vs → bits_in (slice_get vs i) ≡ None
texts_no_bits [] i fits = refl
texts_no_bits (number n ∷ vs) i fits = absurd (omega arith)
texts_no_bits (text t ∷ vs) zero fits = refl
texts_no_bits (text t ∷ vs) (suc i) fits = texts_no_bits vs i fits.1
