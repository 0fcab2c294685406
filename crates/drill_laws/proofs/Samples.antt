-- The samples of a drill's feed stand in it as the feed's samples do.
use Rattle.std.proofs.Common.{◌≡◌, ◌==◌, ℕ, zero, suc, ◌+◌, ◌*◌, ◌/◌, ◌%◌, ◌<◌, ◌≤◌, ◌^◌, Bool, true, false, cond, List, [], ◌∷◌, ◌++◌, length, map, refl, sym, ap, ◌∙◌, subst, append_assoc, arith, ◌⊎◌, inl, inr}
use Rattle.std.proofs.lemmas.List.{append-nil, length-append, length-map}
use Rattle.std.proofs.lemmas.List.Sums.{sum_by-cons}
use Rattle.std.proofs.lemmas.Grind.{flat_map-append}
use Rattle.std.proofs.Math.Nat.{div-lt_iff_lt-mul, mod-eq_of_lt, mod-lt}
use Rattle.std.specs.Prelude.{sum_by}
use Rattle.std.specs.List.{flat_map, AllByRecursion}
use Rattle.xdf_model.specs.declared.types.Shape.{Shape}
use Rattle.xdf_model.specs.declared.types.Stamp.{Stamp}
use Rattle.xdf_model.specs.declared.types.Stamp.TheVariants.{None, Bits}
use Rattle.xdf_model.specs.Sample.{Value, number, text, Sample, size_of, FitsStamp, FitsValue, Joined}
use Rattle.feed_model.specs.declared.Order.{Order}
use Rattle.feed_model.specs.declared.Order.TheVariants.{Little, Big}
use Rattle.feed_model.specs.Feed.{IsFeedSample, IsFeedValue, ordered_bytes, tag_text, text_size}
use Rattle.feed_laws.proofs.Ordered.{length-ordered_bytes}
use Rattle.drill_feeds.specs.Drill.{drill_channels, drill_format, drill_number, drill_order, drill_sample, drill_shape, drill_stamp, drill_value, feed_sample_text, feed_value_text, first_samples, letters, test_sample}
use Rattle.drill_feeds.proofs.Growing.{letters_size}

-- a value stands in a feed as its bytes, which are few
pub record IsGood (order : Order) (size : ℕ) (v : Value) : Type 0 where
  pub fits : FitsValue size v
  pub short : text_size v ≤ 19
  pub value : IsFeedValue order size v (feed_value_text order size v)
  pub few : length (feed_value_text order size v) ≤ 21

good_number : (order : Order) (size n : ℕ) → 0 < size → size ≤ 8 → n < 256 ^ size → IsGood order size (number n)
good_number order size n some le lt = record {
  fits = (some, lt);
  short = omega arith;
  value = (some, lt, refl);
  few = omega (arith, length-ordered_bytes order size n, le);
}

one_byte : (order : Order) (n : ℕ) → n < 256 → ordered_bytes order 1 n ≡ n ∷ []
one_byte Little n lt = ap (λ (m : ℕ). m ∷ []) (mod-eq_of_lt lt)
one_byte Big n lt = ap (λ (m : ℕ). m ∷ []) (mod-eq_of_lt lt)

good_text : (order : Order) (t : List ℕ) → length t ≤ 19 → IsGood order 0 (text t)
good_text order t le =
    let fits : length t < 256 = omega (arith, le) in
    record {
      fits = refl;
      short = le;
      value = (refl, 1, refl, fits, ap (λ (l : List ℕ). 1 ∷ (l ++ t)) (sym (one_byte order (length t) fits)));
      few = omega (arith, le);
    }

-- ---- the values of each feed

abbrev pub IsId : ℕ → Type 0
IsId id = (id ≡ 1) ⊎ (id ≡ 2) ⊎ (id ≡ 3)

below : (samples id position channel : ℕ) → drill_number samples id position channel < 2 ^ 64
below samples id position channel = mod-lt ((samples + 65_536 * id + 4096 * channel + position) * 6_364_136_223_846_793_005) (omega arith)

high_part : (n : ℕ) → n < 2 ^ 64 → n / 2 ^ 48 < 256 ^ 2
high_part n lt = (div-lt_iff_lt-mul {k = 2 ^ 48} {x = n} {y = 256 ^ 2} (omega arith)).1 lt

good_value : (samples id position channel : ℕ) → IsId id → IsGood (drill_order id) (size_of (drill_format id)) (drill_value samples id position channel)
good_value samples id position channel (inl is) =
    let n = drill_number samples 1 position channel in
    let lt = high_part n (below samples 1 position channel) in
    subst (λ (i : ℕ). IsGood (drill_order i) (size_of (drill_format i)) (drill_value samples i position channel)) (sym is) (good_number Little 2 (n / 2 ^ 48) (omega arith) (omega arith) lt)
good_value samples id position channel (inr (inl is)) =
    let n = drill_number samples 2 position channel in
    let lt : n < 256 ^ 8 = below samples 2 position channel in
    subst (λ (i : ℕ). IsGood (drill_order i) (size_of (drill_format i)) (drill_value samples i position channel)) (sym is) (good_number Big 8 n (omega arith) (omega arith) lt)
good_value samples id position channel (inr (inr is)) =
    let n = drill_number samples 3 position channel in
    let size = letters_size (n / 2 ^ 40) (position % 20) in
    let some : 0 < 20 = omega arith in
    let few : length (letters (n / 2 ^ 40) (position % 20)) ≤ 19 = omega (arith, size, mod-lt position {m = 20} some) in
    subst (λ (i : ℕ). IsGood (drill_order i) (size_of (drill_format i)) (drill_value samples i position channel)) (sym is) (good_text Little (letters (n / 2 ^ 40) (position % 20)) few)

good_test : (id : ℕ) → IsId id → IsGood (drill_order id) (size_of (drill_format id)) (cond (id == 3) (text []) (number 0))
good_test id (inl is) =
    subst (λ (i : ℕ). IsGood (drill_order i) (size_of (drill_format i)) (cond (i == 3) (text []) (number 0))) (sym is) (good_number Little 2 0 (omega arith) (omega arith) (omega arith))
good_test id (inr (inl is)) =
    subst (λ (i : ℕ). IsGood (drill_order i) (size_of (drill_format i)) (cond (i == 3) (text []) (number 0))) (sym is) (good_number Big 8 0 (omega arith) (omega arith) (omega arith))
good_test id (inr (inr is)) =
    subst (λ (i : ℕ). IsGood (drill_order i) (size_of (drill_format i)) (cond (i == 3) (text []) (number 0))) (sym is) (good_text Little [] (omega arith))

-- ---- values, one after the other

record AreGood (order : Order) (size : ℕ) (vs : List Value) : Type 0 where
  fits : AllByRecursion (FitsValue size) vs
  short : sum_by text_size vs ≤ 19 * length vs
  each : Joined (IsFeedValue order size) vs (flat_map (feed_value_text order size) vs)
  few : length (flat_map (feed_value_text order size) vs) ≤ 21 * length vs

good_all : (order : Order) (size : ℕ) (f : ℕ → Value) (cs : List ℕ) → ((c : ℕ) → IsGood order size (f c)) → AreGood order size (map f cs)
good_all order size f [] g = record { fits = tt; short = omega arith; each = refl; few = omega arith }
good_all order size f (c ∷ cs) g =
    let v = g c in
    let r = good_all order size f cs g in
    record {
      fits = (v.fits, r.fits);
      short = omega (arith, v.short, r.short, sum_by-cons text_size (f c) (map f cs));
      each = (feed_value_text order size (f c), flat_map (feed_value_text order size) (map f cs), v.value, r.each, refl);
      few = omega (arith, v.few, r.few, length-append (feed_value_text order size (f c)) (flat_map (feed_value_text order size) (map f cs)));
    }

tag_size : (order : Order) (stamp : Stamp) → length (tag_text order stamp) ≤ 9
tag_size order None = omega arith
tag_size order (Bits n) = omega (arith, length-ordered_bytes order 8 n)

-- ---- a sample

abbrev pub StandsSo : Shape → Order → Sample → Type 0
StandsSo shape order s = IsFeedSample shape order s (feed_sample_text order (size_of shape.format) s) × (length (feed_sample_text order (size_of shape.format) s) ≤ 51)

stands_so : (shape : Shape) (order : Order) (stamp : Stamp) (f : ℕ → Value) (cs : List ℕ) → shape.count ≡ length cs → length cs ≤ 2 → FitsStamp stamp → ((c : ℕ) → IsGood order (size_of shape.format) (f c))
    → StandsSo shape order (record { stamp = stamp; values = map f cs })
stands_so shape order stamp f cs count few fits g =
    let size = size_of shape.format in
    let r = good_all order size f cs g in
    let long = length-map cs f in (
      record {
        fits = record { count = long ∙ sym count; values = r.fits; stamp = fits };
        texts = omega (arith, r.short, long, few);
        values = flat_map (feed_value_text order size) (map f cs);
        each = r.each;
        whole = refl;
      },
      omega (arith, r.few, long, few, tag_size order stamp, length-append (tag_text order stamp) (flat_map (feed_value_text order size) (map f cs))),
    )

stamp_by : (b : Bool) (position : ℕ) → position ≤ 1_000_000 → FitsStamp (cond b (Bits (4_607_182_418_800_017_408 + position)) None)
stamp_by true position le = omega (arith, le)
stamp_by false position le = tt

channels_by : (one : Bool) → length {A = ℕ} (cond one (0 ∷ 1 ∷ []) (0 ∷ [])) ≤ 2
channels_by true = omega arith
channels_by false = omega arith

module _ (samples id : ℕ) (is : IsId id) where
  pub test_stands : StandsSo (drill_shape id) (drill_order id) (test_sample id)
  test_stands = stands_so (drill_shape id) (drill_order id) None (λ channel. cond (id == 3) (text []) (number 0)) (drill_channels id) refl (channels_by (id == 1)) tt (λ c. good_test id is)

  sample_stands : (position : ℕ) → position ≤ 1_000_000 → StandsSo (drill_shape id) (drill_order id) (drill_sample samples id position)
  sample_stands position le =
      stands_so (drill_shape id) (drill_order id) (drill_stamp position) (λ channel. drill_value samples id position channel) (drill_channels id) refl (channels_by (id == 1)) (stamp_by (position % 4 == 0) position le)
      (λ c. good_value samples id position c is)

-- ---- samples, one after the other

joined_more : {A : Type 0} (R : A → List ℕ → Type 0) (xs : List A) (x : A) (b y : List ℕ) → Joined R xs b → R x y → Joined R (xs ++ x ∷ []) (b ++ y)
joined_more R [] x b y j r = (y, [], r, refl, ap (λ (l : List ℕ). l ++ y) j ∙ sym (append-nil y))
joined_more R (a ∷ xs) x b y j r = (j.0, j.1 ++ y, j.2, joined_more R xs x j.1 y j.3 r, ap (λ (l : List ℕ). l ++ y) j.4 ∙ append_assoc j.0 j.1 y)

pub record StandAll (samples id n : ℕ) : Type 0 where
  pub each : Joined (IsFeedSample (drill_shape id) (drill_order id)) (first_samples samples id n) (flat_map (feed_sample_text (drill_order id) (size_of (drill_format id))) (first_samples samples id n))
  pub few : length (flat_map (feed_sample_text (drill_order id) (size_of (drill_format id))) (first_samples samples id n)) ≤ 51 * n

pub all_stand : (samples id n : ℕ) → IsId id → n ≤ 1_000_000 → StandAll samples id n
all_stand samples id zero is le = record { each = refl; few = omega arith }
all_stand samples id (suc n) is le =
    let f : Sample → List ℕ = feed_sample_text (drill_order id) (size_of (drill_format id)) in
    let lower : n ≤ 1_000_000 = omega (arith, le) in
    let s = drill_sample samples id n in
    let xs = first_samples samples id n in
    let r = all_stand samples id n is lower in
    let here = sample_stands samples id is n lower in
    let joined : flat_map f (xs ++ s ∷ []) ≡ flat_map f xs ++ f s = flat_map-append f xs (s ∷ []) ∙ ap (λ (l : List ℕ). flat_map f xs ++ l) (append-nil (f s)) in
    let P : List ℕ → Type 0 = λ t. Joined (IsFeedSample (drill_shape id) (drill_order id)) (xs ++ s ∷ []) t in
    record {
      each = subst P (sym joined) (joined_more (IsFeedSample (drill_shape id) (drill_order id)) xs s (flat_map f xs) (f s) r.each here.0);
      few = omega (arith, r.few, here.1, ap length joined, length-append (flat_map f xs) (f s));
    }
