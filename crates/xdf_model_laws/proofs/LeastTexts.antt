-- The texts with the least widths are texts, and no text is shorter.
use Rattle.std.proofs.Common.{◌≡◌, ℕ, ◌^◌, ◌<◌, ◌≤◌, List, [], ◌∷◌, ◌++◌, length, refl, ap, arith}
use Rattle.std.specs.Prelude.{IsTrue}
use Rattle.std.specs.List.{flat_map, AllByRecursion}
use Rattle.std.proofs.lemmas.List.{length-append}
use Rattle.std.proofs.lemmas.List.Concat.{flat_map-cons}
use Rattle.std.proofs.lemmas.Bool.Decides.{nat_tests}
use Rattle.xdf_model.specs.declared.types.Shape.{Shape}
use Rattle.xdf_model.specs.Varlen.{is_width, IsVarlen, least_width, least_varlen}
use Rattle.xdf_model.specs.Sample.{Value, number, text, Sample, size_of, FitsShape, Joined, stamp_text, IsValueText, IsSampleText, least_value_text, least_sample_text}
use Rattle.xdf_model_laws.proofs.Bytes.{length-little_bytes}

pub num_small : (n : ℕ) (x : List ℕ) → IsVarlen n x → n < 2 ^ 64
num_small n x r = let w = r.width_is_one in let lt = r.fits in grind (arith, nat_tests)

pub least_is : (n : ℕ) → n < 2 ^ 64 → IsVarlen n (least_varlen n)
unfolding least_varlen
least_is n lt = record { width = least_width n; width_is_one = grind (arith, nat_tests); fits = grind (arith, nat_tests); text = refl }

least_width_le : (n w : ℕ) → IsTrue (is_width w) → n < 256 ^ w → least_width n ≤ w
least_width_le n w good lt = grind (arith, nat_tests)

pub least_shortest : (n : ℕ) (x : List ℕ) → IsVarlen n x → length (least_varlen n) ≤ length x
unfolding least_varlen
least_shortest n x r =
    omega (arith, ap length r.text, length-little_bytes r.width n, length-little_bytes (least_width n) n, least_width_le n r.width r.width_is_one r.fits)

-- a smaller number has no longer least text
pub least_rises : (m n : ℕ) → m ≤ n → length (least_varlen m) ≤ length (least_varlen n)
unfolding least_varlen
least_rises m n le =
    let rises : least_width m ≤ least_width n = grind (arith, nat_tests) in
    omega (arith, length-little_bytes (least_width m) m, length-little_bytes (least_width n) n, rises)

-- a text of a thing, and the least one
abbrev pub IsLeast : {A : Type 0} → (A → List ℕ → Type 0) → A → List ℕ → List ℕ → Type 0
IsLeast R a least_varlen x = R a least_varlen × (length least_varlen ≤ length x)

pub value_least : (size : ℕ) (v : Value) (x : List ℕ) → IsValueText size v x → IsLeast (IsValueText size) v (least_value_text size v) x
value_least size (number n) x r = ((r.0, r.1, refl), omega (arith, ap length r.2))
value_least size (text t) x r = (
  (r.0, least_varlen (length t), least_is (length t) (num_small (length t) r.1 r.2), refl),
  omega (arith, ap length r.3, length-append r.1 t, length-append (least_varlen (length t)) t, least_shortest (length t) r.1 r.2),
)

pub joined_least : {A : Type 0} (R : A → List ℕ → Type 0) (f : A → List ℕ) → ((a : A) (x : List ℕ) → R a x → IsLeast R a (f a) x) → (xs : List A) (x : List ℕ) → Joined R xs x → IsLeast (Joined R) xs (flat_map f xs) x
joined_least R f one [] x r = (refl, omega arith)
joined_least R f one (a ∷ more) x r =
    let head = one a r.0 r.2 in
    let tail = joined_least R f one more r.1 r.3 in
    let parts : flat_map f (a ∷ more) ≡ f a ++ flat_map f more = flat_map-cons f a more in (
      (f a, flat_map f more, head.0, tail.0, parts),
      omega (arith, ap length parts, ap length r.4, length-append (f a) (flat_map f more), length-append r.0 r.1, head.1, tail.1),
    )

pub sample_least : (shape : Shape) (s : Sample) (x : List ℕ) → IsSampleText shape s x → IsLeast (IsSampleText shape) s (least_sample_text shape s) x
sample_least shape s x r =
    let size = size_of shape.format in
    let values = joined_least (IsValueText size) (least_value_text size) (value_least size) s.values r.values r.each in (
      record { fits = r.fits; values = flat_map (least_value_text size) s.values; each = values.0; whole = refl },
      omega (arith, ap length r.whole, length-append (stamp_text s.stamp) r.values, length-append (stamp_text s.stamp) (flat_map (least_value_text size) s.values), values.1),
    )

pub samples_fit : (shape : Shape) (ss : List Sample) (x : List ℕ) → Joined (IsSampleText shape) ss x → AllByRecursion (FitsShape shape) ss
samples_fit shape [] x r = tt
samples_fit shape (s ∷ ss) x r = (r.2.fits, samples_fit shape ss r.1 r.3)

-- the least text of a number is short
pub least_small : (n : ℕ) → length (least_varlen n) ≤ 9
unfolding least_varlen
least_small n =
    let width : least_width n ≤ 8 = grind (arith, nat_tests) in
    omega (arith, length-little_bytes (least_width n) n, width)
