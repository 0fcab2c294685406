-- What the laws say of samples.
use Rattle.std.proofs.Common.{◌≡◌, ℕ, ◌+◌, ◌-◌, ◌<◌, List, [], ◌++◌, length, take, drop, Ok, Err, refl, sym, ap, ◌∙◌, arith}
use Rattle.std.specs.Prelude.{◌↔◌}
use Rattle.std.proofs.lemmas.List.{take_at, drop_at, append-nil, length-append}
use Rattle.xdf_model.specs.declared.types.Shape.{Shape}
use Rattle.xdf_model.specs.Reading.{◌>>=◌}
use Rattle.xdf_model.specs.Sample.{Sample, size_of}
use Rattle.xdf_model_laws.proofs.Bytes.{IsBytes}
use Rattle.xdf_model_laws.proofs.Readers.{bind_ok}
use Rattle.feed_model.specs.declared.Order.{Order}
use Rattle.feed_model.specs.Feed.{text_limit, IsFeedSample}
use Rattle.feed_model.specs.FeedReading.{FeedFault, short, bad_tag, bad_width, too_long, Taken, tag_at, values_at, feed_sample_at}
use Rattle.feed_laws.specs.Followed.{farther, followed}
use Rattle.feed_laws.proofs.Steps.{taken, failed, same_value, same_rest}
use Rattle.feed_laws.proofs.Samples.{reads_sample}
use Rattle.feed_laws.proofs.Steady.{tag_takes, steady_values, steady_sample}

pub exactly : (shape : Shape) (order : Order) (b : List ℕ) (s : Sample) (rest : List ℕ) → IsBytes b → (feed_sample_at shape order b ≡ taken s rest) ↔ ((x : List ℕ) × IsFeedSample shape order s x × (b ≡ x ++ rest))
exactly shape order b s rest h = (
  (reads_sample shape order).sound b s rest h,
  λ k. ap (feed_sample_at shape order) k.2 ∙ (reads_sample shape order).complete s k.0 rest k.1,
)

-- ---- no text begins another

front_same : (a x b y : List ℕ) → a ++ x ≡ b ++ y → length a ≡ length b → a ≡ b
front_same a x b y e same = sym (take_at a x (length a) refl) ∙ ap (take (length a)) e ∙ take_at b y (length a) (sym same)

pub one_sample : (shape : Shape) (order : Order) (s t : Sample) (a b x y : List ℕ) → IsFeedSample shape order s a → IsFeedSample shape order t b → a ++ x ≡ b ++ y → (s ≡ t) × (a ≡ b)
one_sample shape order s t a b x y r q e =
    let read = reads_sample shape order in
    let same : taken s x ≡ taken t y = sym (read.complete s a x r) ∙ ap (feed_sample_at shape order) e ∙ read.complete t b y q in
    let len : length a ≡ length b = omega (arith, ap length e, length-append a x, length-append b y, ap length (same_rest same)) in
    (same_value same, front_same a x b y e len)

-- ---- more bytes

pub more_whole : (shape : Shape) (order : Order) (b more : List ℕ) (s : Sample) (rest : List ℕ) → feed_sample_at shape order b ≡ taken s rest → feed_sample_at shape order (b ++ more) ≡ taken s (rest ++ more)
more_whole shape order b more s rest e = (steady_sample shape order).more b more (λ k. let same : failed short ≡ taken s rest = sym k ∙ e in cc) ∙ ap (followed more) e

pub more_fault : (shape : Shape) (order : Order) (b more : List ℕ) (f : FeedFault) → (f ≡ short → ⊥) → feed_sample_at shape order b ≡ failed f → feed_sample_at shape order (b ++ more) ≡ failed (farther (length more) f)
more_fault shape order b more f not_short e = (steady_sample shape order).more b more (λ k. let same : failed {A = Sample} short ≡ failed f = sym k ∙ e in not_short cc) ∙ ap (followed more) e

-- ---- a cut sample

farther_short : (n : ℕ) (f : FeedFault) → farther n f ≡ short → f ≡ short
farther_short n short e = refl
farther_short n (bad_tag left byte) e = absurd cc
farther_short n (bad_width left byte) e = absurd cc
farther_short n (too_long left) e = absurd cc

-- what is told of the front of some bytes that are a sample, which the rest changes in no other way
cut_cases : (s : Sample) (q : List ℕ) (r : Taken Sample) → 0 < length q → ((r ≡ failed short → ⊥) → taken s [] ≡ followed q r) → r ≡ failed short
cut_cases s q (Ok x) more e =
    let same : taken s [] ≡ taken x.0 (x.1 ++ q) = e (λ wrong. absurd cc) in
    absurd (omega (arith, ap length (same_rest same), length-append x.1 q))
cut_cases s q (Err short) more e = refl
cut_cases s q (Err (bad_tag left byte)) more e = let same = e (λ wrong. absurd cc) in absurd cc
cut_cases s q (Err (bad_width left byte)) more e = let same = e (λ wrong. absurd cc) in absurd cc
cut_cases s q (Err (too_long left)) more e = let same = e (λ wrong. absurd cc) in absurd cc

pub cut_short : (shape : Shape) (order : Order) (s : Sample) (p q : List ℕ) → IsFeedSample shape order s (p ++ q) → 0 < length q → feed_sample_at shape order p ≡ failed short
cut_short shape order s p q r more =
    let whole : feed_sample_at shape order (p ++ q) ≡ taken s [] = ap (feed_sample_at shape order) (sym (append-nil (p ++ q))) ∙ (reads_sample shape order).complete s (p ++ q) [] r in
    cut_cases s q (feed_sample_at shape order p) more (λ h. sym whole ∙ (steady_sample shape order).more p q h)

-- ---- where the answers stand

pub rest_shorter : (shape : Shape) (order : Order) (b : List ℕ) (s : Sample) (rest : List ℕ) → feed_sample_at shape order b ≡ taken s rest → length rest < length b
unfolding feed_sample_at
rest_shorter shape order b s rest e =
    let size = size_of shape.format in
    let g = bind_ok (tag_at order b) (λ stamp. values_at order size shape.count text_limit stamp.1 >>= λ values. taken (record { stamp = stamp.0; values = values.0 }) values.1) (s, rest) e in
    let k = bind_ok (values_at order size shape.count text_limit g.0.1) (λ values. taken (record { stamp = g.0.0; values = values.0 }) values.1) (s, rest) g.2 in
    let values = (steady_values order size shape.count text_limit).rest g.0.1 k.0.0 k.0.1 k.1 in
    let all : length g.0.1 ≡ length values.0 + length k.0.1 = ap length values.1 ∙ length-append values.0 k.0.1 in
    let last : length k.0.1 ≡ length rest = ap length (same_rest k.2) in
    omega (arith, tag_takes order b g.0.0 g.0.1 g.1, all, last)

pub rest_within : (shape : Shape) (order : Order) (b : List ℕ) (s : Sample) (rest : List ℕ) → feed_sample_at shape order b ≡ taken s rest → (length rest < length b) × (drop (length b - length rest) b ≡ rest)
rest_within shape order b s rest e =
    let k = (steady_sample shape order).rest b s rest e in
    let x = k.0 in
    let size : length b ≡ length x + length rest = ap length k.1 ∙ length-append x rest in
    let used : length b - length rest ≡ length x = omega (arith, size) in
    (rest_shorter shape order b s rest e, rw (used) (ap (drop (length x)) k.1 ∙ drop_at x rest (length x) refl))
