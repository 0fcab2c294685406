-- The samples that are got fit the shape, and are few.
use Rattle.std.proofs.Common.{◌≡◌, ℕ, ◌+◌, ◌-◌, ◌≤◌, ◌⊎◌, inl, inr, List, [], ◌∷◌, length, drop, Option, Some, sym, ap, subst, arith}
use Rattle.std.specs.Prelude.{All, sum_by}
use Rattle.std.proofs.lemmas.List.{length-append, length-drop}
use Rattle.std.proofs.lemmas.List.Elements.{All-nil, All-cons, All-drop}
use Rattle.reading_model.specs.Outlook.{How}
use Rattle.xdf_model.specs.declared.types.Shape.{Shape}
use Rattle.xdf_model.specs.declared.types.Stamp.{Stamp}
use Rattle.xdf_model.specs.declared.types.Stamp.TheVariants as stamps
use Rattle.xdf_model.specs.Sample.{Sample, FitsShape, Joined}
use Rattle.xdf_model_laws.proofs.Bytes.{IsBytes}
use Rattle.feed_model.specs.declared.Order.{Order}
use Rattle.feed_model.specs.Feed.{tag_text, text_size, text_limit, IsFeedSample}
use Rattle.inlet_model.specs.declared.end.FeedEnd.{FeedEnd}
use Rattle.inlet_model.specs.declared.end.FeedEnd.TheVariants.{Limit}
use Rattle.inlet_model.specs.Inlet.{feed_in}
use Rattle.inlet_laws.specs.FeedOf.{IsEnough, IsStopped, AreSamplesOf, IsFeedOf}
use Rattle.inlet_laws.proofs.Spelled.{spelled}

abbrev pub Fits : Shape → Sample → Type 0
Fits shape s = FitsShape shape s × (sum_by text_size s.values ≤ text_limit)

-- a sample takes a byte at least
tag_takes : (order : Order) (stamp : Stamp) → 1 ≤ length (tag_text order stamp)
tag_takes order stamps.None = omega arith
tag_takes order (stamps.Bits n) = omega arith

sample_takes : (shape : Shape) (order : Order) (s : Sample) (x : List ℕ) → IsFeedSample shape order s x → 1 ≤ length x
sample_takes shape order s x is = omega (arith, tag_takes order s.stamp, ap length is.whole, length-append (tag_text order s.stamp) is.values)

fewer_than_bytes : (shape : Shape) (order : Order) (all : List Sample) (texts : List ℕ) → Joined (IsFeedSample shape order) all texts → length all ≤ length texts
fewer_than_bytes shape order [] texts each = omega arith
fewer_than_bytes shape order (s ∷ all) texts each =
    omega (arith, sample_takes shape order s each.0 each.2, fewer_than_bytes shape order all each.1 each.3, ap length each.4, length-append each.0 each.1)

each_fits : (shape : Shape) (order : Order) (all : List Sample) (texts : List ℕ) → Joined (IsFeedSample shape order) all texts → All (Fits shape) all
each_fits shape order [] texts each = All-nil (Fits shape)
each_fits shape order (s ∷ all) texts each = All-cons (Fits shape) s all (each.2.fits, each.2.texts) (each_fits shape order all each.1 each.3)

no_more : (shape : Shape) (order : Order) (n : ℕ) (samples : List Sample) (missing place : ℕ) (rest : List ℕ) (how : How) (e end : FeedEnd) → (IsEnough (Some n) samples × (e ≡ end)) ⊎ IsStopped shape order (Some n) samples missing place rest how e → length samples ≤ n
no_more shape order n samples missing place rest how e end (inl k) = omega (arith, k.0)
no_more shape order n samples missing place rest how e end (inr k) = let below = k.below in omega (arith, below)

-- what holds of the samples, whichever way the feed is read
of_feed : (P : List Sample → Type 0) (uid : Option (List ℕ)) (shape : Shape) (limit : Option ℕ) (b : List ℕ) (how : How) (samples : List Sample) (e : FeedEnd) → P []
    → ((order : Order) (used : ℕ) → AreSamplesOf shape order 2 limit used (drop used b) how samples e → P samples) → IsFeedOf uid shape limit b how samples e → P samples
of_feed P uid shape limit b how samples e none some (inl k) = subst P (sym k.none) none
of_feed P uid shape limit b how samples e none some (inr (inl k)) = subst P (sym k.none) none
of_feed P uid shape limit b how samples e none some (inr (inr k)) = some k.reply.order k.used k.behind

pub fit : (uid : Option (List ℕ)) (shape : Shape) (limit : Option ℕ) (b : List ℕ) (how : How) (samples : List Sample) (e : FeedEnd) → IsBytes b → feed_in uid shape limit b how ≡ (samples, e) → All (Fits shape) samples
fit uid shape limit b how samples e h is =
    of_feed (All (Fits shape)) uid shape limit b how samples e (All-nil (Fits shape))
    (λ order used k. subst (All (Fits shape)) (sym k.given) (All-drop (Fits shape) 2 k.all (each_fits shape order k.all k.texts k.each))) ((spelled uid shape limit b how samples e h).0 is)

pub few : (uid : Option (List ℕ)) (shape : Shape) (limit : Option ℕ) (b : List ℕ) (how : How) (samples : List Sample) (e : FeedEnd) → IsBytes b → feed_in uid shape limit b how ≡ (samples, e) → length samples ≤ length b
few uid shape limit b how samples e h is =
    of_feed (λ l. length l ≤ length b) uid shape limit b how samples e (omega arith)
    (λ order used k. omega (arith, ap length k.given, length-drop 2 k.all, fewer_than_bytes shape order k.all k.texts k.each, ap length k.whole, length-append k.texts k.rest, length-drop used b)) ((spelled uid shape limit b how samples e h).0 is)

pub asked : (uid : Option (List ℕ)) (shape : Shape) (n : ℕ) (b : List ℕ) (how : How) (samples : List Sample) (e : FeedEnd) → IsBytes b → feed_in uid shape (Some n) b how ≡ (samples, e) → length samples ≤ n
asked uid shape n b how samples e h is =
    of_feed (λ l. length l ≤ n) uid shape (Some n) b how samples e (omega arith)
    (λ order used k. no_more shape order n samples (2 - length k.all) (used + length k.texts) k.rest how e Limit k.end) ((spelled uid shape (Some n) b how samples e h).0 is)
