-- What an inlet gets of a drill's feed.
use Rattle.std.proofs.Common.{◌≡◌, ◌==◌, ℕ, zero, suc, ◌+◌, ◌-◌, ◌/◌, ◌<◌, ◌≤◌, ◌^◌, Bool, true, false, cond, ltb, List, [], ◌∷◌, ◌++◌, length, take, drop, None, Err, refl, sym, ap, ◌∙◌, arith, inl, inr, slice_index}
use Rattle.std.proofs.lemmas.Bool.{le-ltb}
use Rattle.std.proofs.lemmas.List.{append-nil, length-append}
use Rattle.std.proofs.Math.Nat.{div-mul-le_self}
use Rattle.std.specs.List.{flat_map}
use Rattle.reading_model.specs.Outlook.{ended, over}
use Rattle.reading_model.specs.Rules.{all_of}
use Rattle.xdf_model.specs.declared.types.Shape.{Shape}
use Rattle.xdf_model.specs.Sample.{Sample, size_of}
use Rattle.feed_model.specs.declared.Order.{Order}
use Rattle.feed_model.specs.declared.Order.TheVariants.{Little, Big}
use Rattle.feed_model.specs.FeedReading.{short, feed_sample_at, tag_at}
use Rattle.inlet_model.specs.declared.end.FeedEnd.TheVariants.{Whole}
use Rattle.inlet_model.specs.Inlet.{before_reply, feed_rules, feed_within}
use Rattle.inlet_laws.specs.FeedOf.{IsAnswered, cut_sample}
use Rattle.inlet_laws.proofs.Spelled.{spelled}
use Rattle.drill_feeds.specs.Drill.{drill_bytes, drill_count, drill_format, drill_order, drill_reply, drill_samples, drill_shape, feed_sample_text, test_sample}
use Rattle.drill_laws.proofs.Replies.{reply_behind}
use Rattle.drill_laws.proofs.Samples.{IsId, all_stand, test_stands}

behind_reply : (order : Order) (more : List ℕ) → drop 97 (drill_reply order ++ more) ≡ more
behind_reply Little more = refl
behind_reply Big more = refl

reply_length : (order : Order) → length (drill_reply order) ≡ 97
reply_length Little = refl
reply_length Big = refl

none_short : (shape : Shape) (order : Order) → feed_sample_at shape order [] ≡ Err short
unfolding feed_sample_at tag_at
none_short shape order = refl

whole_end : (missing place : ℕ) → missing ≡ 0 → Whole ≡ cut_sample missing place [] ended
whole_end zero place e = refl
whole_end (suc n) place e = absurd cc

count_by : (one two : Bool) (n : ℕ) → n ≤ 1_000_000 → cond one n (cond two (n / 2) (n / 10)) ≤ 1_000_000
count_by true two n le = le
count_by false true n le = omega (arith, le, div-mul-le_self n 2)
count_by false false n le = omega (arith, le, div-mul-le_self n 10)

take_all : (n : ℕ) (xs : List ℕ) → length xs ≤ n → take n xs ≡ xs
take_all zero [] le = refl
take_all (suc n) [] le = refl
take_all zero (x ∷ xs) le = absurd (omega (arith, le))
take_all (suc n) (x ∷ xs) le = let lower : length xs ≤ n = omega (arith, le) in ap (λ (l : List ℕ). x ∷ l) (take_all n xs lower)

module _ (number id : ℕ) (is : IsId id) (few : number ≤ 1_000_000) where
  text_of : Sample → List ℕ
  text_of = feed_sample_text (drill_order id) (size_of (drill_format id))

  count_few : drill_count number id ≤ 1_000_000
  count_few = count_by (id == 1) (id == 2) number few

  answered : IsAnswered None (drill_shape id) None (drill_bytes number id) ended (drill_samples number id) Whole
  answered =
      let order = drill_order id in
      let f : Sample → List ℕ = feed_sample_text order (size_of (drill_format id)) in
      let t = test_sample id in
      let samples = drill_samples number id in
      let texts = flat_map f (t ∷ t ∷ samples) in
      let r = all_stand number id (drill_count number id) is count_few in
      let test = test_stands number id is in
      record {
        reply = record { order = order };
        used = 97;
        done = reply_behind order texts;
        behind = record {
          all = t ∷ t ∷ samples;
          texts = texts;
          rest = [];
          each = (f t, flat_map f (t ∷ samples), test.0, (f t, flat_map f samples, test.0, r.each, refl), refl);
          whole = behind_reply order texts ∙ sym (append-nil texts);
          given = refl;
          end = inr (record { below = tt; why = short; stands = none_short (drill_shape id) order; end = whole_end (2 - length (t ∷ t ∷ samples)) (97 + length texts) (omega arith) });
        };
      }

  size_few : length (drill_bytes number id) ≤ 2 ^ 40
  size_few =
      let order = drill_order id in
      let f : Sample → List ℕ = feed_sample_text order (size_of (drill_format id)) in
      let t = test_sample id in
      let samples = drill_samples number id in
      let r = all_stand number id (drill_count number id) is count_few in
      let test = test_stands number id is in
      omega (arith, r.few, test.1, count_few, reply_length order, length-append (drill_reply order) (flat_map f (t ∷ t ∷ samples)), length-append (f t) (flat_map f (t ∷ samples)), length-append (f t) (flat_map f samples))

  pub whole_feed : ((i : ℕ) → slice_index (drill_bytes number id) i < 256) → feed_within None (drill_shape id) None (2 ^ 40) (drill_bytes number id) ≡ (drill_samples number id, Whole)
  whole_feed bytes =
      let b = drill_bytes number id in
      let rules = feed_rules None (drill_shape id) in
      let how : ltb (2 ^ 40) (length b) ≡ false = le-ltb (2 ^ 40) (length b) size_few in
      ap (λ (o : Bool). all_of rules (cond o over ended) (before_reply None) (take (2 ^ 40) b)) how ∙ ap (λ (l : List ℕ). all_of rules ended (before_reply None) l) (take_all (2 ^ 40) b size_few)
      ∙ (spelled None (drill_shape id) None b ended (drill_samples number id) Whole bytes).1 (inr (inr answered))

id_by : (id : ℕ) → 1 ≤ id → id ≤ 3 → IsId id
id_by zero low high = absurd (omega (arith, low))
id_by (suc zero) low high = inl refl
id_by (suc (suc zero)) low high = inr (inl refl)
id_by (suc (suc (suc zero))) low high = inr (inr refl)
id_by (suc (suc (suc (suc n)))) low high = absurd (omega (arith, high))

pub drill_feed_whole : (number id : ℕ) → number ≤ 1_000_000 → 1 ≤ id → id ≤ 3 → ((i : ℕ) → slice_index (drill_bytes number id) i < 256) → feed_within None (drill_shape id) None (2 ^ 40) (drill_bytes number id) ≡ (drill_samples number id, Whole)
drill_feed_whole number id few low high bytes = whole_feed number id (id_by id low high) few bytes
