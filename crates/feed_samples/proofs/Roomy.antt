-- A reader of numbers has a place for each piece.
use Rattle.std.proofs.Common.{◌≡◌, ℕ, zero, suc, ◌+◌, ◌*◌, ◌<◌, ◌≤◌, List, length, get_or, Option, Some, None, Ok, Err, refl, subst, arith, inl, inr}
use Rattle.std.proofs.lemmas.Bool.{cases_lt}
use Rattle.std.proofs.lemmas.Bool.Decides.{eqb_tells}
use Rattle.std.proofs.Math.Nat.{mul-le-mul_left}
use Rattle.reading_model.specs.Rules.{short as short_front}
use Rattle.piece_reader.specs.Held.{HeldBytes, HasPlace}
use Rattle.piece_reader.specs.Steps.{Wants}
use Rattle.xdf_model.specs.declared.types.Format.{Format}
use Rattle.xdf_model.specs.declared.types.Format.TheVariants.{Float32, Double64, Text, Int32, Int16, Int8, Int64}
use Rattle.xdf_model.specs.declared.types.Shape.{Shape}
use Rattle.xdf_model.specs.Sample.{Sample, size_of}
use Rattle.feed_model.specs.declared.Order.{Order}
use Rattle.feed_model.specs.FeedReading.{short, bad_tag, bad_width, too_long, Taken, feed_sample_at}
use Rattle.reply_model.specs.declared.ReplyStep.{ReplyStep}
use Rattle.reply_model.specs.declared.ReplyStep.TheVariants.{Done, More, Refused}
use Rattle.reply_model.specs.Reply.{reply_in}
use Rattle.reply_room.proofs.Sizes.{unjudged_short}
use Rattle.inlet_model.specs.declared.end.FeedEnd.{FeedEnd}
use Rattle.inlet_model.specs.Inlet.{by_reply, by_read, by_quota}
use Rattle.sample_pool.proofs.Numbers.{plain_there, stamped_there, other_tag}
use Rattle.feed_samples.specs.declared.stage.Stage.{Stage}
use Rattle.feed_samples.specs.declared.stage.Stage.TheVariants.{Reply as reply_stage, Samples}
use Rattle.feed_samples.specs.Inlet.{InletState, rules_of}
use Rattle.feed_samples.specs.Kept.{IsFreeAt}
use Rattle.feed_samples.proofs.Passed.{seen}

short_few : (shape : Shape) (order : Order) (b : List ℕ) → 1 ≤ size_of shape.format → feed_sample_at shape order b ≡ Err short → length b < 9 + size_of shape.format * shape.count
short_few shape order b some e =
    elim (cases_lt (length b) (9 + size_of shape.format * shape.count)) [
      | inl few ↦ few
      | inr long ↦ elim (eqb_tells (get_or b 0 0) 1) [
        | inl one ↦ let there = plain_there shape order b (size_of shape.format) refl some one.1 (omega arith) in absurd cc
        | inr not_one ↦ elim (eqb_tells (get_or b 0 0) 2) [
          | inl two ↦ let there = stamped_there shape order b (size_of shape.format) refl some two.1 long in absurd cc
          | inr not_two ↦ let other = other_tag shape order b (omega arith) not_one.1 not_two.1 in absurd (cc (other.1))
        ]
      ]
    ]

size_small : (f : Format) → size_of f ≤ 8
size_small Float32 = omega arith
size_small Double64 = omega arith
size_small Text = omega arith
size_small Int32 = omega arith
size_small Int16 = omega arith
size_small Int8 = omega arith
size_small Int64 = omega arith

more_wanted : (quota : Option ℕ) (r : ReplyStep) → by_reply quota r ≡ short_front → r ≡ More
more_wanted quota (Done reply used) e = absurd cc
more_wanted quota More e = refl
more_wanted quota (Refused at why) e = absurd cc

sample_wanted : (order : Order) (tests : ℕ) (quota : Option ℕ) (place size : ℕ) (r : Taken Sample) → by_read order tests quota place size r ≡ short_front → r ≡ Err short
sample_wanted order zero quota place size (Ok read) e = absurd cc
sample_wanted order (suc tests) quota place size (Ok read) e = absurd cc
sample_wanted order tests quota place size (Err short) e = refl
sample_wanted order tests quota place size (Err (bad_tag left byte)) e = absurd cc
sample_wanted order tests quota place size (Err (bad_width left byte)) e = absurd cc
sample_wanted order tests quota place size (Err (too_long left)) e = absurd cc

quota_wanted : (shape : Shape) (order : Order) (tests : ℕ) (quota : Option ℕ) (place : ℕ) (b : List ℕ) → by_quota shape order tests quota place b ≡ short_front → feed_sample_at shape order b ≡ Err short
quota_wanted shape order tests None place b e = sample_wanted order tests None place (length b) (feed_sample_at shape order b) e
quota_wanted shape order tests (Some zero) place b e = absurd cc
quota_wanted shape order tests (Some (suc n)) place b e = sample_wanted order tests (Some (suc n)) place (length b) (feed_sample_at shape order b) e

abbrev held : List ℕ → ℕ → ℕ → HeldBytes
held bytes free places = record { bytes = bytes; free = free; places = places }

few_held : (bytes : List ℕ) (free places : ℕ) → length bytes ≤ 32_776 → 327_680 ≤ places → HasPlace (held bytes free places)
few_held bytes free places few room = elim (cases_lt (free + length bytes) places) [
  | inl lt ↦ inl lt
  | inr ge ↦ inr (omega arith)
]

place_here : (uid : Option (List ℕ)) (shape : Shape) (ending : Option FeedEnd) (stage : Stage) (quota : Option ℕ) (place : ℕ) (bytes : List ℕ) (limit received free places : ℕ)
    → Wants (rules_of (seen uid shape ending stage quota place bytes limit received)) (seen uid shape ending stage quota place bytes limit received).reading
    → 1 ≤ size_of shape.format → shape.count ≤ 4096 → 327_680 ≤ places → IsFreeAt stage free → HasPlace (held bytes free places)
place_here uid shape (Some e) stage quota place bytes limit received free places w some count room f = absurd w
place_here uid shape None reply_stage quota place bytes limit received free places w some count room f =
    let few = unjudged_short uid bytes (more_wanted quota (reply_in uid bytes) w.0) in
    inl (omega (arith, few, f))
place_here uid shape None (Samples order tests) quota place bytes limit received free places w some count room f =
    let few = short_few shape order bytes some (quota_wanted shape order tests quota place bytes w.0) in
    let size = size_small shape.format in
    let product : size_of shape.format * shape.count ≤ size_of shape.format * 4096 = mul-le-mul_left (size_of shape.format) count in
    few_held bytes free places (omega (arith, few, size, product)) room

pub has_place : (now : InletState) (uid : Option (List ℕ)) (shape : Shape) (ending : Option FeedEnd) (stage : Stage) (quota : Option ℕ) (place : ℕ) (bytes : List ℕ) (limit received free places : ℕ)
    → seen uid shape ending stage quota place bytes limit received ≡ now → Wants (rules_of now) now.reading
    → 1 ≤ size_of now.shape.format → now.shape.count ≤ 4096 → 327_680 ≤ places → IsFreeAt stage free → HasPlace (held bytes free places)
has_place now uid shape ending stage quota place bytes limit received free places v =
    subst (λ (x : InletState). Wants (rules_of x) x.reading → 1 ≤ size_of x.shape.format → x.shape.count ≤ 4096 → 327_680 ≤ places → IsFreeAt stage free → HasPlace (held bytes free places)) v
    (place_here uid shape ending stage quota place bytes limit received free places)
