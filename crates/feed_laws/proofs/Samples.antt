-- The reader of samples fits their texts.
use Rattle.std.proofs.Common.{◌≡◌, ℕ, zero, suc, ◌-◌, ◌≤◌, List, [], ◌∷◌, ◌++◌, length, refl, sym, ap, ◌∙◌, subst, append_assoc, arith}
use Rattle.std.specs.Prelude.{sum_by}
use Rattle.std.specs.List.{AllByRecursion}
use Rattle.std.proofs.lemmas.List.Sums.{sum_by-cons}
use Rattle.xdf_model.specs.declared.types.Shape.{Shape}
use Rattle.xdf_model.specs.Reading.{◌>>=◌}
use Rattle.xdf_model.specs.Sample.{Value, number, text, Sample, size_of, FitsValue, FitsShape, Joined}
use Rattle.xdf_model_laws.proofs.Bytes.{IsBytes, IsBytes-rest}
use Rattle.xdf_model_laws.proofs.Readers.{bind_ok}
use Rattle.feed_model.specs.declared.Order.{Order}
use Rattle.feed_model.specs.Feed.{tag_text, IsFeedValue, text_size, text_limit, IsFeedSample}
use Rattle.feed_model.specs.FeedReading.{tag_at, value_at, values_at, feed_sample_at}
use Rattle.feed_laws.proofs.Steps.{taken, same_value, same_rest}
use Rattle.feed_laws.proofs.Whole.{IsReader, reads_tag, reads_value}

-- ---- values

-- b are n values one after the other, whose texts take no more than the room
pub record AreInRoom (order : Order) (size n room : ℕ) (vs : List Value) (b : List ℕ) : Type 0 where
  pub count : length vs ≡ n
  pub texts : sum_by text_size vs ≤ room
  pub each : Joined (IsFeedValue order size) vs b

values_sound : (order : Order) (size n room : ℕ) (b : List ℕ) (vs : List Value) (rest : List ℕ) → IsBytes b → values_at order size n room b ≡ taken vs rest → (x : List ℕ) × AreInRoom order size n room vs x × (b ≡ x ++ rest)
unfolding values_at
values_sound order size zero room b vs rest h e =
    let none : AreInRoom order size 0 room [] [] = record { count = refl; texts = omega arith; each = refl } in
    ([], subst (λ (l : List Value). AreInRoom order size 0 room l []) (same_value e) none, same_rest e)
values_sound order size (suc n) room b vs rest h e =
    let g = bind_ok (value_at order size room b) (λ x. values_at order size n (room - text_size x.0) x.1 >>= λ xs. taken (x.0 ∷ xs.0) xs.1) (vs, rest) e in
    let v = g.0.0 in
    let k = bind_ok (values_at order size n (room - text_size v) g.0.1) (λ xs. taken (v ∷ xs.0) xs.1) (vs, rest) g.2 in
    let one = (reads_value order size room).sound b v g.0.1 h g.1 in
    let more = values_sound order size n (room - text_size v) g.0.1 k.0.0 k.0.1 (IsBytes-rest one.0 g.0.1 b h one.2) k.1 in
    let sum = sum_by-cons text_size v k.0.0 in
    let fits = one.1.1 in
    let both : AreInRoom order size (suc n) room (v ∷ k.0.0) (one.0 ++ more.0) = record {
      count = omega (arith, more.1.count);
      texts = omega (arith, sum, fits, more.1.texts);
      each = (one.0, more.0, one.1.0, more.1.each, refl);
    } in
    let parts : b ≡ (one.0 ++ more.0) ++ rest = one.2 ∙ ap (λ (t : List ℕ). one.0 ++ t) (more.2 ∙ ap (λ (t : List ℕ). more.0 ++ t) (same_rest k.2)) ∙ sym (append_assoc one.0 more.0 rest) in
    (one.0 ++ more.0, subst (λ (l : List Value). AreInRoom order size (suc n) room l (one.0 ++ more.0)) (same_value k.2) both, parts)

values_complete : (order : Order) (size n room : ℕ) (vs : List Value) (x rest : List ℕ) → AreInRoom order size n room vs x → values_at order size n room (x ++ rest) ≡ taken vs rest
unfolding values_at
values_complete order size n room [] x rest r = rw (← r.count, r.each) refl
values_complete order size n room (v ∷ vs) x rest r =
    let p = r.each in
    let sum = sum_by-cons text_size v vs in
    let texts = r.texts in
    let parts : x ++ rest ≡ p.0 ++ (p.1 ++ rest) = ap (λ (t : List ℕ). t ++ rest) p.4 ∙ append_assoc p.0 p.1 rest in
    let first = (reads_value order size room).complete v p.0 (p.1 ++ rest) (p.2, omega arith) in
    let left : AreInRoom order size (length vs) (room - text_size v) vs p.1 = record { count = refl; texts = omega arith; each = p.3 } in
    let others = values_complete order size (length vs) (room - text_size v) vs p.1 rest left in
    rw (← r.count, parts, first, others) refl

pub reads_values : (order : Order) (size n room : ℕ) → IsReader (AreInRoom order size n room) (values_at order size n room)
reads_values order size n room = record { sound = values_sound order size n room; complete = values_complete order size n room }

-- ---- samples

-- values that have a text fit
value_fits : (order : Order) (size : ℕ) (v : Value) (x : List ℕ) → IsFeedValue order size v x → FitsValue size v
value_fits order size (number n) x r = (r.0, r.1)
value_fits order size (text t) x r = r.0

values_fit : (order : Order) (size : ℕ) (vs : List Value) (x : List ℕ) → Joined (IsFeedValue order size) vs x → AllByRecursion (FitsValue size) vs
values_fit order size [] x r = tt
values_fit order size (v ∷ vs) x r = (value_fits order size v r.0 r.2, values_fit order size vs r.1 r.3)

sample_sound : (shape : Shape) (order : Order) (b : List ℕ) (s : Sample) (rest : List ℕ) → IsBytes b → feed_sample_at shape order b ≡ taken s rest → (x : List ℕ) × IsFeedSample shape order s x × (b ≡ x ++ rest)
unfolding feed_sample_at
sample_sound shape order b s rest h e =
    let size = size_of shape.format in
    let g = bind_ok (tag_at order b) (λ stamp. values_at order size shape.count text_limit stamp.1 >>= λ values. taken (record { stamp = stamp.0; values = values.0 }) values.1) (s, rest) e in
    let k = bind_ok (values_at order size shape.count text_limit g.0.1) (λ values. taken (record { stamp = g.0.0; values = values.0 }) values.1) (s, rest) g.2 in
    let stamp = (reads_tag order).sound b g.0.0 g.0.1 h g.1 in
    let values = (reads_values order size shape.count text_limit).sound g.0.1 k.0.0 k.0.1 (IsBytes-rest stamp.0 g.0.1 b h stamp.2) k.1 in
    let made : Sample = record { stamp = g.0.0; values = k.0.0 } in
    let fits : FitsShape shape made = record { count = values.1.count; values = values_fit order size k.0.0 values.0 values.1.each; stamp = stamp.1.0 } in
    let t : IsFeedSample shape order made (stamp.0 ++ values.0) = record { fits = fits; texts = values.1.texts; values = values.0; each = values.1.each; whole = ap (λ (y : List ℕ). y ++ values.0) stamp.1.1 } in
    let parts : b ≡ (stamp.0 ++ values.0) ++ rest = stamp.2 ∙ ap (λ (y : List ℕ). stamp.0 ++ y) (values.2 ∙ ap (λ (y : List ℕ). values.0 ++ y) (same_rest k.2)) ∙ sym (append_assoc stamp.0 values.0 rest) in
    (stamp.0 ++ values.0, subst (λ (y : Sample). IsFeedSample shape order y (stamp.0 ++ values.0)) (same_value k.2) t, parts)

sample_complete : (shape : Shape) (order : Order) (s : Sample) (x rest : List ℕ) → IsFeedSample shape order s x → feed_sample_at shape order (x ++ rest) ≡ taken s rest
unfolding feed_sample_at
sample_complete shape order s x rest r =
    let size = size_of shape.format in
    let parts : x ++ rest ≡ tag_text order s.stamp ++ (r.values ++ rest) = ap (λ (y : List ℕ). y ++ rest) r.whole ∙ append_assoc (tag_text order s.stamp) r.values rest in
    let stamp = (reads_tag order).complete s.stamp (tag_text order s.stamp) (r.values ++ rest) (r.fits.stamp, refl) in
    let inside : AreInRoom order size shape.count text_limit s.values r.values = record { count = r.fits.count; texts = r.texts; each = r.each } in
    let values = (reads_values order size shape.count text_limit).complete s.values r.values rest inside in
    rw (parts, stamp, values) refl

pub reads_sample : (shape : Shape) (order : Order) → IsReader (IsFeedSample shape order) (feed_sample_at shape order)
reads_sample shape order = record { sound = sample_sound shape order; complete = sample_complete shape order }
