-- The bytes of a feed grow sample by sample.
use Rattle.std.proofs.Common.{◌≡◌, ◌==◌, ℕ, zero, suc, ◌+◌, ◌%◌, ◌^◌, ◌/◌, Bool, true, false, cond, Result, Ok, Err, OnOk, List, [], ◌∷◌, ◌++◌, length, refl, sym, ap, ◌∙◌, append_assoc, arith}
use Rattle.std.proofs.lemmas.List.{append-nil, length-append}
use Rattle.std.proofs.lemmas.Grind.{flat_map-append}
use Rattle.std.specs.List.{flat_map}
use Rattle.xdf_model.specs.Sample.{Sample, number, size_of, text}
use Rattle.feed_model.specs.declared.Order.{Order}
use Rattle.drill_feeds.specs.Drill.{drill_format, drill_number, drill_order, drill_sample, drill_value, feed_sample_text, feed_value_text, first_samples, letters}

pub samples_more : (order : Order) (size samples id n : ℕ) (a b d : List ℕ) → b ≡ a ++ flat_map (feed_sample_text order size) (first_samples samples id n) → d ≡ b ++ feed_sample_text order size (drill_sample samples id n)
    → d ≡ a ++ flat_map (feed_sample_text order size) (first_samples samples id (n + 1))
samples_more order size samples id n a b d before put =
    let f : Sample → List ℕ = feed_sample_text order size in
    let s = drill_sample samples id n in
    let xs = first_samples samples id n in
    let next : suc n ≡ n + 1 = omega arith in
    put ∙ ap (λ (l : List ℕ). l ++ f s) before ∙ append_assoc a (flat_map f xs) (f s)
    ∙ ap (λ (l : List ℕ). a ++ (flat_map f xs ++ l)) (sym (append-nil (f s))) ∙ ap (λ (l : List ℕ). a ++ l) (sym (flat_map-append f xs (s ∷ [])))
    ∙ ap (λ (m : ℕ). a ++ flat_map f (first_samples samples id m)) next

pub letters_size : (first n : ℕ) → length (letters first n) ≡ n
letters_size first zero = refl
letters_size first (suc n) = omega (arith, length-append (letters first n) ((97 + (first + n) % 26) ∷ []), letters_size first n)

text_by : (one two : Bool) (order : Order) (size v w : ℕ) (t : List ℕ) → one ≡ false → two ≡ false → feed_value_text order size (cond one (number v) (cond two (number w) (text t))) ≡ 1 ∷ length t ∷ t
text_by true two order size v w t a b = absurd cc
text_by false true order size v w t a b = absurd cc
text_by false false order size v w t a b = refl

-- the text of a feed that is neither the first nor the second
pub text_put : {T E : Type 0} (r : Result T E) (id samples position channel n : ℕ) (old new : List ℕ) → (id == 1) ≡ false → (id == 2) ≡ false → n ≡ drill_number samples id position channel
    → OnOk r (new ≡ old ++ 1 ∷ position % 20 ∷ letters (n / 2 ^ 40) (position % 20)) → OnOk r (new ≡ old ++ feed_value_text (drill_order id) (size_of (drill_format id)) (drill_value samples id position channel))
text_put (Ok x) id samples position channel n old new one two is h =
    let m = drill_number samples id position channel in
    let t = letters (m / 2 ^ 40) (position % 20) in
    h ∙ ap (λ (i : ℕ). old ++ 1 ∷ position % 20 ∷ letters (i / 2 ^ 40) (position % 20)) is ∙ ap (λ (i : ℕ). old ++ 1 ∷ i ∷ t) (sym (letters_size (m / 2 ^ 40) (position % 20)))
    ∙ ap (λ (l : List ℕ). old ++ l) (sym (text_by (id == 1) (id == 2) (drill_order id) (size_of (drill_format id)) (m / 2 ^ 48) m t one two))
text_put (Err x) id samples position channel n old new one two is h = tt
