-- Where there is no text, none is broken.
use Rattle.std.proofs.Common.{◌≡◌, ◌||◌, Bool, false, List, [], ◌∷◌, ap, ◌∙◌}
use Rattle.std.specs.List.{list_any}
use Rattle.std.proofs.lemmas.Bool.{or_parts}
use Rattle.xdf_model.specs.Sample.{Value, number, text, Sample}
use Rattle.sample_values.specs.View.{is_text}
use Rattle.report_model.specs.Notes.{is_broken}

-- a list without an item of a kind has none of a narrower kind
module _ {X : Type 0} (wide narrow : X → Bool) (within : (x : X) → wide x ≡ false → narrow x ≡ false) where
  pub none_narrower : (xs : List X) → list_any wide xs ≡ false → list_any narrow xs ≡ false
  none_narrower [] none = none
  none_narrower (x ∷ xs) none =
      let parts = or_parts (wide x) (list_any wide xs) none in
      ap (λ (b : Bool). b || list_any narrow xs) (within x parts.0) ∙ none_narrower xs parts.1

value_within : (v : Value) → is_text v ≡ false → is_broken v ≡ false
value_within (number n) none = none
value_within (text t) none = absurd (cc)

pub none_broken : (ss : List Sample) → list_any (λ s. list_any is_text s.values) ss ≡ false → list_any (λ s. list_any is_broken s.values) ss ≡ false
none_broken = none_narrower (λ s. list_any is_text s.values) (λ s. list_any is_broken s.values) (λ s. none_narrower is_text is_broken value_within s.values)
