-- What a sample's fields mean.
use Rattle.std.specs.Prelude.{◌≡◌, ℕ, Bool, true, false, List, Option, Some, None, map, length, take}
use Rattle.xdf_model.specs.Sample.{Value, number, text, Sample}
use Rattle.sample_values.specs.declared.sample.Held.{Held}
use Rattle.sample_values.specs.declared.sample.Held.TheVariants.{Number, Text}
use Rattle.sample_values.specs.declared.sample.Sample.TheInside.{Inside}
use Rattle.sample_values.specs.declared.sample.Values.{Values}
use Rattle.sample_values.specs.declared.sample.Values.TheVariants.{Listed, Texts}
use Rattle.sample_values.specs.declared.value.ValueView.{ValueView}
use Rattle.sample_values.specs.declared.value.ValueView.TheVariants as view

abbrev pub value_of : Held → Value
value_of (Number n) = number n
value_of (Text t) = text t.items

abbrev pub values_in : Values → List Value
values_in (Listed list) = map value_of list.items
values_in (Texts texts) = texts

abbrev pub view_of : Inside → Sample
view_of s = record { stamp = s.stamp; values = values_in s.values }

-- a value that is seen where it stands
abbrev pub seen_value : ValueView → Value
seen_value (view.Number n) = number n
seen_value (view.Text t) = text t.now

abbrev pub is_text : Value → Bool
is_text (number n) = false
is_text (text t) = true

-- new begins with old
abbrev pub KeepsFront : List ℕ → List ℕ → Type 0
KeepsFront old new = take (length old) new ≡ old

-- the number in a value that is there, or the bytes in it
abbrev pub bits_in : Option Value → Option ℕ
bits_in None = None
bits_in (Some (number n)) = Some n
bits_in (Some (text t)) = None

abbrev pub text_in : Option Value → Option (List ℕ)
text_in None = None
text_in (Some (number n)) = None
text_in (Some (text t)) = Some t
