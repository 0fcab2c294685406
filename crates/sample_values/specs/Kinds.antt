-- What stands elsewhere, kept or raw.
use Rattle.std.specs.Prelude.{List, map}
use Rattle.xdf_model.specs.Sample.{Value, Sample}
use Rattle.sample_values.specs.declared.value.Rest.{Rest}
use Rattle.sample_values.specs.declared.value.Rest.TheVariants as rest
use Rattle.sample_values.specs.declared.view.Kind.{Kind}
use Rattle.sample_values.specs.declared.view.Kind.TheVariants as kind
use Rattle.sample_values.specs.View.{value_of}

abbrev pub values_of : Rest → List Value
values_of (rest.Kept values) = map value_of values.now
values_of (rest.Raw values) = values

abbrev pub sample_of : Kind → Sample
sample_of (kind.Kept s) = s.now
sample_of (kind.Raw v) = v
