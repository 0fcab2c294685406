-- Samples that are kept as their raw bytes.
use Rattle.std.specs.Prelude.{◌≡◌, List, [], Ok, Err}
use Rattle.xdf_model.specs.declared.types.Stamp.TheVariants as stamp
use Rattle.xdf_model.specs.Reading.{Found}
use Rattle.xdf_model.specs.Sample.{Sample}
use Rattle.sample_values.specs.Rest.{rest_of}

-- the items that are found, or none
abbrev pub listed : {A : Type 0} → Found (List A) → List A
listed (Ok x) = x.0
listed (Err e) = []

-- the sample that is found, or an empty one
abbrev pub found_in : Found Sample → Sample
found_in (Ok x) = x.0
found_in (Err e) = record { stamp = stamp.None; values = [] }

-- something is found, and no byte is left behind it
abbrev pub IsAll : {A : Type 0} → Found A → Type 0
IsAll r = rest_of r ≡ Ok []
