-- The number that a document tells in an element, by its first occurrence (this project's own).
use Rattle.std.specs.Prelude.{ℕ, ◌^◌, ◌&&◌, List, length, drop, Option, Some, None, nat_eq, nat_lt, if◌then◌else◌, codes}
use Rattle.std.specs.List.{starts_with}
use Rattle.std.specs.Str.Parse.{digits_value}
use Rattle.xdf_model.specs.Shape.{behind_first, digits_front}
use Rattle.shape_pattern.specs.declared.footer.Element.{Element}
use Rattle.shape_pattern.specs.declared.footer.Element.TheVariants.{SampleCount, Overruns}

-- the marks of an element (XDF, "StreamFooter chunk"; those of the overruns are this project's own)
abbrev pub opening : Element → List ℕ
opening SampleCount = codes "<sample_count>"
opening Overruns = codes "<overruns>"

abbrev pub closing : Element → List ℕ
closing SampleCount = codes "</sample_count>"
closing Overruns = codes "</overruns>"

-- 1 to 20 digits and then at once the closing, with a number below 2^64 (this project's own)
abbrev pub number_front : List ℕ → List ℕ → Option ℕ
number_front close b =
    let digits = digits_front b in
    let n = digits_value 10 digits in
    if nat_lt 0 (length digits) && nat_lt (length digits) 21
    && starts_with nat_eq (drop (length digits) b) close
    && nat_lt n (2 ^ 64)
    then Some n else None

abbrev pub number_behind : List ℕ → Option (List ℕ) → Option ℕ
number_behind close None = None
number_behind close (Some b) = number_front close b

-- the number behind the first occurrence of the element's opening (this project's own)
abbrev pub number_in : Element → List ℕ → Option ℕ
number_in element doc = number_behind (closing element) (behind_first (opening element) doc)
