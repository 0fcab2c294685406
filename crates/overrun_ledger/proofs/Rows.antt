-- A sample that is read as a row is that row's.
use Rattle.std.proofs.Common.{◌≡◌, true, false, List, [], ◌∷◌, Some, None, if◌then◌else◌, ap}
use Rattle.xdf_model.specs.declared.types.Stamp.{Stamp}
use Rattle.xdf_model.specs.declared.types.Stamp.TheVariants as stamp
use Rattle.xdf_model.specs.Sample.{Value, number, text, Sample}
use Rattle.recording_model.specs.declared.row.Row.{Row}
use Rattle.recording_model.specs.Ledger.{is_in_range, row_sample, in_range, row_from, row_in}

in_range_is : (row other : Row) → in_range row ≡ Some other → row ≡ other
in_range_is row other =
    elim (is_in_range row) as (λ b. (if b then Some row else None) ≡ Some other → row ≡ other) [ true ↦ λ e. cc | false ↦ λ e. absurd (cc) ]

from_is : (at : Stamp) (values : List Value) (row : Row) → row_from at values ≡ Some row → ◌≡◌ {A = Sample} (record { stamp = at; values = values }) (row_sample row)
from_is (stamp.Bits n) values row e = absurd (cc)
from_is stamp.None [] row e = absurd (cc)
from_is stamp.None (text a ∷ more) row e = absurd (cc)
from_is stamp.None (number a ∷ []) row e = absurd (cc)
from_is stamp.None (number a ∷ text b ∷ more) row e = absurd (cc)
from_is stamp.None (number a ∷ number b ∷ []) row e = absurd (cc)
from_is stamp.None (number a ∷ number b ∷ text c ∷ more) row e = absurd (cc)
from_is stamp.None (number a ∷ number b ∷ number c ∷ d ∷ more) row e = absurd (cc)
from_is stamp.None (number a ∷ number b ∷ number c ∷ []) row e =
    ap row_sample (in_range_is (record { stream = a; first = b; count = c }) row e)

pub row_in_is : (s : Sample) (row : Row) → row_in s ≡ Some row → s ≡ row_sample row
row_in_is s row e = from_is s.stamp s.values row e
