-- What is kept of a stream, and what a chunk does to it.
use Rattle.std.specs.Prelude.{ℕ, ◌+◌, ◌-◌, ◌^◌, ◌==◌, ◌&&◌, ◌||◌, Bool, false, not, List, [], ◌∷◌, map, min, max, nat_le, Option, Some, None, is_some, if◌then◌else◌}
use Rattle.std.specs.List.{list_any}
use Rattle.xdf_model.specs.Sample.{Sample}
use Rattle.recording_model.specs.declared.row.Row.{Row}
use Rattle.recording_model.specs.Ledger.{row_in}
use Rattle.stream_check.specs.declared.kept.Kept.{Kept}
use Rattle.stream_check.specs.declared.kept.Footer.{Footer}

-- a count that stands still at the end of its type
abbrev pub stilled : ℕ → ℕ
stilled n = min n (2 ^ 128 - 1)

-- how far the rows of a stream go
abbrev pub end_among : ℕ → List Row → ℕ
end_among id [] = 0
end_among id (row ∷ rows) = if row.stream == id then max (row.first + row.count) (end_among id rows) else end_among id rows

abbrev pub begun_at : ℕ → ℕ → Kept
begun_at at id = record { id = id; at = at; samples = 0; lost = 0; end = 0; footer = None }

-- so many samples of a stream came
abbrev pub counted : ℕ → ℕ → Kept → Kept
counted id n k =
    record { id = k.id; at = k.at; samples = if id == k.id then stilled (k.samples + n) else k.samples; lost = k.lost; end = k.end; footer = k.footer }

-- the row is a good one of this stream
abbrev pub takes : Row → Kept → Bool
takes row k = row.stream == k.id && nat_le k.end row.first

-- a row came
abbrev pub rowed : Row → Kept → Kept
rowed row k =
    record {
      id = k.id;
      at = k.at;
      samples = k.samples;
      lost = if takes row k then stilled (k.lost + row.count) else k.lost;
      end = if takes row k then row.first + row.count else k.end;
      footer = k.footer;
    }

-- a footer of a stream came
abbrev pub closed : ℕ → Footer → Kept → Kept
closed id footer k =
    record { id = k.id; at = k.at; samples = k.samples; lost = k.lost; end = k.end; footer = if id == k.id && not (is_some k.footer) then Some footer else k.footer }

-- what a sample of the ledger does to the streams, and whether it is a good row
abbrev pub kept_row : Option Row → List Kept → List Kept
kept_row None ks = ks
kept_row (Some row) ks = map (rowed row) ks

abbrev pub taken_row : Option Row → List Kept → Bool
taken_row None ks = false
taken_row (Some row) ks = list_any (takes row) ks

-- what samples of the ledger do to the streams, and whether one is no good row
abbrev pub kept_rows : List Sample → List Kept → List Kept
kept_rows [] ks = ks
kept_rows (s ∷ more) ks = kept_rows more (kept_row (row_in s) ks)

abbrev pub bad_rows : List Sample → List Kept → Bool
bad_rows [] ks = false
bad_rows (s ∷ more) ks = not (taken_row (row_in s) ks) || bad_rows more (kept_row (row_in s) ks)
