-- What a recording holds of a feed, and what it says was lost of it. This project's own.
use Rattle.std.specs.Prelude.{◌≡◌, ℕ, zero, suc, ◌+◌, ◌<◌, ◌≤◌, ◌==◌, ◌&&◌, nat_lt, nat_le, Bool, not, List, [], ◌∷◌, ◌++◌, length, map, take, filter, Some, slice_get, if◌then◌else◌}
use Rattle.std.specs.List.{AllByRecursion, list_any}
use Rattle.xdf_model.specs.Sample.{Sample}
use Rattle.chunk_grammar.specs.declared.chunk.Chunk.{Chunk}
use Rattle.recording_model.specs.declared.row.Row.{Row}
use Rattle.recording_model.specs.Ledger.{stream_samples, ledger_rows}
use Rattle.recording_model.specs.Batch.{Entry, Batch, entries_from}
use Rattle.recording_model.specs.Recording.{lost_in}

-- the entries of a place in all batches, in order
abbrev pub entries_at : ℕ → List Batch → List Entry
entries_at place [] = []
entries_at place (b ∷ bs) = (if b.place == place then b.entries else []) ++ entries_at place bs

-- the position behind the last of some entries, 0 where there is none
abbrev pub behind_last : List Entry → ℕ
behind_last [] = 0
behind_last (e ∷ []) = e.position + 1
behind_last (e ∷ f ∷ more) = behind_last (f ∷ more)

-- each entry has the sample that the feed has at its position
abbrev pub AreOf : List Sample → List Entry → Type 0
AreOf samples entries = AllByRecursion (λ e. slice_get samples e.position ≡ Some e.sample) entries

-- one of the rows names the position
abbrev pub is_named : List Row → ℕ → Bool
is_named rows n = list_any (λ row. nat_le row.first n && nat_lt n (row.first + row.count)) rows

-- the entries of a feed without those at the positions that rows name
abbrev pub entries_without : List Row → List Sample → List Entry
entries_without rows samples = filter (λ e. not (is_named rows e.position)) (entries_from 0 samples)

-- its samples without those
abbrev pub without_rows : List Row → List Sample → List Sample
without_rows rows samples = map (λ e. e.sample) (entries_without rows samples)

-- the positions below n, in order
abbrev pub positions_below : ℕ → List ℕ
positions_below zero = []
positions_below (suc n) = positions_below n ++ n ∷ []

-- those of them that rows name
abbrev pub lost_positions : List Row → ℕ → List ℕ
lost_positions rows n = filter (is_named rows) (positions_below n)

-- rows rise from a position on, don't overlap, and end at or below another
abbrev pub AreApart : ℕ → List Row → ℕ → Type 0
AreApart from [] end = from ≤ end
AreApart from (row ∷ rows) end = (from ≤ row.first) × AreApart (row.first + row.count) rows end

-- for how many positions of a feed a recording accounts: those of its samples, and those that the ledger names
abbrev pub accounted : ℕ → List Chunk → ℕ
accounted id cs = length (stream_samples id cs) + lost_in id cs

-- the recording holds the first samples of the feed without those that its ledger names
pub record IsFeedPrefix (samples : List Sample) (cs : List Chunk) (id : ℕ) : Type 0 where
  pub rows : AreApart 0 (ledger_rows id cs) (accounted id cs)
  pub within : accounted id cs ≤ length samples
  pub kept : stream_samples id cs ≡ without_rows (ledger_rows id cs) (take (accounted id cs) samples)

-- it accounts for all samples of the feed
pub record IsFeedWhole (samples : List Sample) (cs : List Chunk) (id : ℕ) : Type 0 where
  pub prefix : IsFeedPrefix samples cs id
  pub all : accounted id cs ≡ length samples
