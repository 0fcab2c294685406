-- Slabs as parts of a list.
use Rattle.std.specs.Prelude.{ℕ, ◌-◌, ◌*◌, List, length, take, drop}
use Rattle.xdf_model.specs.Sample.{Sample}
use Rattle.recording_model.specs.Batch.{Entry, entries_from}

-- the last n of a list, or all where it has no more
abbrev pub last_of : {A : Type 0} → ℕ → List A → List A
last_of n xs = drop (length xs - n) xs

-- the entries of slab t
abbrev pub slab : ℕ → ℕ → List Sample → List Entry
slab batch t samples = entries_from (t * batch) (take batch (drop (t * batch) samples))
