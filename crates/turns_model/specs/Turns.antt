-- The batches of a recording by turns. This project's own.
use Rattle.std.specs.Prelude.{ℕ, zero, suc, ◌+◌, ◌-◌, ◌*◌, ◌/◌, ◌==◌, ◌&&◌, nat_lt, min, max, Bool, List, [], ◌∷◌, ◌++◌, length, filter}
use Rattle.xdf_model.specs.Sample.{Sample}
use Rattle.recording_model.specs.Batch.{Entry, Batch, entries_from}

-- the slab of a position, counted from 0: each has `batch` positions, and the last one as many as are left
abbrev pub slab_of : ℕ → ℕ → ℕ
slab_of batch position = position / batch

-- the position behind a slab, in a list of n samples
abbrev pub slab_end : ℕ → ℕ → ℕ → ℕ
slab_end batch n slab = min n ((slab + 1) * batch)

-- how many positions of its slab lie after a position
abbrev pub after_in_slab : ℕ → ℕ → ℕ → ℕ
after_in_slab batch n position = slab_end batch n (slab_of batch position) - (position + 1)

-- a position is kept exactly where fewer than `ring` positions of its slab lie after it
abbrev pub is_kept : ℕ → ℕ → ℕ → ℕ → Bool
is_kept ring batch n position = nat_lt (after_in_slab batch n position) ring

-- what is kept of a slab of a feed's samples
abbrev pub kept_in : ℕ → ℕ → ℕ → List Sample → List Entry
kept_in ring batch slab samples =
    filter (λ e. slab_of batch e.position == slab && is_kept ring batch (length samples) e.position) (entries_from 0 samples)

-- the batch of some entries; none where there are none
abbrev pub batch_of : ℕ → List Entry → List Batch
batch_of place [] = []
batch_of place (e ∷ more) = record { place = place; entries = e ∷ more } ∷ []

-- the batches of a turn, for the feeds in order from a place on
abbrev pub turn : ℕ → ℕ → ℕ → ℕ → List (List Sample) → List Batch
turn ring batch t place [] = []
turn ring batch t place (samples ∷ more) = batch_of place (kept_in ring batch t samples) ++ turn ring batch t (place + 1) more

-- the batches of the first n turns
abbrev pub first_turns : ℕ → ℕ → List (List Sample) → ℕ → List Batch
first_turns ring batch lists zero = []
first_turns ring batch lists (suc n) = first_turns ring batch lists n ++ turn ring batch n 0 lists

-- how many samples the longest list has
abbrev pub longest : List (List Sample) → ℕ
longest [] = 0
longest (samples ∷ more) = max (length samples) (longest more)

-- the batches of all turns: no list has more slabs than samples, and further turns have none
abbrev pub turn_batches : ℕ → ℕ → List (List Sample) → List Batch
turn_batches ring batch lists = first_turns ring batch lists (longest lists)
