-- What a recording is made of, batch by batch, and how a batch is divided into groups. This project's own.
use Rattle.std.specs.Prelude.{◌≡◌, ◌≢◌, ◌==◌, ℕ, ◌+◌, ◌<◌, ◌≤◌, ◌⊎◌, ⊤, List, [], ◌∷◌, ◌++◌, length, map, Some, slice_get, if◌then◌else◌}
use Rattle.std.specs.List.{flat_map}
use Rattle.xdf_model.specs.declared.types.Shape.{Shape}
use Rattle.xdf_model.specs.Sample.{Sample, least_sample_text}
use Rattle.recording_model.specs.declared.stream.StreamDoc.{StreamDoc}

-- a sample and its position in its feed, counted from 0
pub record Entry : Type 0 where
  pub position : ℕ
  pub sample : Sample

-- entries of the stream at a place, in order
pub record Batch : Type 0 where
  pub place : ℕ
  pub entries : List Entry

-- the positions of a place in all batches, in order
abbrev pub positions_at : ℕ → List Batch → List ℕ
positions_at place [] = []
positions_at place (b ∷ bs) = (if b.place == place then map (λ e. e.position) b.entries else []) ++ positions_at place bs

-- each number is above the one before it
abbrev pub IsRising : List ℕ → Type 0
IsRising [] = ⊤
IsRising (n ∷ []) = ⊤
IsRising (n ∷ m ∷ more) = (n < m) × IsRising (m ∷ more)

-- the entries of each place come in the order of their feed, none twice
abbrev pub AreInOrder : List Batch → Type 0
AreInOrder batches = (place : ℕ) → IsRising (positions_at place batches)

-- samples at consecutive positions from n on
abbrev pub entries_from : ℕ → List Sample → List Entry
entries_from n [] = []
entries_from n (s ∷ more) = record { position = n; sample = s } ∷ entries_from (n + 1) more

-- one batch of the first stream that has all samples of its feed
abbrev pub one_batch : List Sample → List Batch
one_batch samples = record { place = 0; entries = entries_from 0 samples } ∷ []

-- samples of one place at consecutive positions from `first` on: at least one, and then more
pub record Group : Type 0 where
  pub place : ℕ
  pub first : ℕ
  pub sample : Sample
  pub more : List Sample

abbrev pub samples_in : Group → List Sample
samples_in g = g.sample ∷ g.more

-- the position after the group's last
abbrev pub end_of : Group → ℕ
end_of g = g.first + length (samples_in g)

abbrev pub entries_in : Group → List Entry
entries_in g = entries_from g.first (samples_in g)

-- the least texts of some samples, one directly after the other
abbrev pub texts_of : Shape → List Sample → List ℕ
texts_of shape samples = flat_map (least_sample_text shape) samples

-- the most bytes that the texts of a group of several samples have
abbrev pub group_limit : ℕ
group_limit = 1_048_576

-- the group has one sample, or its texts are within the limit
abbrev pub IsWithin : Shape → Group → Type 0
IsWithin shape g = (g.more ≡ []) ⊎ (length (texts_of shape (samples_in g)) ≤ group_limit)

-- the group couldn't take the next one's first sample: its position doesn't follow, or its text would pass the limit
abbrev pub EndsBefore : Shape → Group → List Group → Type 0
EndsBefore shape g [] = ⊤
EndsBefore shape g (h ∷ hs) = (h.first ≢ end_of g) ⊎ (group_limit < length (texts_of shape (samples_in g)) + length (least_sample_text shape h.sample))

-- groups of a place, each as long as it can be
abbrev pub AreLongest : Shape → ℕ → List Group → Type 0
AreLongest shape place [] = ⊤
AreLongest shape place (g ∷ gs) = (g.place ≡ place) × IsWithin shape g × EndsBefore shape g gs × AreLongest shape place gs

-- the batch is divided from left to right into these groups
pub record Divides (streams : List StreamDoc) (b : Batch) (gs : List Group) : Type 0 where
  pub stream : StreamDoc
  pub is_stream : slice_get streams b.place ≡ Some stream
  pub all : b.entries ≡ flat_map entries_in gs
  pub longest : AreLongest stream.shape b.place gs

-- the groups of the batches, in order
abbrev pub AreDivided : List StreamDoc → List Batch → List Group → Type 0
AreDivided streams [] gs = gs ≡ []
AreDivided streams (b ∷ bs) gs = (xs : List Group) × (ys : List Group) × Divides streams b xs × AreDivided streams bs ys × (gs ≡ xs ++ ys)
