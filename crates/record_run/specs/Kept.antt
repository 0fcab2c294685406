-- What is kept of a feed in the first turns.
use Rattle.std.specs.Prelude.{ℕ, zero, suc, List, [], ◌++◌}
use Rattle.xdf_model.specs.Sample.{Sample}
use Rattle.recording_model.specs.Batch.{Entry}
use Rattle.turns_model.specs.Turns.{kept_in}

abbrev pub kept_up_to : ℕ → ℕ → List Sample → ℕ → List Entry
kept_up_to ring batch samples zero = []
kept_up_to ring batch samples (suc n) = kept_up_to ring batch samples n ++ kept_in ring batch n samples
