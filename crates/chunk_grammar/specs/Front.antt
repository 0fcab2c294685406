-- A list of samples: those that were read, and those that were pushed behind them.
use Rattle.std.specs.Prelude.{List, [], Option, Some, None}
use Rattle.xdf_model.specs.Sample.{Sample}

abbrev pub front_of : Option (List Sample) → List Sample
front_of None = []
front_of (Some front) = front
