-- What is told by blocks is what a reader of samples does.
use Rattle.std.proofs.Common.{◌≡◌, ℕ, zero, suc, List, [], ◌∷◌}
use Rattle.inlet_model.specs.declared.end.FeedEnd.TheVariants.{ReadFault}
use Rattle.inlet_model.specs.Inlet.{FeedState, before_reply, behind_reply, end_of_input}
use Rattle.inlet_model.specs.declared.end.FeedEnd.{FeedEnd}
use Rattle.reading_model.specs.Outlook.{ended}
use Rattle.reading_model.specs.Reading.{Reading, going, done}
use Rattle.piece_reader.specs.Steps.{Wants, end_of}
use Rattle.feed_samples.specs.Inlet.{InletState, rules_of}

no_fault_in : (tests place : ℕ) (rest : List ℕ) → end_of_input tests place rest ≡ ReadFault → ⊥
no_fault_in zero place [] e = absurd cc
no_fault_in zero place (x ∷ rest) e = absurd cc
no_fault_in (suc tests) place rest e = absurd cc

-- an input that ends is no failed read
pub no_fault : (r : InletState) (reading : Reading FeedState FeedEnd) → Wants (rules_of r) reading → end_of (rules_of r) reading ended ≡ ReadFault → ⊥
no_fault r (done d) w e = absurd w
no_fault r (going (before_reply quota) rest room) w e = absurd cc
no_fault r (going (behind_reply order tests quota place) rest room) w e = no_fault_in tests place rest e
