-- What is left behind what is read.
use Rattle.std.specs.Prelude.{◌≡◌, ◌==◌, ℕ, List, length, Result, Ok, Err, if◌then◌else◌}
use Rattle.xdf_model.specs.declared.types.Shape.{Shape}
use Rattle.xdf_model.specs.declared.types.Why.TheVariants.{SamplesShort}
use Rattle.xdf_model.specs.Reading.{Fault, outside, wrong, Found, told}
use Rattle.xdf_model.specs.Sample.{Sample, sample_at}
use Rattle.sample_values.specs.declared.fault.WalkFault.{WalkFault}
use Rattle.sample_values.specs.declared.fault.WalkFault.TheVariants.{Outside, Wrong}

-- the bytes behind what is read, or the first fault
abbrev pub rest_of : {A : Type 0} → Found A → Result (List ℕ) Fault
rest_of (Ok x) = Ok x.1
rest_of (Err e) = Err e

-- a sample, where one that passes the end is told at its first byte
abbrev pub whole_sample_at : Shape → List ℕ → Found Sample
whole_sample_at shape b = told (length b) SamplesShort (sample_at shape b)

abbrev pub fault_of : WalkFault → Fault
fault_of Outside = outside
fault_of (Wrong left why) = wrong left why

-- the code's answer is this one
abbrev pub Leaves : {X : Type 0} → (X → List ℕ) → Result X WalkFault → Result (List ℕ) Fault → Type 0
Leaves view (Ok x) read = read ≡ Ok (view x)
Leaves view (Err e) read = read ≡ Err (fault_of e)

-- the bytes of a stamp with its first byte, 0 where that is none
abbrev pub stamp_width : ℕ → ℕ
stamp_width tag = if tag == 0 then 1 else if tag == 8 then 9 else 0

-- the code's answer is what is found
abbrev pub Finds : {X Y : Type 0} → (X → Y) → Result X WalkFault → Result Y Fault → Type 0
Finds view (Ok x) read = read ≡ Ok (view x)
Finds view (Err e) read = read ≡ Err (fault_of e)
