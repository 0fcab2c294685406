-- Reading from left to right: a value and the bytes after it, or the first fault.
use Rattle.std.specs.Prelude.{ℕ, zero, suc, List, [], ◌∷◌, length, take, drop, Result, Ok, Err, nat_lt, if◌then◌else◌}
use Rattle.byteorder.specs.Endian.{little_number}
use Rattle.xdf_model.specs.declared.types.Why.{Why}
use Rattle.xdf_model.specs.declared.types.Why.TheVariants as why
use Rattle.xdf_model.specs.declared.types.NumRead.{NumRead}
use Rattle.xdf_model.specs.declared.types.NumRead.TheVariants.{Read, Short, BadWidth}
use Rattle.xdf_model.specs.Varlen.{varlen_at}

-- a byte that is needed lies outside, or the byte that has `left` bytes from it to the end is wrong
pub data Fault : Type 0 where
  outside : Fault
  wrong : (left : ℕ) → Why → Fault

-- a value and the bytes after it
abbrev pub Found : Type 0 → Type 0
Found A = Result (A × List ℕ) Fault

infixl 10 ◌>>=◌
abbrev pub ◌>>=◌ : {A B E : Type 0} → Result A E → (A → Result B E) → Result B E
(Ok x) >>= f = f x
(Err e) >>= f = Err e

-- the first n bytes
unfoldable pub front_at : ℕ → List ℕ → Found (List ℕ)
front_at n b = if nat_lt (length b) n then Err outside else Ok (take n b, drop n b)

-- n bytes as a number, the lowest first
unfoldable pub number_at : ℕ → List ℕ → Found ℕ
number_at n b = do
  x ← front_at n b
  Ok (little_number n x.0, x.1)

abbrev pub length_from : List ℕ → NumRead → Found ℕ
length_from b (Read n used) = Ok (n, drop used b)
length_from b Short = Err outside
length_from b (BadWidth w) = Err (wrong (length b) why.BadWidth)

-- a number with its width
unfoldable pub length_at : List ℕ → Found ℕ
length_at b = length_from b (varlen_at b)

-- n values, one after the other
unfoldable pub many_at : {A : Type 0} → (List ℕ → Found A) → ℕ → List ℕ → Found (List A)
many_at read zero b = Ok ([], b)
many_at read (suc n) b = do
  x ← read b
  xs ← many_at read n x.1
  Ok (x.0 ∷ xs.0, xs.1)

-- a byte that lies outside is told with a reason at the place with so many bytes left
abbrev pub told : {A : Type 0} → ℕ → Why → Result A Fault → Result A Fault
told left reason (Ok x) = Ok x
told left reason (Err outside) = Err (wrong left reason)
told left reason (Err (wrong at other)) = Err (wrong at other)
