-- What a repair leaves: the output, by the bytes of the input, and its line. This project's own.
use Rattle.std.specs.Prelude.{◌≡◌, ℕ, zero, suc, ◌<◌, ◌≤◌, Bool, ◌==◌, ◌||◌, List, [], ◌++◌, length, Option, Some, slice_get, IsTrue, codes}
use Rattle.std.specs.Fmt.{decimal}
use Rattle.std.specs.Io.KnownBytes.{Consumes, IsAtEnd}
use Rattle.rec_base.specs.declared.name.Name.TheVariants.{File}
use Rattle.rec_base.specs.Causes.{Rose}
use Rattle.rec_base.specs.Contents.{Contents, Given, IsInput, IsOpened}
use Rattle.rec_base.specs.Known.{Becomes, BecomesFront}
use Rattle.rec_base.specs.Moved.{HasFailed}
use Rattle.dock_calls.specs.Asking.{HasReadFault}
use Rattle.chunk_grammar.specs.declared.chunk.Chunk.{Chunk}
use Rattle.chunk_grammar.specs.Chunk.{magic, AreChunkTexts}
use Rattle.chunk_grammar.specs.Standing.{IsFront}

-- the most bytes of a file that count: 2 to the 40
abbrev pub byte_limit : ℕ
byte_limit = 1_099_511_627_776

-- the input's bytes are these, all of them; the output was created and has just the front of them that is the magic and whole chunks, as it
-- stands there, without the rest; and the numbers are right
pub record IsRepaired {S : Type 0} (left_of : S → Option (List ℕ)) (contents : Option Contents) (from out : List ℕ) (target target' held held' : Option (List ℕ)) (chunks bytes skipped : ℕ) : Type 0 where
  pub first : S
  pub last : S
  pub opened : IsOpened contents (File from) 0 (left_of first)
  pub all : List ℕ
  pub lost : Consumes (left_of first) (left_of last) all
  pub at_end : IsAtEnd (left_of last)
  pub input : IsInput contents (File from) 0 all
  pub within : length all ≤ byte_limit
  pub cs : List Chunk
  pub rest : List ℕ
  pub front : IsFront all cs rest
  pub created : Becomes target target' out
  pub written : Becomes held held' (magic ++ front.text)
  pub chunk_count : chunks ≡ length cs
  pub byte_count : bytes ≡ length (magic ++ front.text)
  pub skipped_count : skipped ≡ length rest

-- these bytes of the input were taken; the output was created and has a front of the magic and of the text of whole chunks that were met
pub record IsCutRepair {S : Type 0} (left_of : S → Option (List ℕ)) (contents : Option Contents) (from out : List ℕ) (target target' held held' : Option (List ℕ)) : Type 0 where
  pub first : S
  pub last : S
  pub opened : IsOpened contents (File from) 0 (left_of first)
  pub taken : List ℕ
  pub lost : Consumes (left_of first) (left_of last) taken
  pub cs : List Chunk
  pub text : List ℕ
  pub chunks : AreChunkTexts [] cs text
  pub rest : List ℕ
  pub whole : taken ≡ magic ++ text ++ rest
  pub created : Becomes target target' out
  pub written : BecomesFront held held' (magic ++ text)

-- and then a read of the input failed
pub record IsFailedRepair {S M : Type 0} (left_of : S → Option (List ℕ)) (faults_of : S → ℕ) (mark_of : S → M) (contents : Option Contents) (from out : List ℕ) (target target' held held' : Option (List ℕ)) : Type 0 where
  pub cut : IsCutRepair left_of contents from out target target' held held'
  pub failed : HasFailed left_of faults_of mark_of cut.first cut.last

-- where contents are told, the first text at the name is longer than counts
abbrev pub IsToldLong : Option Contents → List ℕ → Type 0
IsToldLong contents name = (texts : Contents) → contents ≡ Some texts → (text : List ℕ) × (slice_get (texts (File name)) 0 ≡ Some text) × (byte_limit < length text)

-- more bytes than count were taken
pub record IsLongRepair {S : Type 0} (left_of : S → Option (List ℕ)) (contents : Option Contents) (from out : List ℕ) (target target' held held' : Option (List ℕ)) : Type 0 where
  pub cut : IsCutRepair left_of contents from out target target' held held'
  pub more : byte_limit < length cut.taken
  pub told : IsToldLong contents from

-- the statuses of a repair that was done
abbrev pub is_repaired : ℕ → Bool
is_repaired n = n == 0 || n == 1

-- nothing of the outside failed: no call of the dock, and no read of the source that was opened at the name
pub record NoneFailed {S M I : Type 0} (left_of : S → Option (List ℕ)) (faults_of : S → ℕ) (mark_of : S → M) (input_mark_of : S → I) (contents : Option Contents) (marks : Option (Given I)) (name : List ℕ) (opens opens' writes writes' says says' : ℕ) : Type 0 where
  pub opening : Rose opens opens' → ⊥
  pub writing : Rose writes writes' → ⊥
  pub saying : Rose says says' → ⊥
  pub reading : HasReadFault left_of faults_of mark_of input_mark_of contents marks (File name) 0 → ⊥

-- where the first text at the name begins with the magic and has no more bytes than count, and nothing of the outside failed, the status is 0 or 1,
-- or there was no memory
abbrev pub CompletesRepair : {S M I : Type 0} → (S → Option (List ℕ)) → (S → ℕ) → (S → M) → (S → I) → Option Contents → Option (Given I) → List ℕ → ℕ → ℕ → ℕ → ℕ → ℕ → ℕ → ℕ → Type 0
CompletesRepair left_of faults_of mark_of input_mark_of contents marks name opens opens' writes writes' says says' status =
    (texts : Contents) (rest : List ℕ) → contents ≡ Some texts → slice_get (texts (File name)) 0 ≡ Some (magic ++ rest) → length (magic ++ rest) ≤ byte_limit
    → NoneFailed left_of faults_of mark_of input_mark_of contents marks name opens opens' writes writes' says says' → IsTrue (is_repaired status || status == 9)

-- what is said of a repair: how many chunks and bytes were kept, and how many bytes were not
abbrev pub repaired_line : ℕ → ℕ → ℕ → List ℕ
repaired_line chunks bytes skipped = codes "kept " ++ (decimal chunks ++ (codes " bytes " ++ (decimal bytes ++ (codes " skipped " ++ decimal skipped))))

-- the status by how many bytes were not kept
abbrev pub repaired_status : ℕ → ℕ
repaired_status zero = 0
repaired_status (suc n) = 1

abbrev pub is_repair_status : ℕ → Bool
is_repair_status n = n == 0 || n == 1 || n == 3 || n == 4 || n == 5 || n == 7 || n == 8 || n == 9
