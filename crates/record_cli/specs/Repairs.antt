-- What a repair makes of a recording that was cut. This project's own.
use Rattle.std.specs.Prelude.{◌≡◌, ℕ, ◌-◌, ◌<◌, ◌≤◌, ◌↔◌, ◌==◌, ◌||◌, false, IsTrue, List, [], ◌∷◌, ◌++◌, length, take, Option, Some, Ok, slice_get}
use Rattle.std.specs.Io.KnownBytes.{Appends}
use Rattle.rec_base.specs.Contents.{Contents}
use Rattle.rec_base.specs.Known.{AppendsFront, Becomes, printed_line}
use Rattle.rec_base.specs.declared.name.Name.TheVariants.{File}
use Rattle.chunk_grammar.specs.declared.chunk.Chunk.{Chunk}
use Rattle.chunk_grammar.specs.Chunk.{least_file_text}
use Rattle.plan_model.specs.Commands.{command_in, repair_file}
use Rattle.plan_model.specs.declared.top.Top.TheVariants.{File as for_files}
use Rattle.file_call.specs.Repaired.{NoneFailed, byte_limit, is_repaired, repaired_line, repaired_status}
use Rattle.record_cli.specs.FileAnswer.{IsFileAnswer}
use Rattle.record_cli.specs.Shown.{Shown}
use Rattle.record_cli.specs.Statuses.{is_written}

-- the first p bytes of the file of these chunks end with its magic, or with one of the chunks
pub record IsChunkEnd (p : ℕ) (chunks : List Chunk) : Type 0 where
  pub front : List Chunk
  pub behind : List Chunk
  pub parts : chunks ≡ front ++ behind
  pub size : p ≡ length (least_file_text front)

-- these are the chunks that lie whole within the first p bytes of the file of all: the first ones, in order, up to one that doesn't fit
pub record AreWholeWithin (p : ℕ) (chunks kept : List Chunk) : Type 0 where
  pub behind : List Chunk
  pub parts : chunks ≡ kept ++ behind
  pub fit : length (least_file_text kept) ≤ p
  pub next : (c : Chunk) (more : List Chunk) → behind ≡ c ∷ more → p < length (least_file_text (kept ++ c ∷ []))

-- how many of the first p bytes are no whole chunk
abbrev pub cut_off : ℕ → List Chunk → ℕ
cut_off p kept = p - length (least_file_text kept)

-- the line of a repair that kept these chunks of the first p bytes
abbrev pub kept_line : ℕ → List Chunk → List ℕ
kept_line p kept = printed_line (repaired_line (length kept) (length (least_file_text kept)) (cut_off p kept))

-- the words ask for the plain repair of an input that is the first p bytes of the file of these chunks, the magic at least; and this is the answer
pub record IsRepairOfCut {S M I : Type 0} (left_of : S → Option (List ℕ)) (faults_of : S → ℕ) (mark_of : S → M) (input_mark_of : S → I) (chunks : List Chunk) (p : ℕ) (words : List (List ℕ)) (from out : List ℕ) (before after : Shown I) (status : ℕ) : Type 0 where
  pub answer : IsFileAnswer left_of faults_of mark_of input_mark_of words before after status
  pub asks : command_in for_files words ≡ Ok (repair_file false from out)
  pub texts : Contents
  pub told : before.contents ≡ Some texts
  pub input : slice_get (texts (File from)) 0 ≡ Some (take p (least_file_text chunks))
  pub low : 4 ≤ p
  pub high : p ≤ length (least_file_text chunks)

-- the output is the magic and the chunks that lie whole within the first p bytes, the line has their number, and the status is 0 just where the cut
-- is an end of a chunk, and 1 where it isn't. With status 8 the output is the same, and a front of the line was said
pub record IsRepairedCut {I : Type 0} (chunks : List Chunk) (p : ℕ) (out : List ℕ) (before after : Shown I) (status : ℕ) : Type 0 where
  pub kept : List Chunk
  pub whole : AreWholeWithin p chunks kept
  pub created : Becomes before.target after.target out
  pub written : Becomes before.held after.held (least_file_text kept)
  pub status_is : IsTrue (is_repaired status) → status ≡ repaired_status (cut_off p kept)
  pub at_an_end : IsTrue (is_repaired status) → (status ≡ 0) ↔ IsChunkEnd p chunks
  pub said : IsTrue (is_repaired status) → Appends before.printed after.printed (kept_line p kept)
  pub say_fault : status ≡ 8 → AppendsFront before.printed after.printed (kept_line p kept)

-- wherever behind its magic the file of these chunks is cut: the plain repair of what is left keeps the whole chunks, if it writes; and it does
-- write, or there was no memory, where nothing of the outside fails and no more bytes are left than count
pub record RepairsCuts {S M I : Type 0} (left_of : S → Option (List ℕ)) (faults_of : S → ℕ) (mark_of : S → M) (input_mark_of : S → I) (chunks : List Chunk) : Type 0 where
  pub keeps : (p : ℕ) (words : List (List ℕ)) (from out : List ℕ) (before after : Shown I) (status : ℕ)
      → IsRepairOfCut left_of faults_of mark_of input_mark_of chunks p words from out before after status → IsTrue (is_written status)
      → IsRepairedCut chunks p out before after status
  pub completes : (p : ℕ) (words : List (List ℕ)) (from out : List ℕ) (before after : Shown I) (status : ℕ)
      → IsRepairOfCut left_of faults_of mark_of input_mark_of chunks p words from out before after status → p ≤ byte_limit
      → NoneFailed left_of faults_of mark_of input_mark_of before.contents before.marks from before.opens after.opens before.writes after.writes before.says after.says
      → IsTrue (is_repaired status || status == 9)
